mod Adding
mod Finding
mod Keys
pub mod Laws

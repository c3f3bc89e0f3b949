mod Plain
mod Lines
mod Held
mod Feeds
pub mod Laws
mod Printed
mod Elements

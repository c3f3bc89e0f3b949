mod Arriving
mod Coming
mod Flying
pub mod Laws
mod Loads
mod Orders
mod Weighing

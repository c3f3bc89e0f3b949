pub mod Desks
pub mod Kits

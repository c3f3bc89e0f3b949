pub mod Plain
pub mod Reached

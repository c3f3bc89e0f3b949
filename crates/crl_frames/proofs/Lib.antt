mod Copies
mod Entries
mod Folds
mod Known
pub mod Laws
mod Loads
mod Regions
mod Runs
mod Scripts
mod Spelled
mod Table
mod Values

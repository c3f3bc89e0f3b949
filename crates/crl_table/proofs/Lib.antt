mod Names
mod Rows
mod Weights
pub mod Laws

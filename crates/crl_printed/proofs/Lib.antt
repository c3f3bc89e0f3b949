mod Filled
pub mod Laws
mod Regions
mod Rounds

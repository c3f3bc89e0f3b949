mod Balances
mod Boxes
mod Counts
mod Ending
mod Final
pub mod Laws
mod Rounding
mod Runs
mod States
mod Still
mod Story

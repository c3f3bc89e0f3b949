pub mod Laws
mod Cases
mod Chosen
mod Counts
mod Fits
mod Runs
mod Tokens

pub mod Laws
mod Calling
mod Fitting
mod Owing
mod Putting
mod Regions
mod Sizes
mod Turns

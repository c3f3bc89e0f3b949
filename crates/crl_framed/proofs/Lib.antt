mod Ends
pub mod Laws
mod Homes
mod Numbers
mod Placed
mod Regions
mod Results
mod Runs
mod Serials
mod Typed
mod Words

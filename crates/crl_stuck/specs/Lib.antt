pub mod Ends
pub mod Stuck

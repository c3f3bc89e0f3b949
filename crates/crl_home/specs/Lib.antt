pub mod Debts
pub mod Fits
pub mod HomesState
pub mod Keeping
pub mod Posts
pub mod Starts

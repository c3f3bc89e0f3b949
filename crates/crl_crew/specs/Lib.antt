pub mod Standing
pub mod Driving
pub mod Working
pub mod Ending
pub mod Tasks

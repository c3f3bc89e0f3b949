pub mod Fronts
pub mod Rule
pub mod Plays
pub mod Calls
pub mod Passes
pub mod Closing
pub mod Ending

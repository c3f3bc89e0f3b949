pub mod Called
pub mod Entries
pub mod Heard
pub mod Refused
pub mod Turns

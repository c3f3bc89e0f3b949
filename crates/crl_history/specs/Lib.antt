pub mod Mirrors
pub mod Legal

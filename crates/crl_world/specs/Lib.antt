pub mod Choosing
pub mod Members
pub mod Records
pub mod Regions
pub mod Seen
pub mod Starting
pub mod Stepping

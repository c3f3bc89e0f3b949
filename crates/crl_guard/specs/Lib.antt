pub mod GuardWrites
pub mod Standings

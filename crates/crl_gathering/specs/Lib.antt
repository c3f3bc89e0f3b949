pub mod Lengths
pub mod RoundState
pub mod Tallies

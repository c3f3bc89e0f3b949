pub mod Coherent
pub mod Directory
pub mod Facts
pub mod Pairs
pub mod Region

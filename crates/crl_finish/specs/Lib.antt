pub mod Finish
pub mod Unnested

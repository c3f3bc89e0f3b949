pub mod Deletes
pub mod Maps
pub mod Spans
pub mod Sums

pub mod Trails
pub mod Answers
pub mod Callers
pub mod Shown
pub mod Tries

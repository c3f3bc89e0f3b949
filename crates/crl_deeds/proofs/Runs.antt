pub mod Enabled
pub mod Grown
pub mod Kept
pub mod Known
pub mod Touched

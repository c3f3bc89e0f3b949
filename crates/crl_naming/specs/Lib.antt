pub mod Forgetting
pub mod Lives
pub mod Readied

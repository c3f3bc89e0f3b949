pub mod Calls
pub mod FoldOf
pub mod Folds
pub mod Guards
pub mod Names
pub mod Patches
pub mod Reports
pub mod Stages

pub mod Mappings
pub mod OpenReads

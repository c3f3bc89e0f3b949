pub mod JournalState
pub mod Merging
pub mod RecordsState
pub mod Told

pub mod PapersState
pub mod Meetings

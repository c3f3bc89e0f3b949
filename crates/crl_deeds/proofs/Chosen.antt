pub mod Allowed
pub mod Bound
pub mod Drafts
pub mod Followed
pub mod Lists
pub mod Words

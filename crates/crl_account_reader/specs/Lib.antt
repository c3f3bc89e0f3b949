pub mod Words
pub mod Reading
pub mod Guess
pub mod Step
pub mod Unread
pub mod Reader

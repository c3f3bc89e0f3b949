pub mod Covers
pub mod MailboxState
pub mod Stacks

pub mod Addresses
pub mod MailFits
pub mod Reached
pub mod Steps
pub mod View

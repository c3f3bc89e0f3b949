mod Mails
mod Rows

mod Begins
mod Ends
mod Known
mod Rows

mod Agrees
mod Parses
mod Values
mod Walks

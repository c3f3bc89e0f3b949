mod Blank
mod Functions
mod Histories
pub mod Laws
mod Listing
mod Named
mod RowSet
mod Rounds
mod Runs
mod Sections
mod States
mod Tables

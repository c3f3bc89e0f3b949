mod Budgets
mod Costs
mod Counters
mod Credits
mod Deeds
mod Homes
pub mod Laws
mod Numbers
mod Posts
mod Regions
mod Runs
mod Sides
mod Tables

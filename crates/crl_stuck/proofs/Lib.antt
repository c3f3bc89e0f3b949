mod Choices
mod Least
mod Elsewhere
mod Sections
mod Waiters
mod Reports
mod Sizes
mod Progress
mod RunsEnd
pub mod Laws

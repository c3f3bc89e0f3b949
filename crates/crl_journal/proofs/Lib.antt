mod Growth
mod Popping
mod Queues
mod Recorded
pub mod Laws
mod Telling

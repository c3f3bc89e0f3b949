mod Cases
mod Weights
mod Storing
mod Rules
mod Sending
mod Asking
mod Having
mod Moving
mod Lived
mod Home
mod Side
mod Pairs
mod Tables
mod Sizes
mod Stages
mod Counts
mod Standing
pub mod Laws

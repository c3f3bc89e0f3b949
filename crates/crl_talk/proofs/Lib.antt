pub mod Laws
mod Answered
mod Asking
mod Effects
mod Ends
mod Events
mod Going
mod Guards
mod Heard
mod Moves
mod Pending
mod Script
mod Sides
mod Standing
mod Stepping
mod Talked
mod Weights

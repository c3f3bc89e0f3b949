mod Effects
mod Opened
mod Places
mod Moved
mod Following
mod Done
mod Joined
pub mod Laws

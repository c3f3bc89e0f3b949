pub mod Laws
mod Allowed
mod Following
mod Free
mod Heard
mod Quiet
mod Runs

mod Parts
mod Digits
mod Again
mod Lines
mod Stages
mod Readers
pub mod Laws

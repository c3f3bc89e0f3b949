pub mod Laws
mod Logs
mod Holders
mod Keeps
mod WordSteps
mod Parting
mod Shaping
mod Taking
mod Opens
mod Draining

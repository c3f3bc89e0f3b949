pub mod Laws
mod Histories

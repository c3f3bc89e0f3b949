mod Cells
mod Cut
pub mod Laws
mod Slots

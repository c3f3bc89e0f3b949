pub mod Laws
mod Carried
mod Doing
mod Events
mod Fresh
mod Guarded
mod Halves
mod Keeping
mod Nodes
mod RowSums
mod Totals
mod Turning

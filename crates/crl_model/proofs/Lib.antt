pub mod Laws
mod Order
mod PartFolds

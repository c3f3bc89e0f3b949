mod Each
pub mod Laws
mod Named
mod Printable
mod Statements
mod Unnested
mod WordLemmas

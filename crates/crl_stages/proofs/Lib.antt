mod Bits
mod Deletes
mod Nodes
mod Places

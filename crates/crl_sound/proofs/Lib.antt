pub mod Laws
mod Nodes
mod Pieces
mod Queues
mod Senders
mod Tables

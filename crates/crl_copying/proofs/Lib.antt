mod Grants
mod Homes
mod Queues
mod Recalls
mod Served

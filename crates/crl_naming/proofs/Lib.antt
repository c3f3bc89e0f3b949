mod Deletes
mod Limits
mod Purges
mod Unmaps

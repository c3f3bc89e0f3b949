mod Crosses
mod Sharing
mod Walks

mod Rooms
mod Messages

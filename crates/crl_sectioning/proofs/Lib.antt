mod Begins
mod Closes
mod Finds
mod Flushes
mod Heard
mod HomeStarts
mod Lets
mod RemoteStarts

mod Walking
mod Telling
mod Tried
mod Asked
mod Ended
mod Started
mod Shows

mod Blocks
mod Coming
mod Reaching

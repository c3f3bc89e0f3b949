mod Opens
mod Sizes

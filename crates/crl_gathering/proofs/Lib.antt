mod Bytes
mod Filling

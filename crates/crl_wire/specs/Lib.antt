pub mod Table
pub mod Frame
pub mod Decoding

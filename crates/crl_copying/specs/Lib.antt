pub mod Calling
pub mod Serving

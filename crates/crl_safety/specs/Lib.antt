pub mod Safety
pub mod Tests

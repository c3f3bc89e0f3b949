pub mod CacheState
pub mod KeptPlaces

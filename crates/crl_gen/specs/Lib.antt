pub mod Finishing
pub mod Making
pub mod WordsGiven

-- What the crates above may cite of the proofs here: a legal history is printable, and so are the regions at its end.
pub use Rattle.crl_printed.proofs.Filled.{printable_history}
pub use Rattle.crl_printed.proofs.Regions.{regions_filled}

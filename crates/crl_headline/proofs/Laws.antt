-- What the crates above may cite of the proofs here: the entries of a report are legal.
pub use Rattle.crl_headline.proofs.Histories.{legal_report}

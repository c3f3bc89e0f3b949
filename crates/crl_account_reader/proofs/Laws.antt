-- What the crates above may cite of the proofs here.
pub use Rattle.crl_account_reader.proofs.Readers.{given_fits, fault_only, fault_bad}

-- What the crates above may cite of the proofs here: the scripts that are made are printable.
pub use Rattle.crl_gen.proofs.Printable.{made_is_printable}

-- What the crates above may cite of the proofs here.
pub use Rattle.crl_machine.proofs.Histories.{history_push, after_push}

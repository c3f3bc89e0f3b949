-- What the crates above may cite of the proofs here: how many messages and events a run has at most, and how far counters come.
pub use Rattle.crl_bound.proofs.Runs.{messages_bounded}
pub use Rattle.crl_bound.proofs.Numbers.{events_few}
pub use Rattle.crl_bound.proofs.Counters.{counters_fit}

-- What the crates above may cite of the proofs here: what blocks a node where no piece is in a box, and where a run ends.
pub use Rattle.crl_stuck.proofs.Choices.{stuck_has_none}
pub use Rattle.crl_stuck.proofs.Waiters.{waiters, ends_stuck}
pub use Rattle.crl_stuck.proofs.Reports.{names_stuck}
pub use Rattle.crl_stuck.proofs.RunsEnd.{stuck_chosen, run_ends, one_end, messages_most, rests}

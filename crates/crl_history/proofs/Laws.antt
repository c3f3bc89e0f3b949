-- What the crates above may cite of the proofs here.
pub use Rattle.crl_history.proofs.Final.{mirrors_in_runs, change_nodes, all_nodes}
pub use Rattle.crl_history.proofs.Histories.{engaged_in_runs, entries_legal, accounts_legal}
pub use Rattle.crl_history.proofs.Finals.{quiet_ends}
pub use Rattle.crl_history.proofs.Guards.{answers_show}
-- Runs with one event more.
pub use Rattle.crl_history.proofs.Runs.{run_then}
pub use Rattle.crl_history.proofs.Histories.{machine_then}
pub use Rattle.crl_history.proofs.RoundEntries.{sendable}

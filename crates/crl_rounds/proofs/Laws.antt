-- What the crates above may cite of the proofs here: where nodes stand in their rounds, what is under way, which entries of
-- rounds are recorded, and what an account has of a node's rounds.
pub use Rattle.crl_rounds.proofs.Final.{rounds_in_runs, mail_in_runs, entries_fit, came_from_start, told_from_start}
pub use Rattle.crl_rounds.proofs.States.{after_append}
pub use Rattle.crl_rounds.proofs.Boxes.{all_map}

-- What the crates above may cite of the proofs here.
-- A node of a run has heard what it heard there; and what it hears with one event more.
pub use Rattle.crl_plays.proofs.Heard.{has_heard}
-- Two nodes that heard the same: both are free or neither is; and while they are, they have the same sections open, and allow
-- the same changes and ends of write sections.
pub use Rattle.crl_plays.proofs.Heard.{free_as_heard, both_free, same_sections}
pub use Rattle.crl_plays.proofs.Allowed.{allowed_as_heard}

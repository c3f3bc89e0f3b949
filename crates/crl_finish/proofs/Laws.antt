-- What the crates above may cite of the proofs here: that unnested, aligned scripts finish, and what is unnested where
-- statements stand one after another.
pub use Rattle.crl_finish.proofs.Done.{finishes, comes_to_finish}
pub use Rattle.crl_finish.proofs.Joined.{unnested_join, rounds_join}

-- What the crates above may cite of the proofs here.
-- The choices by which nodes have a statement left are those of a run on its way.
pub use Rattle.crl_world.proofs.Turning.{choices_of_run}

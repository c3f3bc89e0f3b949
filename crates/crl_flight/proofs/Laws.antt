-- What the crates above may cite of the proofs here: what is under way after a posting, a carriage and a piece that comes,
-- and what it weighs.
pub use Rattle.crl_flight.proofs.Coming.{comes, all_put}
pub use Rattle.crl_flight.proofs.Flying.{flight_as, carried_fly, posts_fly, messages_posted, none_boxed}
pub use Rattle.crl_flight.proofs.Loads.{key_same}
pub use Rattle.crl_flight.proofs.Orders.{moves_then, moves_before, moves_in, moves_behind, took_left, took_right}
pub use Rattle.crl_flight.proofs.Weighing.{flight_weighs}

-- What the crates above may cite of the proofs here: keys that are equal, and a message of one piece, which needs no gathering.
pub use Rattle.crl_parcels.proofs.Keys.{key_same, key_self}
pub use Rattle.crl_parcels.proofs.Adding.{one_piece_whole, one_piece_complete, none_at_key}

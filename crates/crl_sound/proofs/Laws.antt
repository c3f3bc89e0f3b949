-- What the crates above may cite of the proofs here: that nodes are safe, with the pieces that come, and where pieces go.
pub use Rattle.crl_sound.proofs.Nodes.{numbers_known, nodes_safe}
pub use Rattle.crl_sound.proofs.Pieces.{pieces_safe, pieces_leave}
pub use Rattle.crl_sound.proofs.Tables.{put_length}

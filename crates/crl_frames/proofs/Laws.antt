-- What the crates above may cite of the proofs here: each piece in a box is one of the table, and of a typed run has a frame,
-- of bytes; and which runs are typed.
pub use Rattle.crl_frames.proofs.Known.{all_in_table, all_fit, all_byte_frames, all_to_carry}
pub use Rattle.crl_frames.proofs.Scripts.{follows_typed}

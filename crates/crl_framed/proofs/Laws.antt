-- What the crates above may cite of the proofs here: what fits the fields of each piece's frame.
pub use Rattle.crl_framed.proofs.Ends.{ends_fit, homes_fit}
pub use Rattle.crl_framed.proofs.Words.{numbers_fit}
pub use Rattle.crl_framed.proofs.Placed.{pieces_placed, sizes_fit}
pub use Rattle.crl_framed.proofs.Serials.{serials_fit, serials_real}
-- What holds of all elements of a list, and of all mail of a region.
pub use Rattle.crl_framed.proofs.Ends.{both}
pub use Rattle.crl_framed.proofs.Regions.{put_back, all_moved}
pub use Rattle.crl_framed.proofs.Words.{found, about_self}
-- A run with one event more, and one with none.
pub use Rattle.crl_framed.proofs.Runs.{last_world, last_run, no_table}

-- What the crates above may cite of the proofs here: bytes that are cut and joined, and slots that come.
pub use Rattle.crl_pieces.proofs.Cut.{HaveSizes, cut_sizes, join_cut, length_cut}
pub use Rattle.crl_pieces.proofs.Cells.{came_one, complete_joins, complete_left, fresh_came, left_complete, length_cells, part_at, parts_came, parts_fresh, slots_came, slots_fresh, slots_none}

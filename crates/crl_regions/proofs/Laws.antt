-- What the crates above may cite of the proofs here: what is known of every world that a run reaches.
pub use Rattle.crl_regions.proofs.Runs.{regions_start, regions_step, regions_in_runs, count_in_run}
pub use Rattle.crl_regions.proofs.Addressees.{pieces_to_others, messages_to_others, boxes_to_others, quiet_boxes, all_parts}
pub use Rattle.crl_regions.proofs.Accounts.{array_accounted}
pub use Rattle.crl_regions.proofs.NodeLaws.{sections_are_tables, write_alone, sizes_known, askers_wait, waiters_ask, messages_meet, pieces_meet, whole_meet}
pub use Rattle.crl_regions.proofs.Events.{box_took}
pub use Rattle.crl_regions.proofs.Single.{all_by_took}
pub use Rattle.crl_regions.proofs.AllNodesHold.{left_none}

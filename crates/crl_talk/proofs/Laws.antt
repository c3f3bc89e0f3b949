-- What the crates above may cite of the proofs here.
pub use Rattle.crl_talk.proofs.Script.{calls_follow, end_of, plain_of, refused, call_for, drafts_same, call_of_left}
pub use Rattle.crl_talk.proofs.Heard.{sections_are_guards}
pub use Rattle.crl_talk.proofs.Standing.{calls_stand}
pub use Rattle.crl_talk.proofs.Ends.{ends_show_guards, bytes_of}
-- What a node that waits for a section has asked for, and that it keeps; and what an event does that is neither a call nor an
-- answer taken.
pub use Rattle.crl_talk.proofs.Asking.{AskedAs, hears_as, granted_as, served_own_as}
pub use Rattle.crl_talk.proofs.Guards.{call_begins}
pub use Rattle.crl_talk.proofs.Heard.{is_away}
pub use Rattle.crl_talk.proofs.Moves.{is_move, each_moved}

-- What the crates above may cite of the proofs here: coherence along a region's events, the messages that fit, the
-- sections that open, and what is known of lists of messages.
pub use Rattle.crl_coherence.proofs.Events.{created_kept, happens_kept, runs_kept}
pub use Rattle.crl_coherence.proofs.Fits.{fits_grant, fits_return, fits_release, fits_ask, queued_none}
pub use Rattle.crl_coherence.proofs.Opens.{grant_opens, asked_quiet}
pub use Rattle.crl_coherence.proofs.Keeps.{return_opens, release_opens, array_left}
pub use Rattle.crl_coherence.proofs.OpenBytes.{open_bytes}
pub use Rattle.crl_coherence.proofs.WritersAlone.{writer_alone}
pub use Rattle.crl_coherence.proofs.Lists.{at-put_same, at-put_other, same_or, picked_none, picked_some, picks-append, more_none, took_some, took_none, took_nothing, NoTwo, took_all}
pub use Rattle.crl_coherence.proofs.Statements.{opens_rightly, shows_the_array, copies_once, messages_are_fit, waiting_is_blocked, asks_once, versions_once, exclusive_alone, marks_have_message, head_waits, bytes_of_array}
pub use Rattle.crl_coherence.proofs.Facts.{grants_one, returns_one}

-- What the crates above may cite of the proofs here.
-- What an event that may come finds.
pub use Rattle.crl_deeds.proofs.Runs.Enabled.{free_is, taken_there, may_call, may_collect, may_handle, may_carry, collect_node, handle_node, carry_node, touches_own}
-- That a node does deeds, and a world turns; what a deed leaves alone; what holds of each node and message by itself.
pub use Rattle.crl_deeds.proofs.Cases.Called.{call_deed, not_refused}
pub use Rattle.crl_deeds.proofs.Cases.Heard.{message_deed}
pub use Rattle.crl_deeds.proofs.Cases.Turns.{received, turn_of, turn_count, turn_events, run_count, run_events, deed_frame, lives_frame, took_at, all_took, each_at, held_turn, held_run, pieces_held}
-- What holds of every node in every run.
pub use Rattle.crl_deeds.proofs.Fits.Worlds.{fits_start, fits_event, fits_run, fits_in_runs, away_load}
pub use Rattle.crl_deeds.proofs.Runs.Kept.{with_rest, kept_turn, kept_run}
pub use Rattle.crl_deeds.proofs.Counts.OpenReads.{sections_kept, sections_fit}
pub use Rattle.crl_deeds.proofs.Fits.Parts.{here_of, here_if, there_if, not_mine, home_bytes, remote_bytes, queue_of, asking_of, mapped_home, mapped_remote}
pub use Rattle.crl_deeds.proofs.Fits.Waits.{own_waits, grant_waits, serves_goes}
pub use Rattle.crl_deeds.proofs.Fits.CopyMessages.{waits_own, waits_granted}
pub use Rattle.crl_deeds.proofs.Tokens.Maps.{going_own, warned}
-- Counts, and all that is known of a world.
pub use Rattle.crl_deeds.proofs.Counts.Mappings.{mappings_are_counted, counted_local, counted_start, members_are}
pub use Rattle.crl_deeds.proofs.Runs.Known.{none_local, known_start, known_step, known_run, life_run, length_end}
-- Sums, weights and tokens.
pub use Rattle.crl_deeds.proofs.Tokens.Sums.{sum_with, sum_part, sum_new, weigh_append, weigh_took, weighs_posted, boxed_sum, none_to, token_turn}
pub use Rattle.crl_deeds.proofs.Tokens.Spans.{whole_of, keyed_none, part_same, parts_none, no_wait, no_wait_as, even, shut, parting_none, mails_none, purges_none, span_copies, span_rounds, span_notes}
pub use Rattle.crl_deeds.proofs.Tokens.Maps.{map_life, who_maps_has_one}
pub use Rattle.crl_deeds.proofs.Tokens.Deletes.{delete_life, who_deletes_has_one}
-- What the steps of tables leave.
pub use Rattle.crl_deeds.proofs.Fits.TableSteps.{no_is_one, asked_goes, returned_goes, released_goes, read_goes, write_goes, starts_fit, remote_start, recalled_goes, yields_goes, read_ends, write_ends, flushes_goes}
-- Tables by name, lists, and verdicts.
pub use Rattle.crl_deeds.proofs.Fits.Names.{same_name, name_self, other_name, by_name, by_test}
pub use Rattle.crl_deeds.proofs.Fits.TableRows.{home_put, home_end, home_next, home_none, lifetime_put}
pub use Rattle.crl_deeds.proofs.Fits.Parts.{is_cached, not_cached, kept_dropped, kept_more}
pub use Rattle.crl_deeds.proofs.Chosen.Lists.{all_append, all_gathered, chosen_is}
pub use Rattle.crl_deeds.proofs.Runs.Grown.{append_nil, world_grows, account_grows, hears_grow}
pub use Rattle.crl_deeds.proofs.Fits.LifetimeCalls.{none_of}
pub use Rattle.crl_deeds.proofs.Fits.SectionCalls.{open_size}
-- What a node finds of a call that it takes or refuses.
pub use Rattle.crl_deeds.proofs.Cases.Refused.{refused_for, closed_is, is_mapped_by, write_starts_closed, read_starts_below, read_ends_open, write_ends_open, create_fits, send_fits}
-- Where entries are decided.
pub use Rattle.crl_deeds.proofs.Cases.Entries.{decided_by_call, decided_by_message, decided}
-- What a script and an order choose is a run.
pub use Rattle.crl_deeds.proofs.Chosen.Drafts.{sound_start, given_left}
pub use Rattle.crl_deeds.proofs.Chosen.Allowed.{allowed, changed_left, follow_runs, put_length}
pub use Rattle.crl_deeds.proofs.Chosen.Followed.{follow_turns, follow_world, follow_events, follow_account, nexts_gather, handles_gather, carries_gather}
pub use Rattle.crl_deeds.proofs.Chosen.Bound.{turns_bounded}

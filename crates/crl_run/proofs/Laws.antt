-- What the crates above may cite of the proofs here: what is chosen goes on, has at most an event a turn, and has the
-- entries of its events; the turns of a script of at most 2^40 statements are few.
pub use Rattle.crl_run.proofs.Lasting.{chosen_on}
pub use Rattle.crl_run.proofs.Events.{chosen_few}
pub use Rattle.crl_run.proofs.Ending.{turns_fit}
-- What every script is to `run`.
pub use Rattle.crl_run.proofs.Scripts.{are_statements, are_short, statements_in_sum}
-- A node by itself: the guards that a free node of a run holds, what it does for a statement, and what it holds after an
-- event that it hears.
pub use Rattle.crl_run.proofs.ActorLemmas.{begins, takes, keeps}
pub use Rattle.crl_run.proofs.Fitting.{can_act, exclusive, act_fits}
pub use Rattle.crl_run.proofs.Unguarded.{IsUnguarded, act_unguarded}
pub use Rattle.crl_run.proofs.Heard.{none_held, plain_verdict, SpendsOne, act_spends, hears_answer, hears_call}
pub use Rattle.crl_run.proofs.Taken.{changed_holds, call_answer}
pub use Rattle.crl_run.proofs.TurnSteps.{at_get}

use Rattle.crl_deeds.proofs.Laws.{follow_turns}
use Rattle.crl_frames.proofs.Laws.{follows_typed}
use Rattle.crl_frames.proofs.theorems.typed_scripts_run_typed.Goals as goal

pub returns : goal.returns
returns c = λ count capacity blocks words k script limit.
    let run = c.choices_make_runs.ensures.run count capacity blocks words k script.are limit in
    let typed = follows_typed count capacity blocks _ _ script.typed (follow_turns count capacity blocks words k) run.enabled in
    record { nodes = script.few; is_run = run; names = typed.0; brought = typed.1 }

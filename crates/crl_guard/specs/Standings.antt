-- What a node is at.
use Rattle.std.specs.Prelude.{Bool, true, false}
use Rattle.std.specs.declared.option.Option.{Option}
use Rattle.std.specs.declared.option.Option.TheVariants.{None, Some}
use Rattle.crl_model.specs.Guards.{Guard}
use Rattle.crl_model.specs.declared.activity.Answer.{Answer}
use Rattle.crl_model.specs.declared.activity.Awaited.{Awaited}
use Rattle.crl_model.specs.declared.activity.Activity.{Activity}
use Rattle.crl_model.specs.declared.activity.Activity.TheVariants.{Free, Waiting, Ready}

-- the answer that the node has yet to take
abbrev pub answer_at : Activity Guard Guard → Option (Answer Guard Guard)
answer_at Free = None
answer_at (Waiting awaited) = None
answer_at (Ready answer) = Some answer

-- what it is at, once the answer is taken, if there is one
abbrev pub once_taken : Activity Guard Guard → Activity Guard Guard
once_taken Free = Free
once_taken (Waiting awaited) = Waiting awaited
once_taken (Ready answer) = Free

-- what it waits for
abbrev pub awaited_at : Activity Guard Guard → Option Awaited
awaited_at Free = None
awaited_at (Waiting awaited) = Some awaited
awaited_at (Ready answer) = None

-- it is at nothing
abbrev pub stands_free : Activity Guard Guard → Bool
stands_free Free = true
stands_free (Waiting awaited) = false
stands_free (Ready answer) = false

-- it has an answer to take
abbrev pub stands_ready : Activity Guard Guard → Bool
stands_ready Free = false
stands_ready (Waiting awaited) = false
stands_ready (Ready answer) = true

-- One entry more at the end of a history.
use Rattle.std.proofs.Common.{◌≡◌, List, [], ◌∷◌, ◌++◌, refl}
use Rattle.crl_model.specs.declared.entry.Entry.{Entry}
use Rattle.crl_machine.specs.SingleMachine.{State, IsLegal, after, IsHistory, after_all}

pub history_push : (s : State) (es : List Entry) (e : Entry) → IsHistory s es → IsLegal (after_all s es) e → IsHistory s (es ++ e ∷ [])
history_push s [] e h legal = (legal, tt)
history_push s (x ∷ es) e h legal = (h.0, history_push (after s x) es e h.1 legal)

pub after_push : (s : State) (es : List Entry) (e : Entry) → after_all s (es ++ e ∷ []) ≡ after (after_all s es) e
after_push s [] e = refl
after_push s (x ∷ es) e = after_push (after s x) es e

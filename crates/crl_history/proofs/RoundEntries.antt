-- The entries of collective calls are legal: who comes to a round, and what it gives.
use Rattle.std.proofs.Common.{◌≡◌, ℕ, zero, suc, ◌+◌, ◌<◌, None, length, sym, ◌∙◌, subst, arith}
use Rattle.crl_model.specs.declared.call.CallKind.{CallKind}
use Rattle.crl_model.specs.declared.collective.Part.{Part}
use Rattle.crl_model.specs.declared.collective.Part.TheVariants as part
use Rattle.crl_model.specs.declared.collective.Fold.{Fold}
use Rattle.crl_model.specs.declared.collective.Fold.TheVariants as fold
use Rattle.crl_model.specs.declared.entry.What.TheVariants as what
use Rattle.crl_model.specs.Calls.{kind_of}
use Rattle.crl_model.specs.Folds.{Agrees, IsMixed}
use Rattle.crl_model.specs.FoldOf.{fold_of}
use Rattle.crl_model.proofs.Laws.{agrees_of, fold_agreed}
use Rattle.crl_machine.specs.SingleMachine.{State, IsSendable, IsLegal, IsHistory, parts_from, parts_of, change}
use Rattle.crl_protocol.specs.Node.{Node, Free, Outcome, entry_of}
use Rattle.crl_protocol.specs.Calls.{result_of}
use Rattle.crl_protocol.specs.Verdict.{of_part}
use Rattle.crl_deeds.specs.Deeds.{FreeIf, Cause, Rounds}
use Rattle.crl_deeds.specs.Deeds as deed
use Rattle.crl_deeds.proofs.Laws.{send_fits}
use Rattle.crl_rounds.specs.Standing.{FitAll, FitsRounds}
use Rattle.crl_history.proofs.SectionEntries.{free_now}
use Rattle.crl_history.proofs.Seen.{Sees}

pub sendable : (p : Part) → of_part p ≡ None → IsSendable p
sendable (part.Send bytes) e = send_fits bytes e
sendable part.Barrier e = tt
sendable part.Receive e = tt
sendable (part.Sum v) e = tt
sendable (part.Min v) e = tt
sendable (part.Max v) e = tt

some_parts : (s : State) (round n k : ℕ) → 0 < k → 0 < length (parts_from s round n k)
some_parts s round n zero e = absurd (omega arith)
some_parts s round n (suc k) e = let x = length (parts_from s round (n + 1) k) in omega arith

come_legal : (s : State) (n : Node) (p : Part) → of_part p ≡ None → Sees s n → n.activity ≡ Free → IsLegal s (entry_of n.me (what.Come p))
come_legal s n p e h free = (h.few, (free_now s n h free, sendable p e))

-- A fold other than Mixed is what the parts agree on, and Mixed is the fold of parts that don't agree.
gives_agree : (s : State) (round : ℕ) (f : Fold) → f ≡ fold_of (parts_of s round) → (f ≡ fold.Mixed → ⊥) → Agrees (parts_of s round) f
gives_agree s round f e apart = subst (λ g. Agrees (parts_of s round) g) (sym e) (agrees_of (parts_of s round) (λ w. apart (e ∙ w)))

gives_mixed : (s : State) (round : ℕ) → 0 < s.nodes → fold.Mixed ≡ fold_of (parts_of s round) → IsMixed (parts_of s round)
gives_mixed s round some e f agree =
    let same = fold_agreed (parts_of s round) f (some_parts s round 0 s.nodes some) agree in subst (λ g. Agrees (parts_of s round) g) (sym (e ∙ same)) agree

result_legal : (s : State) (me round : ℕ) (kind : CallKind) (f : Fold) → me < s.nodes → FitsRounds s me (result_of round kind f) → IsLegal s (entry_of me (result_of round kind f))
result_legal s me round kind fold.Mixed few h = (few, (h.told.full, gives_mixed s round (omega arith) h.told.gives, h.of_call))
result_legal s me round kind fold.Barrier few h = (few, (h.full, gives_agree s round _ h.gives (λ e. cc)))
result_legal s me round kind (fold.Broadcast bytes) few h = (few, (h.full, gives_agree s round _ h.gives (λ e. cc)))
result_legal s me round kind (fold.Sum v) few h = (few, (h.full, gives_agree s round _ h.gives (λ e. cc)))
result_legal s me round kind (fold.Min v) few h = (few, (h.full, gives_agree s round _ h.gives (λ e. cc)))
result_legal s me round kind (fold.Max v) few h = (few, (h.full, gives_agree s round _ h.gives (λ e. cc)))

pub rounds_legal : (s : State) (n : Node) (cause : Cause) (o : Outcome) → Rounds n cause o → FreeIf cause n → Sees s n → FitAll s o.entries → IsHistory s o.entries
rounds_legal s n cause o (deed.comes_away p other fits) free h all = (come_legal s n p fits h free, tt)
rounds_legal s n cause o (deed.comes_home p first fits none) free h all = (come_legal s n p fits h free, tt)
rounds_legal s n cause o (deed.comes_last p parts first fits some) free h all = (come_legal s n p fits h free, (result_legal (change s n.me (what.Come p)) n.me (n.rounds + 1) (kind_of p) (fold_of parts) h.few all.1.0, tt))
rounds_legal s n cause o (deed.part_last from round p parts mine k e a some) free h all = (result_legal s n.me mine k (fold_of parts) h.few all.0, tt)
rounds_legal s n cause o (deed.result_comes from round f k e) free h all = (result_legal s n.me round k f h.few all.0, tt)
rounds_legal s n cause o _ free h all = tt

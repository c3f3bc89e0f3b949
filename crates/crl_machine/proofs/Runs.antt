-- Facts that each legal step keeps.
use Rattle.std.proofs.Common.{◌≡◌, ℕ, ◌<◌, List, [], ◌∷◌, ◌++◌, refl, ap, ◌∙◌, arith}
use Rattle.std.proofs.lemmas.Grind.{common_steps}
use Rattle.crl_model.specs.declared.name.Name.{Name}
use Rattle.crl_model.specs.declared.entry.What.{What}
use Rattle.crl_model.specs.declared.entry.What.TheVariants.{Create, Map, Unmap, StartRead, Read, StartWrite, Write, Flush, Deleting, Deleted, Come, Came, Refused}
use Rattle.crl_model.specs.declared.entry.Entry.{Entry}
use Rattle.crl_machine.specs.SingleMachine.{State, start, Applies, change, IsLegal, after, IsHistory, after_all}
use Rattle.crl_machine.specs.Laws.{IsExclusive, left_by, last_left}

newest_one : (s : State) (n : ℕ) (w : What) (q : Name) → (change s n w).bytes q ≡ left_by q w (s.bytes q)
newest_one s n (Create name size) q = refl
newest_one s n (Map name size) q = refl
newest_one s n (Unmap name) q = refl
newest_one s n (Flush name) q = refl
newest_one s n (StartRead name) q = refl
newest_one s n (Read name seen) q = refl
newest_one s n (StartWrite name) q = refl
newest_one s n (Write name before written) q = refl
newest_one s n (Deleting name) q = refl
newest_one s n (Deleted name) q = refl
newest_one s n (Come part) q = refl
newest_one s n (Came round fold) q = refl
newest_one s n (Refused kind place why) q = refl

pub newest_all : (s : State) (q : Name) (es : List Entry) → (after_all s es).bytes q ≡ last_left q es (s.bytes q)
newest_all s q [] = refl
newest_all s q (e ∷ es) = newest_all (after s e) q es ∙ ap (last_left q es) (newest_one s e.node e.what q)

exclusive_step : (s : State) (n : ℕ) (w : What) → n < s.nodes → IsExclusive s → Applies s n w → IsExclusive (change s n w)
exclusive_step s n (Create name size) h x a = record { alone = x.alone; unread = x.unread }
exclusive_step s n (Map name size) h x a = record { alone = x.alone; unread = x.unread }
exclusive_step s n (Unmap name) h x a = record { alone = x.alone; unread = x.unread }
exclusive_step s n (Flush name) h x a = x
exclusive_step s n (StartRead name) h x a = record { alone = x.alone; unread = λ q m k hm hk w. grind (arith, common_steps, x.unread q m k hm hk, a.2 m hm) }
exclusive_step s n (Read name seen) h x a = record { alone = x.alone; unread = λ q m k hm hk w. grind (arith, common_steps, x.unread q m k hm hk w) }
exclusive_step s n (StartWrite name) h x a = record {
  alone = λ q m k hm hk wm wk. grind (arith, common_steps, x.alone q m k hm hk, a.2 m hm, a.2 k hk);
  unread = λ q m k hm hk wm. grind (arith, common_steps, x.unread q m k hm hk, a.2 m hm, a.2 k hk);
}
exclusive_step s n (Write name before written) h x a = record {
  alone = λ q m k hm hk wm wk. grind (arith, common_steps, x.alone q m k hm hk);
  unread = λ q m k hm hk wm. grind (arith, common_steps, x.unread q m k hm hk);
}
exclusive_step s n (Deleting name) h x a = record { alone = x.alone; unread = x.unread }
exclusive_step s n (Deleted name) h x a = record { alone = x.alone; unread = x.unread }
exclusive_step s n (Come part) h x a = record { alone = x.alone; unread = x.unread }
exclusive_step s n (Came round fold) h x a = record { alone = x.alone; unread = x.unread }
exclusive_step s n (Refused kind place why) h x a = record { alone = x.alone; unread = x.unread }

pub exclusive_all : (s : State) (es : List Entry) → IsExclusive s → IsHistory s es → IsExclusive (after_all s es)
exclusive_all s [] x legal = x
exclusive_all s (e ∷ es) x legal = exclusive_all (after s e) es (exclusive_step s e.node e.what legal.0.0 x legal.0.1) legal.1

pub exclusive_start : (n : ℕ) → IsExclusive (start n)
exclusive_start n = record { alone = λ q m k hm hk wm wk. cc; unread = λ q m k hm hk wm. refl }

-- what is legal behind a history is legal in its state
pub legal_behind : (s : State) (es fs : List Entry) (e : Entry) → IsHistory s (es ++ e ∷ fs) → IsLegal (after_all s es) e
legal_behind s [] fs e h = h.0
legal_behind s (x ∷ es) fs e h = legal_behind (after s x) es fs e h.1

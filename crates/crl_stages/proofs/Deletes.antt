-- What a delete makes of a lifetime, where sets are bits.
use Rattle.std.proofs.Common.{◌≡◌, ℕ, ◌^◌, ◌<◌, Bool, true, false, ◌==◌, List, [], ◌∷◌, refl, ap, ◌∙◌, if◌then◌else◌}
use Rattle.std.proofs.lemmas.Bool.{eqb-true, eqb-false}
use Rattle.crl_model.specs.Names.{at_node}
use Rattle.crl_model.specs.declared.stage.Stage.{Stage}
use Rattle.crl_model.specs.declared.stage.Stage.TheVariants.{Going, Gone}
use Rattle.crl_protocol.specs.Lifetimes.{Lifetime, members, lifetime_begins_delete, lifetime_after_answer, lifetime_takes_purged}
use Rattle.crl_stages.specs.NodeSets.{has_node}
use Rattle.crl_stages.proofs.Bits.{no_bits, no_members}

no_node : (nodes set : ℕ) → (set == 0) ≡ true → members nodes (has_node set) ≡ []
no_node nodes set e = ap (λ s. members nodes (has_node s)) (eqb-true set 0 e) ∙ no_members nodes

module _ (nodes deleter asked missing : ℕ) (stage : Stage) where
  pub done_at_once : (asked == 0) ≡ true → record { stage = Gone; asked = has_node asked; missing = has_node missing } ≡ lifetime_begins_delete nodes deleter (record { stage = stage; asked = has_node asked; missing = has_node missing })
  unfolding lifetime_begins_delete
  done_at_once e = let none = no_node nodes asked e in rw (none, lifetime_begins_delete) refl

  pub begun_now : (asked == 0) ≡ false → asked < 2 ^ nodes → record { stage = Going deleter; asked = has_node asked; missing = has_node asked } ≡ lifetime_begins_delete nodes deleter (record { stage = stage; asked = has_node asked; missing = has_node missing })
  unfolding lifetime_begins_delete
  begun_now e h = go (members nodes (has_node asked)) refl
    where
      go : (ms : List ℕ) → members nodes (has_node asked) ≡ ms → record { stage = Going deleter; asked = has_node asked; missing = has_node asked } ≡ lifetime_begins_delete nodes deleter (record { stage = stage; asked = has_node asked; missing = has_node missing })
      go [] w = absurd (eqb-false asked 0 e (no_bits nodes asked w h))
      go (m ∷ ms) w = rw (w, lifetime_begins_delete) refl

after_answer : (nodes left : ℕ) (l : Lifetime) → left < 2 ^ nodes → record l { stage = if left == 0 then Gone else l.stage; missing = has_node left } ≡ lifetime_after_answer nodes (has_node left) l
after_answer nodes left l h = go (left == 0) refl (members nodes (has_node left)) refl
  where
    go : (b : Bool) → (left == 0) ≡ b → (ms : List ℕ) → members nodes (has_node left) ≡ ms → record l { stage = if left == 0 then Gone else l.stage; missing = has_node left } ≡ lifetime_after_answer nodes (has_node left) l
    go true e [] w = rw (e, w, lifetime_after_answer) refl
    go true e (m ∷ ms) w = let none = no_node nodes left e in cc
    go false e [] w = absurd (eqb-false left 0 e (no_bits nodes left w h))
    go false e (m ∷ ms) w = rw (e, w, lifetime_after_answer) refl

pub purged_now : (nodes from asked missing left : ℕ) (stage : Stage) → has_node left ≡ at_node (has_node missing) from false → left < 2 ^ nodes
    → record { stage = if left == 0 then Gone else stage; asked = has_node asked; missing = has_node left } ≡ lifetime_takes_purged nodes from (record { stage = stage; asked = has_node asked; missing = has_node missing })
unfolding lifetime_takes_purged
purged_now nodes from asked missing left stage e h =
    after_answer nodes left (record { stage = stage; asked = has_node asked; missing = has_node missing }) h
    ∙ ap (λ set. lifetime_after_answer nodes set (record { stage = stage; asked = has_node asked; missing = has_node missing })) e

-- An unmap records one entry, before it forgets a region or after. A purge records none, and is answered last.
use Rattle.std.proofs.Common.{◌≡◌, ◌==◌, ◌-◌, ℕ, Bool, true, false, refl, sym, ap, ◌∙◌, List, [], ◌∷◌, ◌++◌, append-nil, append_assoc, if◌then◌else◌}
use Rattle.std.specs.declared.option.Option.{Option}
use Rattle.std.specs.declared.option.Option.TheVariants.{None, Some}
use Rattle.crl_model.specs.declared.name.Name.{Name}
use Rattle.crl_model.specs.declared.entry.What.{What}
use Rattle.crl_model.specs.declared.journal.Recorded.{Recorded}
use Rattle.crl_model.specs.declared.journal.Note.{Note}
use Rattle.crl_model.specs.declared.message.Message.{Message}
use Rattle.crl_model.specs.declared.piece.Piece.{Piece}
use Rattle.crl_protocol.specs.Parcels.{pieces_of, pieces_in}
use Rattle.crl_protocol.specs.Remote.{Remote}
use Rattle.crl_protocol.specs.Lifetimes.{Mapping, CacheStep, cache_with, cache_without, cached_size}
use Rattle.crl_protocol.specs.Node.{Node, Outcome, Done, is_mine, with_mapping, entry_of, only}
use Rattle.crl_protocol.specs.Sectioning.{forgets, forgets_over, with_entry_first}
use Rattle.crl_protocol.specs.Calls.{forgets_evicted, parts_with, unmaps_over}
use Rattle.crl_protocol.specs.Handlers.{purge_over, purge_over_cache, with_post_last}
use Rattle.crl_desk.specs.Desks.{acted}
use Rattle.crl_naming.specs.Forgetting.{with_posts}

-- the outcome records nothing, and there is nothing to wait for
pub record IsQuiet (o : Outcome) : Type 0 where
  pub entries : o.entries ≡ []
  pub answer : o.answer ≡ Done

pub forgets_over_quiet : (name : Name) (r : Option Remote) (n : Node) → IsQuiet (forgets_over name r n)
forgets_over_quiet name None n = record { entries = refl; answer = refl }
forgets_over_quiet name (Some r) n = record { entries = refl; answer = refl }

pub forgets_quiet : (name : Name) (n : Node) → IsQuiet (forgets name n)
unfolding forgets
forgets_quiet name n = forgets_over_quiet name (n.remotes name) n

evicted_quiet : (name : Option Name) (n : Node) → IsQuiet (forgets_evicted name n)
evicted_quiet None n = record { entries = refl; answer = refl }
evicted_quiet (Some name) n = forgets_quiet name n

parts_by : (mine doomed : Bool) (name : Name) (n m : Node) (kept : CacheStep)
    → IsQuiet (if mine then only n Done else if doomed then forgets name n else forgets_evicted kept.evicted m)
parts_by true doomed name n m kept = record { entries = refl; answer = refl }
parts_by false true name n m kept = forgets_quiet name n
parts_by false false name n m kept = evicted_quiet kept.evicted m

parts_quiet : (name : Name) (m : Mapping) (n : Node) → IsQuiet (parts_with name m n)
parts_quiet name m n = parts_by (is_mine n name) m.doomed name n _ (cache_with n.capacity (record { name = name; size = m.size }) n.cache)

count_by : (last : Bool) (o p : Outcome) → IsQuiet o → IsQuiet p → IsQuiet (if last then o else p)
count_by true o p q r = q
count_by false o p q r = r

pub unmaps_quiet : (name : Name) (m : Option Mapping) (n : Node) → IsQuiet (unmaps_over name m n)
unmaps_quiet name None n = record { entries = refl; answer = refl }
unmaps_quiet name (Some m) n =
    count_by (m.count == 1) _ (only (with_mapping name (Some (record m { count = m.count - 1 })) n) Done)
    (parts_quiet name m (with_mapping name None n)) (record { entries = refl; answer = refl })

-- the entry is the only one
pub entry_law : (at : ℕ) (w : What) (mid : Node) (o : Outcome) (records : List Recorded) (notes : List Note)
    → IsQuiet o → mid ≡ with_posts o → records ≡ mid.records ++ record { position = at; entry = entry_of mid.me w } ∷ [] → notes ≡ mid.notes
    → record mid { records = records; notes = notes } ≡ acted at (with_entry_first w o)
entry_law at w mid o records notes q e r s = rw (r, s, e, q.entries) refl

cached_purge_quiet : (name : Name) (size : Option ℕ) (n : Node) → IsQuiet (purge_over_cache name size n)
cached_purge_quiet name None n = record { entries = refl; answer = refl }
cached_purge_quiet name (Some size) n = forgets_quiet name (record n { cache = cache_without name n.cache })

pub purge_quiet : (name : Name) (m : Option Mapping) (n : Node) → IsQuiet (purge_over name m n)
purge_quiet name None n = cached_purge_quiet name (cached_size name n.cache) n
purge_quiet name (Some m) n = record { entries = refl; answer = refl }

pieces_append : (ms ns : List Message) → pieces_in (ms ++ ns) ≡ pieces_in ms ++ pieces_in ns
pieces_append [] ns = refl
pieces_append (m ∷ ms) ns = ap (λ x. pieces_of m ++ x) (pieces_append ms ns) ∙ sym (append_assoc (pieces_of m) (pieces_in ms) (pieces_in ns))

posted_last : (out : List Piece) (ms : List Message) (m : Message) → (out ++ pieces_in ms) ++ pieces_of m ≡ out ++ pieces_in (ms ++ m ∷ [])
posted_last out ms m =
    append_assoc out (pieces_in ms) (pieces_of m)
    ∙ ap (λ x. out ++ x) (sym (pieces_append ms (m ∷ []) ∙ ap (λ x. pieces_in ms ++ x) (append-nil (pieces_of m))))

-- the message is posted last
pub answer_law : (at : ℕ) (m : Message) (mid : Node) (o : Outcome) (out : List Piece)
    → IsQuiet o → mid ≡ with_posts o → out ≡ mid.outbox ++ pieces_of m → record mid { outbox = out } ≡ acted at (with_post_last m o)
answer_law at m mid o out q e h = rw (h, e, posted_last o.node.outbox o.posts m, q.entries, append-nil o.node.records) refl

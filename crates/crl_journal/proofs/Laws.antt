-- A run that grows by an event at its end.
use Rattle.std.proofs.Common.{◌≡◌, ℕ, ◌+◌, ◌<◌, ◌≤◌, List, [], ◌∷◌, ◌++◌, ◌==◌, sym, refl}
use Rattle.std.specs.Prelude.{if◌then◌else◌}
use Rattle.std.proofs.lemmas.List.{append_assoc, append-nil}
use Rattle.crl_protocol.specs.World.{records_of}
use Rattle.crl_journal.specs.Told.{EventEntries, entries_told, records_at, Ascends, next_position}

pub entries_grow : (ts : List EventEntries) (t : EventEntries) → entries_told (ts ++ t ∷ []) ≡ entries_told ts ++ t.entries
entries_grow [] t = append-nil t.entries
entries_grow (u ∷ ts) t = rw (entries_grow ts t) (sym (append_assoc u.entries (entries_told ts) t.entries))

pub records_grow : (i : ℕ) (ts : List EventEntries) (t : EventEntries) → records_at i (ts ++ t ∷ []) ≡ records_at i ts ++ (if t.node == i then records_of t.position t.entries else [])
records_grow i [] t = append-nil (if t.node == i then records_of t.position t.entries else [])
records_grow i (u ∷ ts) t =
    rw (records_grow i ts t) (sym (append_assoc (if u.node == i then records_of u.position u.entries else []) (records_at i ts) (if t.node == i then records_of t.position t.entries else [])))

pub ascends_grows : (nodes p : ℕ) (ts : List EventEntries) (t : EventEntries) → Ascends nodes p ts → t.node < nodes → next_position p ts ≤ t.position → Ascends nodes p (ts ++ t ∷ [])
ascends_grows nodes p [] t a below after = (below, after, tt)
ascends_grows nodes p (u ∷ ts) t a below after = (a.0, a.1, ascends_grows nodes (u.position + 1) ts t a.2 below after)

pub next_grows : (p : ℕ) (ts : List EventEntries) (t : EventEntries) → next_position p (ts ++ t ∷ []) ≡ t.position + 1
next_grows p [] t = refl
next_grows p (u ∷ ts) t = next_grows (u.position + 1) ts t

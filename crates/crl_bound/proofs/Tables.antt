-- The regions that are there, and their sizes, are those that the account creates.
use Rattle.std.proofs.Common.{◌≡◌, ℕ, ◌==◌, Bool, true, false, None, Some, Option, List, [], ◌∷◌, ◌++◌, if◌then◌else◌, refl, ap, sym, ◌∙◌}
use Rattle.std.specs.List.{AllByRecursion}
use Rattle.std.proofs.lemmas.Bool.{cond_both, eqb-true, and_parts}
use Rattle.crl_model.specs.declared.name.Name.{Name}
use Rattle.crl_model.specs.declared.collective.Fold.{Fold}
use Rattle.crl_model.specs.declared.collective.Fold.TheVariants as fold
use Rattle.crl_model.specs.declared.call.Call.{Call}
use Rattle.crl_model.specs.declared.call.CallKind.{CallKind}
use Rattle.crl_model.specs.declared.entry.Entry.{Entry}
use Rattle.crl_model.specs.declared.entry.What.{What}
use Rattle.crl_model.specs.declared.entry.What.TheVariants as what
use Rattle.crl_model.specs.declared.event.Event.{Event}
use Rattle.crl_model.specs.Names.{name_eq, at_name, at_node}
use Rattle.crl_protocol.specs.Home.{Home, HomeStep, new_home}
use Rattle.crl_protocol.specs.Remote.{Remote, RemoteStep}
use Rattle.crl_protocol.specs.Node.{Node, Outcome, home_of, with_home, next_name, entry_of}
use Rattle.crl_protocol.specs.Calls.{creates, result_of}
use Rattle.crl_protocol.specs.Sections.{is_writing}
use Rattle.crl_protocol.specs.Talk.{size_in, created_size}
use Rattle.crl_protocol.specs.World.{World, commits, steps_node}
use Rattle.crl_deeds.specs.Deeds.{Cause, EndsCall, a_read, a_write, Copies, home_opens, home_waits, side_opens, side_waits, home_ends, side_ends, side_flushes, home_serves, home_serves_own, grant_comes, side_called, Lives, made, used_up, map_asks, map_comes, map_denied, deletes_alone, delete_asks, deletes_alone_for, delete_comes, dooms, drops, warns, counts_off, Rounds, comes_away, comes_home, comes_last, part_comes, part_last, part_last_idle, result_comes, Notes, ends_nowhere, Deed, copies, lives, rounds, notes, refuses, idles}
use Rattle.crl_deeds.proofs.Laws.{same_name, home_put, home_end, home_next, home_none}
use Rattle.crl_deeds.specs.NodeFacts.{Fits}
use Rattle.crl_bound.proofs.Homes.{started_credits}
use Rattle.crl_bound.proofs.Deeds.{Facts, MayCall, home_pieces, serves_credit, home_end_credit}

abbrev pub table_size : Option Home → Option ℕ
table_size None = None
table_size (Some h) = Some h.size

abbrev pub size_at : World → Name → Option ℕ
size_at w q = table_size (home_of (w.nodes q.home) q)

abbrev pub Tables : World → List Entry → Type 0
Tables w es = (q : Name) → size_at w q ≡ created_size q es

-- more entries
abbrev pub first_of : Option ℕ → Option ℕ → Option ℕ
first_of None o = o
first_of (Some size) o = Some size

size_first : (q : Name) (w : What) (a b : Option ℕ) → size_in q w (first_of a b) ≡ first_of (size_in q w a) b
size_first q (what.Create name size) a b = go (name_eq name q)
  where
    go : (c : Bool) → (if c then Some size else first_of a b) ≡ first_of (if c then Some size else a) b
    go true = refl
    go false = refl
size_first q _ a b = refl

pub created_append : (q : Name) (es fs : List Entry) → created_size q (es ++ fs) ≡ first_of (created_size q es) (created_size q fs)
created_append q [] fs = refl
created_append q (e ∷ es) fs = ap (size_in q e.what) (created_append q es fs) ∙ size_first q e.what (created_size q es) (created_size q fs)

pub first_none : (o : Option ℕ) → first_of o None ≡ o
first_none None = refl
first_none (Some size) = refl

-- entries that create nothing
abbrev pub NoCreate : What → Type 0
NoCreate (what.Create name size) = ⊥
NoCreate _ = Unit {0}

abbrev NoCreates : List Entry → Type 0
NoCreates es = AllByRecursion (λ (e : Entry). NoCreate e.what) es

size_none : (q : Name) (w : What) → NoCreate w → size_in q w None ≡ None
size_none q (what.Create name size) h = absurd h
size_none q _ h = refl

created_none : (q : Name) (es : List Entry) → NoCreates es → created_size q es ≡ None
created_none q [] h = refl
created_none q (e ∷ es) h = ap (size_in q e.what) (created_none q es h.1) ∙ size_none q e.what h.0

start_none : (write : Bool) (name : Name) → NoCreate (if write then what.StartWrite name else what.StartRead name)
start_none true name = tt
start_none false name = tt

end_none : (bytes : List ℕ) (n : Node) (c : Call) (name : Name) (w : What) (ends : Home → HomeStep) (lowers : Remote → RemoteStep) → EndsCall bytes n c name w ends lowers → NoCreate w
end_none bytes n c name w ends lowers (a_read q v) = tt
end_none bytes n c name w ends lowers (a_write q after v) = tt

result_none : (round : ℕ) (kind : CallKind) (f : Fold) → NoCreate (result_of round kind f)
result_none round kind fold.Mixed = tt
result_none round kind _ = tt

-- What a deed does to the tables of its node.
pub data TableDeed (n : Node) (o : Outcome) : Type 0 where
  keeps_tables : ((q : Name) → table_size (home_of o.node q) ≡ table_size (home_of n q)) → NoCreates o.entries → TableDeed n o
  adds_table : (size : ℕ) → ((q : Name) → home_of o.node q ≡ at_name (home_of n) (next_name n) (Some (new_home n.nodes size)) q) → o.entries ≡ entry_of n.me (what.Create (next_name n) size) ∷ [] → TableDeed n o

size_put : (n : Node) (name : Name) (h g : Home) → home_of n name ≡ Some h → g.size ≡ h.size → (q : Name) → table_size (home_of (with_home name g n) q) ≡ table_size (home_of n q)
size_put n name h g is same q = ap table_size (home_put n name h g is q) ∙ go (name_eq name q) refl
  where
    go : (b : Bool) → name_eq name q ≡ b → table_size (if b then Some g else home_of n q) ≡ table_size (home_of n q)
    go true x = ap Some same ∙ sym (ap table_size is) ∙ ap (λ p. table_size (home_of n p)) (same_name name q x)
    go false x = refl

table_copies : (P : Name → ℕ) (nodes : ℕ) (es : List Entry) (j : ℕ) (n : Node) (cause : Cause) (o : Outcome) → Copies n cause o → Fits j n → MayCall cause n → Facts P nodes es n → TableDeed n o
table_copies P nodes es j n cause o (home_opens c write name h is e v x) f may k =
    keeps_tables (size_put n name h _ e (started_credits (P name) n.me write h (home_pieces P nodes es j n name h e f k)).size) (start_none write name, tt)
table_copies P nodes es j n cause o (home_waits c write name h is e v x) f may k =
    keeps_tables (size_put n name h _ e (started_credits (P name) n.me write h (home_pieces P nodes es j n name h e f k)).size) tt
table_copies P nodes es j n cause o (home_ends c name y ends lowers h is e) f may k =
    keeps_tables (size_put n name h _ e (home_end_credit P nodes es j n c name y ends lowers h is may e f k).size) (end_none _ n c name y ends lowers is, tt)
table_copies P nodes es j n cause o (home_serves from m name h s is e x) f may k =
    keeps_tables (size_put n name h _ e (serves_credit P nodes nodes es j n h from m name s is e f k).size) tt
table_copies P nodes es j n cause o (home_serves_own from m name h s is e x) f may k =
    keeps_tables (size_put n name h _ e (serves_credit P nodes nodes es j n h from m name s is e f k).size) (start_none (is_writing s.home.mine) name, tt)
table_copies P nodes es j n cause o (side_opens c write name r is e g v x) f may k = keeps_tables (λ q. refl) (start_none write name, tt)
table_copies P nodes es j n cause o (side_waits c write name r is e g v x) f may k = keeps_tables (λ q. refl) tt
table_copies P nodes es j n cause o (side_ends c name y ends lowers r is e g) f may k = keeps_tables (λ q. refl) (end_none _ n c name y ends lowers is, tt)
table_copies P nodes es j n cause o (side_flushes name r other e closed) f may k = keeps_tables (λ q. refl) (tt, tt)
table_copies P nodes es j n cause o (grant_comes from name version g r e y) f may k = keeps_tables (λ q. refl) (start_none _ name, tt)
table_copies P nodes es j n cause o (side_called from m name r s is e) f may k = keeps_tables (λ q. refl) tt

table_lives : (n : Node) (cause : Cause) (o : Outcome) → Lives n cause o → TableDeed n o
table_lives n cause o (made size e) = adds_table size (home_end n (creates size n).node (new_home n.nodes size) refl refl) refl
table_lives n cause o (used_up size why e y) = keeps_tables (λ q. ap table_size (home_none n q)) (tt, tt)
table_lives n cause o (map_asks name e other c real) = keeps_tables (λ q. refl) tt
table_lives n cause o (map_comes from name purged size e) = keeps_tables (λ q. refl) tt
table_lives n cause o (map_denied from name purged s why t d u e) = keeps_tables (λ q. refl) tt
table_lives n cause o (deletes_alone name mine live e) = keeps_tables (λ q. refl) (tt, (tt, tt))
table_lives n cause o (delete_asks name other real) = keeps_tables (λ q. refl) tt
table_lives n cause o (deletes_alone_for from name mine live e) = keeps_tables (λ q. refl) (tt, (tt, tt))
table_lives n cause o (delete_comes from name d e) = keeps_tables (λ q. refl) tt
table_lives n cause o (dooms from name m e) = keeps_tables (λ q. refl) tt
table_lives n cause o (drops from name size e c) = keeps_tables (λ q. refl) tt
table_lives n cause o (warns from name e c) = keeps_tables (λ q. refl) tt
table_lives n cause o (counts_off from name deleter m ms mine e missing left) = keeps_tables (λ q. refl) tt
table_lives n cause o _ = keeps_tables (λ q. refl) (tt, tt)

table_rounds : (n : Node) (cause : Cause) (o : Outcome) → Rounds n cause o → TableDeed n o
table_rounds n cause o (comes_away part other fits) = keeps_tables (λ q. refl) (tt, tt)
table_rounds n cause o (comes_home part first fits all) = keeps_tables (λ q. refl) (tt, tt)
table_rounds n cause o (comes_last part parts first fits all) = keeps_tables (λ q. refl) (tt, (result_none _ _ _, tt))
table_rounds n cause o (part_comes from round part a all) = keeps_tables (λ q. refl) tt
table_rounds n cause o (part_last from round part parts mine k e a all) = keeps_tables (λ q. refl) (result_none _ _ _, tt)
table_rounds n cause o (part_last_idle from round part parts idle a all) = keeps_tables (λ q. refl) tt
table_rounds n cause o (result_comes from round fold k e) = keeps_tables (λ q. refl) (result_none _ _ _, tt)

table_notes : (n : Node) (c : Call) (w : What) (m : Node) → Notes n c w m → NoCreate w × ((q : Name) → table_size (home_of m q) ≡ table_size (home_of n q))
table_notes n c w m (ends_nowhere x name y ends lowers is e) = (end_none _ n c name y ends lowers is, λ q. refl)
table_notes n c w m _ = (tt, λ q. refl)

pub table_deed : (P : Name → ℕ) (nodes : ℕ) (es : List Entry) (j : ℕ) (n : Node) (cause : Cause) (o : Outcome) → Deed n cause o → Fits j n → MayCall cause n → Facts P nodes es n → TableDeed n o
table_deed P nodes es j n cause o (copies c) f may x = table_copies P nodes es j n cause o c f may x
table_deed P nodes es j n cause o (lives c) f may x = table_lives n cause o c
table_deed P nodes es j n cause o (rounds c) f may x = table_rounds n cause o c
table_deed P nodes es j n cause o (notes {m = m} c) f may x = let t = table_notes n _ _ m c in keeps_tables t.1 (t.0, tt)
table_deed P nodes es j n cause o (refuses c why v) f may x = keeps_tables (λ q. refl) (tt, tt)
table_deed P nodes es j n cause o (idles h) f may x = keeps_tables (λ q. refl) tt

-- in the world
at_home : (w : World) (j : ℕ) (m : Node) (q : Name) (o : Option ℕ) → ((j == q.home) ≡ true → table_size (home_of m q) ≡ o) → ((j == q.home) ≡ false → size_at w q ≡ o) → table_size (home_of (at_node w.nodes j m q.home) q) ≡ o
at_home w j m q o h k = cond_both (j == q.home) m (w.nodes q.home) (λ x. table_size (home_of x q) ≡ o) h k

home_here : (w : World) (j : ℕ) (q : Name) → (j == q.home) ≡ true → table_size (home_of (w.nodes j) q) ≡ size_at w q
home_here w j q x = ap (λ k. table_size (home_of (w.nodes k) q)) (eqb-true j q.home x)

pub tables_outcome : (w : World) (es : List Entry) (j : ℕ) (n : Node) (e : Event) (o : Outcome) → ((q : Name) → home_of n q ≡ home_of (w.nodes j) q) → n.me ≡ j → TableDeed n o → Tables w es → Tables (steps_node j e o w).world (es ++ o.entries)
tables_outcome w es j n e o same me (keeps_tables kept none) h q =
    at_home w j (commits w.events e o) q (created_size q (es ++ o.entries)) (λ x. kept q ∙ ap table_size (same q) ∙ home_here w j q x ∙ more) (λ x. more)
  where
    more : size_at w q ≡ created_size q (es ++ o.entries)
    more = h q ∙ sym (first_none (created_size q es)) ∙ ap (first_of (created_size q es)) (sym (created_none q o.entries none)) ∙ sym (created_append q es o.entries)
tables_outcome w es j n e o same me (adds_table size at entries) h q =
    at_home w j (commits w.events e o) q (created_size q (es ++ o.entries)) (λ x. ap table_size (at q) ∙ go (name_eq (next_name n) q) refl x ∙ sym whole) (λ x. other x ∙ sym whole)
  where
    whole : created_size q (es ++ o.entries) ≡ first_of (created_size q es) (if name_eq (next_name n) q then Some size else None)
    whole = created_append q es o.entries ∙ ap (λ xs. first_of (created_size q es) (created_size q xs)) entries

    go : (b : Bool) → name_eq (next_name n) q ≡ b → (j == q.home) ≡ true → table_size (if b then Some (new_home n.nodes size) else home_of n q) ≡ first_of (created_size q es) (if b then Some size else None)
    go true x y =
        let was : created_size q es ≡ None = sym (h q) ∙ sym (home_here w j q y) ∙ sym (ap table_size (same q)) ∙ ap (λ p. table_size (home_of n p)) (sym (same_name (next_name n) q x)) ∙ ap table_size (home_next n) in
        sym (ap (λ a. first_of a (Some size)) was)
    go false x y = ap table_size (same q) ∙ home_here w j q y ∙ h q ∙ sym (first_none (created_size q es))

    other : (j == q.home) ≡ false → size_at w q ≡ first_of (created_size q es) (if name_eq (next_name n) q then Some size else None)
    other x = by (name_eq (next_name n) q) refl
      where
        by : (b : Bool) → name_eq (next_name n) q ≡ b → size_at w q ≡ first_of (created_size q es) (if b then Some size else None)
        by true y = let z : (j == q.home) ≡ true = ap (λ k. k == q.home) (sym me) ∙ (and_parts _ _ y).0 in cc
        by false y = h q ∙ sym (first_none (created_size q es))

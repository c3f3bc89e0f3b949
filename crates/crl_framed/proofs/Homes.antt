-- In every run each table is of a region within the limit, under a serial that fits its field.
use Rattle.std.proofs.Common.{◌≡◌, ℕ, zero, suc, ◌+◌, ◌-◌, ◌≤◌, ◌<◌, ◌==◌, Bool, true, false, None, Some, Option, List, [], ◌∷◌, ◌++◌, length, if◌then◌else◌, refl, sym, ◌∙◌, subst, arith}
use Rattle.std.proofs.lemmas.Bool.{cond_both, eqb-false}
use Rattle.crl_model.specs.declared.TheConstants.{REGION_LIMIT}
use Rattle.crl_model.specs.declared.name.Name.{Name}
use Rattle.crl_model.specs.declared.call.Call.{Call}
use Rattle.crl_model.specs.declared.directory.Asked.{Asked}
use Rattle.crl_model.specs.declared.directory.Section.TheVariants.{Closed}
use Rattle.crl_model.specs.declared.entry.What.{What}
use Rattle.crl_model.specs.declared.event.Event.{Event}
use Rattle.crl_model.specs.Names.{name_eq}
use Rattle.crl_protocol.specs.Places.{at, put}
use Rattle.crl_protocol.specs.Home.{Home, HomeStep, new_home, is_to_lower, home_takes_ask, home_takes_return, home_takes_release, bytes_after, shared_listing, home_ends_read, home_ends_write, one_section_less}
use Rattle.crl_protocol.specs.Node.{Node, new_node, Outcome, COUNT_LIMIT, serials_used, is_mine, home_of, with_home, next_name}
use Rattle.crl_protocol.specs.Calls.{creates}
use Rattle.crl_protocol.specs.World.{new_world, world_of, IsRunFrom}
use Rattle.crl_deeds.specs.Counts.{Counted, Plain}
use Rattle.crl_deeds.specs.Deeds.{Cause, Copies, home_opens, home_waits, home_ends, home_serves, home_serves_own, Lives, made, used_up, Rounds, comes_away, Notes, flushes_own, Deed, copies, lives, rounds, notes}
use Rattle.crl_deeds.specs.Turns.{Local, Held}
use Rattle.crl_deeds.proofs.Laws.{by_name, home_put, home_end, home_none, create_fits, held_run, counted_local, counted_start, length_end}
use Rattle.crl_lifetime.proofs.Laws.{serve_size, starts_size, serves_size, ends_size}
use Rattle.crl_sound.proofs.Laws.{put_length}

pub record TableInRange (q : Name) (h : Home) : Type 0 where
  pub least : 1 ≤ h.size
  pub most : h.size ≤ REGION_LIMIT
  pub first : 1 ≤ q.serial
  pub few : q.serial ≤ COUNT_LIMIT

abbrev pub HomesInRange : Node → Type 0
HomesInRange n = ((q : Name) (h : Home) → home_of n q ≡ Some h → TableInRange q h) × (serials_used n ≤ COUNT_LIMIT)

-- The size stays.

asked_size : (me : ℕ) (ask : Asked) (h : Home) → (home_takes_ask me ask h).home.size ≡ h.size
unfolding home_takes_ask
asked_size me ask h = serve_size me h (h.queue ++ ask ∷ [])

returned_size : (me n : ℕ) (bytes : Option (List ℕ)) (h : Home) → (home_takes_return me n bytes h).home.size ≡ h.size
unfolding home_takes_return
returned_size me n bytes h = serve_size me (record h { bytes = bytes_after bytes h.bytes; listed = put n None h.listed }) h.queue

released_size : (me n version : ℕ) (bytes : List ℕ) (h : Home) → (home_takes_release me n version bytes h).home.size ≡ h.size
unfolding home_takes_release
released_size me n version bytes h =
    cond_both (is_to_lower version (at n h.listed)) _ _ (λ (x : HomeStep). x.home.size ≡ h.size) (λ w. serve_size me (record h { bytes = bytes; listed = put n (Some (shared_listing version)) h.listed }) h.queue) (λ w. refl)

read_size : (me : ℕ) (h : Home) → (home_ends_read me h).home.size ≡ h.size
unfolding home_ends_read
read_size me h = serve_size me (record h { mine = one_section_less h.mine }) h.queue

write_size : (me : ℕ) (bytes : List ℕ) (h : Home) → (home_ends_write me bytes h).home.size ≡ h.size
unfolding home_ends_write
write_size me bytes h = serve_size me (record h { bytes = bytes; mine = Closed }) h.queue

-- The list of tables has its length.
at_below : {A : Type 0} (k : ℕ) (xs : List (Option A)) (v : A) → at k xs ≡ Some v → k < length xs
at_below k [] v e = cc
at_below zero (x ∷ xs) v e = omega arith
at_below (suc k) (x ∷ xs) v e = let l = at_below k xs v e in omega arith

home_below : (n : Node) (name : Name) (h : Home) → home_of n name ≡ Some h → name.serial - 1 < length n.homes
home_below n name h e = go (is_mine n name) (name.serial == 0) e
  where
    go : (mine first : Bool) → (if mine then (if first then None else at (name.serial - 1) n.homes) else None) ≡ Some h → name.serial - 1 < length n.homes
    go true true x = cc
    go true false x = at_below (name.serial - 1) n.homes h x
    go false first x = cc

with_size : (q : Name) (h g : Home) → g.size ≡ h.size → TableInRange q h → TableInRange q g
with_size q h g e r = record { least = subst (λ k. 1 ≤ k) (sym e) r.least; most = subst (λ k. k ≤ REGION_LIMIT) (sym e) r.most; first = r.first; few = r.few }

range_put : (n : Node) (name : Name) (h g : Home) → home_of n name ≡ Some h → g.size ≡ h.size → HomesInRange n → HomesInRange (with_home name g n)
range_put n name h g is e r = (λ q k x. tables q k (sym (home_put n name h g is q) ∙ x), subst (λ l. l ≤ COUNT_LIMIT) (sym (put_length (name.serial - 1) (Some g) n.homes (home_below n name h is))) r.1)
  where
    same_table : (k : Home) → Some g ≡ Some k → TableInRange name k
    same_table k x = let same : g ≡ k = cc in subst (TableInRange name) same (with_size name h g e (r.0 name h is))

    tables : (q : Name) (k : Home) → (if name_eq name q then Some g else home_of n q) ≡ Some k → TableInRange q k
    tables = by_name name (λ b q. (k : Home) → (if b then Some g else home_of n q) ≡ Some k → TableInRange q k) same_table (λ q other k x. r.0 q k x)

below_limit : (used : ℕ) → used ≤ COUNT_LIMIT → (used == COUNT_LIMIT) ≡ false → used + 1 ≤ COUNT_LIMIT
below_limit used l e = let ne = eqb-false used COUNT_LIMIT e in grind arith

range_made : (n : Node) (size : ℕ) → (1 ≤ size) × (size ≤ REGION_LIMIT) × ((serials_used n == COUNT_LIMIT) ≡ false) → HomesInRange n → HomesInRange (creates size n).node
range_made n size c r = (λ q k x. tables q k (sym (home_end n (creates size n).node (new_home n.nodes size) refl refl q) ∙ x), subst (λ l. l ≤ COUNT_LIMIT) (sym (length_end n.homes (Some (new_home n.nodes size)))) more)
  where
    more : serials_used n + 1 ≤ COUNT_LIMIT
    more = below_limit (serials_used n) r.1 c.2

    new_table : (k : Home) → Some (new_home n.nodes size) ≡ Some k → TableInRange (next_name n) k
    new_table k x = let same : new_home n.nodes size ≡ k = cc in subst (TableInRange (next_name n)) same (record { least = c.0; most = c.1; first = omega arith; few = more })

    tables : (q : Name) (k : Home) → (if name_eq (next_name n) q then Some (new_home n.nodes size) else home_of n q) ≡ Some k → TableInRange q k
    tables = by_name (next_name n) (λ b q. (k : Home) → (if b then Some (new_home n.nodes size) else home_of n q) ≡ Some k → TableInRange q k) new_table (λ q other k x. r.0 q k x)

-- The deeds.
copies_range : (n : Node) (cause : Cause) (o : Outcome) → Copies n cause o → HomesInRange n → HomesInRange o.node
copies_range n cause o (home_opens c write name h is e v x) r = range_put n name h _ e (starts_size n.me write h) r
copies_range n cause o (home_waits c write name h is e v x) r = range_put n name h _ e (starts_size n.me write h) r
copies_range n cause o (home_ends c name y ends lowers h is e) r = range_put n name h _ e (ends_size _ n c name y ends lowers h is) r
copies_range n cause o (home_serves from m name h s is e x) r = range_put n name h _ e (serves_size n h from m name s is) r
copies_range n cause o (home_serves_own from m name h s is e x) r = range_put n name h _ e (serves_size n h from m name s is) r
copies_range n cause o _ r = r

lives_range : (n : Node) (cause : Cause) (o : Outcome) → Lives n cause o → HomesInRange n → HomesInRange o.node
lives_range n cause o (made size e) r = range_made n size (create_fits n size e) r
lives_range n cause o (used_up size why e x) r = (λ q k y. r.0 q k (sym (home_none n q) ∙ y), subst (λ l. l ≤ COUNT_LIMIT) (sym (length_end n.homes None)) (below_limit (serials_used n) r.1 x))
lives_range n cause o _ r = r

rounds_range : (n : Node) (cause : Cause) (o : Outcome) → Rounds n cause o → HomesInRange n → HomesInRange o.node
rounds_range n cause o (comes_away part other fits) r = r
rounds_range n cause o _ r = r

notes_range : (n : Node) (c : Call) (w : What) (m : Node) → Notes n c w m → HomesInRange n → HomesInRange m
notes_range n c w m (flushes_own name mine closed) r = r
notes_range n c w m _ r = r

deed_range : (n : Node) (cause : Cause) (o : Outcome) → Deed n cause o → HomesInRange n → HomesInRange o.node
deed_range n cause o (copies d) r = copies_range n cause o d r
deed_range n cause o (lives d) r = lives_range n cause o d r
deed_range n cause o (rounds d) r = rounds_range n cause o d r
deed_range n cause o (notes d) r = notes_range n _ _ _ d r
deed_range n cause o _ r = r

-- In every run.
abbrev WithRange : ℕ → ℕ → Node → Type 0
WithRange count i n = Counted count i n × HomesInRange n

range_local : (count : ℕ) → Local count (WithRange count) (Plain count)
range_local count = record {
  deed = λ i n cause o few d came x. (let k = (counted_local count).deed i n cause o few d came x.0 in ((k.0, deed_range n cause o d x.1), k.1));
  boxes = λ i n inbox outbox parcels records notes posted x. ((counted_local count).boxes i n inbox outbox parcels records notes posted x.0, x.1);
  answered = λ i n answer e x. ((counted_local count).answered i n answer e x.0, x.1);
  parts = (counted_local count).parts;
}

range_start : (nodes capacity i : ℕ) → HomesInRange (new_node nodes capacity i)
range_start nodes capacity i = (λ q h e. absurd (go q h (q.home == i) (q.serial == 0) e), omega arith)
  where
    go : (q : Name) (h : Home) (mine first : Bool) → (if mine then (if first then None else None) else None) ≡ Some h → ⊥
    go q h true true e = cc
    go q h true false e = cc
    go q h false first e = cc

range_held : (count capacity : ℕ) (run : List Event) → IsRunFrom (new_world count capacity) run → Held (WithRange count) (Plain count) (world_of count capacity run)
range_held count capacity run r =
    held_run count (WithRange count) (Plain count) (range_local count) run (new_world count capacity) refl r
    (λ i. let s = counted_start count capacity i in record { node = (s.node, range_start count capacity i); inbox = s.inbox; outbox = s.outbox })

pub ranges_in_runs : (count capacity : ℕ) (run : List Event) → IsRunFrom (new_world count capacity) run → (i : ℕ) → HomesInRange ((world_of count capacity run).nodes i)
ranges_in_runs count capacity run r i = (range_held count capacity run r i).node.1

-- In every run each table of a region has a place for each node of the world, and the asks in its queue are of such nodes.
use Rattle.std.proofs.Common.{◌≡◌, ℕ, zero, suc, ◌+◌, ◌<◌, ◌==◌, Bool, true, false, ◌&&◌, not, None, Some, Option, List, [], ◌∷◌, ◌++◌, length, replicate, if◌then◌else◌, refl, sym, ◌∙◌, subst, arith}
use Rattle.std.specs.List.{AllByRecursion}
use Rattle.std.proofs.lemmas.Bool.{cond_both}
use Rattle.crl_model.specs.declared.name.Name.{Name}
use Rattle.crl_model.specs.declared.call.Call.{Call}
use Rattle.crl_model.specs.declared.directory.Asked.{Asked}
use Rattle.crl_model.specs.declared.directory.Listing.{Listing}
use Rattle.crl_model.specs.declared.directory.Section.TheVariants.{Closed}
use Rattle.crl_model.specs.declared.entry.What.{What}
use Rattle.crl_model.specs.declared.event.Event.{Event}
use Rattle.crl_model.specs.declared.message.Kind.{Kind}
use Rattle.crl_model.specs.Names.{name_eq}
use Rattle.crl_protocol.specs.Places.{at, put}
use Rattle.crl_protocol.specs.Home.{Home, HomeStep, new_home, is_servable, is_empty, is_reading, is_to_lower, own_ask, open_own, grant_next, grant_for, posts_first, opens_own_section, with_marks, recalls_and_yields, serve, home_takes_ask, home_takes_return, home_takes_release, bytes_after, shared_listing, home_starts, home_ends_read, home_ends_write, one_section_less}
use Rattle.crl_protocol.specs.Remote.{Remote, RemoteStep}
use Rattle.crl_protocol.specs.Node.{Node, new_node, Outcome, home_of, with_home, next_name}
use Rattle.crl_protocol.specs.Calls.{creates}
use Rattle.crl_protocol.specs.World.{new_world, world_of, IsRunFrom}
use Rattle.crl_deeds.specs.Counts.{Counted, Plain}
use Rattle.crl_deeds.specs.Deeds.{Cause, EndsCall, a_read, a_write, Serves, ask_comes, copy_returns, copy_lowers, Copies, home_opens, home_waits, home_ends, home_serves, home_serves_own, Lives, made, used_up, Rounds, comes_away, Notes, flushes_own, Deed, copies, lives, rounds, notes}
use Rattle.crl_deeds.specs.Turns.{Came, Local, Held}
use Rattle.crl_deeds.proofs.Laws.{home_put, home_end, home_none, held_run, counted_local, counted_start, all_append}

abbrev pub IsNear : ℕ → Asked → Type 0
IsNear count a = a.node < count

pub record TableFits (count : ℕ) (h : Home) : Type 0 where
  pub listed : length h.listed ≡ count
  pub queue : AllByRecursion (IsNear count) h.queue

abbrev pub TablesFit : ℕ → Node → Type 0
TablesFit count n = (q : Name) (h : Home) → home_of n q ≡ Some h → TableFits count h

-- Lists.
pub put_length : {A : Type 0} (k : ℕ) (v : Option A) (xs : List (Option A)) → k < length xs → length (put k v xs) ≡ length xs
put_length k v [] l = absurd (omega arith)
put_length zero v (x ∷ xs) l = refl
put_length (suc k) v (x ∷ xs) l = let h = put_length k v xs (omega arith) in omega arith

marks_length : (m : ℕ) (listed : List (Option Listing)) (ask : Asked) → length (with_marks m listed ask) ≡ length listed
marks_length m [] ask = refl
marks_length m (None ∷ listed) ask = let h = marks_length (m + 1) listed ask in omega arith
marks_length m (Some copy ∷ listed) ask = let h = marks_length (m + 1) listed ask in omega arith

none_length : {A : Type 0} (k : ℕ) (x : A) → length (replicate k x) ≡ k
none_length zero x = refl
none_length (suc k) x = let h = none_length k x in omega arith

-- The events of a home.
put_fits : (count k : ℕ) (v : Option Listing) (listed : List (Option Listing)) → k < count → length listed ≡ count → length (put k v listed) ≡ count
put_fits count k v listed l e = put_length k v listed (omega arith) ∙ e

serve_fits : (count me : ℕ) (h : Home) (queue : List Asked) → length h.listed ≡ count → AllByRecursion (IsNear count) queue → TableFits count (serve me h queue).home
serve_fits count me h [] l q = record { listed = l; queue = tt }
serve_fits count me h (ask ∷ queue) l q = go (is_servable h ask) (ask.node == me) (serve_fits count me (open_own h ask) queue l q.1) (serve_fits count me (grant_next h ask) queue (put_fits count ask.node _ h.listed q.0 l) q.1)
  where
    go : (servable own : Bool) → TableFits count (serve me (open_own h ask) queue).home → TableFits count (serve me (grant_next h ask) queue).home
        → TableFits count (if servable then (if own then opens_own_section (serve me (open_own h ask) queue) else posts_first (grant_for h ask) (serve me (grant_next h ask) queue))
        else record { home = record h { listed = with_marks 0 h.listed ask; queue = ask ∷ queue }; posts = recalls_and_yields 0 h.listed ask; opened = false }).home
    go true true x y = record { listed = x.listed; queue = x.queue }
    go true false x y = record { listed = y.listed; queue = y.queue }
    go false own x y = record { listed = marks_length 0 h.listed ask ∙ l; queue = q }

asked_fits : (count me : ℕ) (ask : Asked) (h : Home) → ask.node < count → TableFits count h → TableFits count (home_takes_ask me ask h).home
unfolding home_takes_ask
asked_fits count me ask h near f = serve_fits count me h (h.queue ++ ask ∷ []) f.listed (all_append (IsNear count) h.queue (ask ∷ []) f.queue (near, tt))

returned_fits : (count me n : ℕ) (bytes : Option (List ℕ)) (h : Home) → n < count → TableFits count h → TableFits count (home_takes_return me n bytes h).home
unfolding home_takes_return
returned_fits count me n bytes h near f = serve_fits count me (record h { bytes = bytes_after bytes h.bytes; listed = put n None h.listed }) h.queue (put_fits count n None h.listed near f.listed) f.queue

released_fits : (count me n version : ℕ) (bytes : List ℕ) (h : Home) → n < count → TableFits count h → TableFits count (home_takes_release me n version bytes h).home
unfolding home_takes_release
released_fits count me n version bytes h near f =
    cond_both (is_to_lower version (at n h.listed)) _ _ (λ (x : HomeStep). TableFits count x.home)
    (λ w. serve_fits count me (record h { bytes = bytes; listed = put n (Some (shared_listing version)) h.listed }) h.queue (put_fits count n _ h.listed near f.listed) f.queue) (λ w. f)

started_fits : (count me : ℕ) (write : Bool) (h : Home) → me < count → TableFits count h → TableFits count (home_starts me write h).home
unfolding home_starts
started_fits count me write h near f =
    cond_both (not write && is_reading h.mine) _ _ (λ (x : HomeStep). TableFits count x.home) (λ w. record { listed = f.listed; queue = f.queue })
    (λ w. cond_both (is_empty h.queue && is_servable h (own_ask me write)) _ _ (λ (x : HomeStep). TableFits count x.home) (λ w. record { listed = f.listed; queue = f.queue })
    (λ w. serve_fits count me h (h.queue ++ own_ask me write ∷ []) f.listed (all_append (IsNear count) h.queue (own_ask me write ∷ []) f.queue (near, tt))))

read_fits : (count me : ℕ) (h : Home) → TableFits count h → TableFits count (home_ends_read me h).home
unfolding home_ends_read
read_fits count me h f = serve_fits count me (record h { mine = one_section_less h.mine }) h.queue f.listed f.queue

write_fits : (count me : ℕ) (bytes : List ℕ) (h : Home) → TableFits count h → TableFits count (home_ends_write me bytes h).home
unfolding home_ends_write
write_fits count me bytes h f = serve_fits count me (record h { bytes = bytes; mine = Closed }) h.queue f.listed f.queue

served_fits : (count : ℕ) (n : Node) (h : Home) (from : ℕ) (k : Kind) (name : Name) (s : HomeStep) → Serves n h from k name s → from < count → TableFits count h → TableFits count s.home
served_fits count n h from k name s (ask_comes x q write have free) near f = asked_fits count n.me (record { node = from; write = write; have = have }) h near f
served_fits count n h from k name s (copy_returns x q version bytes fits) near f = returned_fits count n.me from bytes h near f
served_fits count n h from k name s (copy_lowers x q version bytes fits) near f = released_fits count n.me from version bytes h near f

ended_fits : (count : ℕ) (bytes : List ℕ) (n : Node) (c : Call) (name : Name) (w : What) (ends : Home → HomeStep) (lowers : Remote → RemoteStep) (h : Home) → EndsCall bytes n c name w ends lowers → TableFits count h → TableFits count (ends h).home
ended_fits count bytes n c name w ends lowers h (a_read q e) f = read_fits count n.me h f
ended_fits count bytes n c name w ends lowers h (a_write q after e) f = write_fits count n.me after h f

-- The tables of a node.
tables_put : (count : ℕ) (n : Node) (name : Name) (h g : Home) → home_of n name ≡ Some h → TableFits count g → TablesFit count n → TablesFit count (with_home name g n)
tables_put count n name h g is fits f q k e = go (name_eq name q) (sym (home_put n name h g is q) ∙ e)
  where
    go : (b : Bool) → (if b then Some g else home_of n q) ≡ Some k → TableFits count k
    go true x = let same : g ≡ k = cc in subst (λ y. TableFits count y) same fits
    go false x = f q k x

tables_made : (count : ℕ) (n : Node) (size : ℕ) → n.nodes ≡ count → TablesFit count n → TablesFit count (creates size n).node
tables_made count n size few f q k e = go (name_eq (next_name n) q) (sym (home_end n (creates size n).node (new_home n.nodes size) refl refl q) ∙ e)
  where
    go : (b : Bool) → (if b then Some (new_home n.nodes size) else home_of n q) ≡ Some k → TableFits count k
    go true x = let same : new_home n.nodes size ≡ k = cc in subst (λ y. TableFits count y) same (record { listed = none_length n.nodes None ∙ few; queue = tt })
    go false x = f q k x

copies_fit : (count : ℕ) (n : Node) (cause : Cause) (o : Outcome) → Copies n cause o → n.me < count → Came (Plain count) n.me cause → TablesFit count n → TablesFit count o.node
copies_fit count n cause o (home_opens c write name h is e v x) near came f = tables_put count n name h _ e (started_fits count n.me write h near (f name h e)) f
copies_fit count n cause o (home_waits c write name h is e v x) near came f = tables_put count n name h _ e (started_fits count n.me write h near (f name h e)) f
copies_fit count n cause o (home_ends c name y ends lowers h is e) near came f = tables_put count n name h _ e (ended_fits count _ n c name y ends lowers h is (f name h e)) f
copies_fit count n cause o (home_serves from m name h s is e x) near came f = tables_put count n name h _ e (served_fits count n h from m name s is came.0 (f name h e)) f
copies_fit count n cause o (home_serves_own from m name h s is e x) near came f = tables_put count n name h _ e (served_fits count n h from m name s is came.0 (f name h e)) f
copies_fit count n cause o _ near came f = f

lives_fit : (count : ℕ) (n : Node) (cause : Cause) (o : Outcome) → Lives n cause o → n.nodes ≡ count → TablesFit count n → TablesFit count o.node
lives_fit count n cause o (made size e) few f = tables_made count n size few f
lives_fit count n cause o (used_up size why e x) few f = λ q k y. f q k (sym (home_none n q) ∙ y)
lives_fit count n cause o _ few f = f

rounds_fit : (count : ℕ) (n : Node) (cause : Cause) (o : Outcome) → Rounds n cause o → TablesFit count n → TablesFit count o.node
rounds_fit count n cause o (comes_away part other fits) f = f
rounds_fit count n cause o _ f = f

notes_fit : (count : ℕ) (n : Node) (c : Call) (w : What) (m : Node) → Notes n c w m → TablesFit count n → TablesFit count m
notes_fit count n c w m (flushes_own name mine closed) f = f
notes_fit count n c w m _ f = f

deed_fits : (count : ℕ) (n : Node) (cause : Cause) (o : Outcome) → Deed n cause o → n.me < count → n.nodes ≡ count → Came (Plain count) n.me cause → TablesFit count n → TablesFit count o.node
deed_fits count n cause o (copies d) near few came f = copies_fit count n cause o d near came f
deed_fits count n cause o (lives d) near few came f = lives_fit count n cause o d few f
deed_fits count n cause o (rounds d) near few came f = rounds_fit count n cause o d f
deed_fits count n cause o (notes d) near few came f = notes_fit count n _ _ _ d f
deed_fits count n cause o _ near few came f = f

-- In every run.
abbrev WithTables : ℕ → ℕ → Node → Type 0
WithTables count i n = Counted count i n × TablesFit count n

tables_local : (count : ℕ) → Local count (WithTables count) (Plain count)
tables_local count = record {
  deed = λ i n cause o few d came x.
      (let k = (counted_local count).deed i n cause o few d came x.0 in
      ((k.0, deed_fits count n cause o d (subst (λ j. j < count) (sym x.0.me) few) x.0.few (subst (λ j. Came (Plain count) j cause) (sym x.0.me) came) x.1), k.1));
  boxes = λ i n inbox outbox parcels records notes posted x. ((counted_local count).boxes i n inbox outbox parcels records notes posted x.0, x.1);
  answered = λ i n answer e x. ((counted_local count).answered i n answer e x.0, x.1);
  parts = (counted_local count).parts;
}

none_there : (nodes capacity i count : ℕ) → TablesFit count (new_node nodes capacity i)
none_there nodes capacity i count q h e = absurd (go (q.home == i) (q.serial == 0) e)
  where
    go : (mine first : Bool) → (if mine then (if first then None else None) else None) ≡ Some h → ⊥
    go true true e = cc
    go true false e = cc
    go false first e = cc

tables_held : (count capacity : ℕ) (run : List Event) → IsRunFrom (new_world count capacity) run → Held (WithTables count) (Plain count) (world_of count capacity run)
tables_held count capacity run r =
    held_run count (WithTables count) (Plain count) (tables_local count) run (new_world count capacity) refl r
    (λ i. let s = counted_start count capacity i in record { node = (s.node, none_there count capacity i count); inbox = s.inbox; outbox = s.outbox })

pub counted_in_runs : (count capacity : ℕ) (run : List Event) → IsRunFrom (new_world count capacity) run → (i : ℕ) → Counted count i ((world_of count capacity run).nodes i)
counted_in_runs count capacity run r i = (tables_held count capacity run r i).node.0

pub tables_in_runs : (count capacity : ℕ) (run : List Event) → IsRunFrom (new_world count capacity) run → (i : ℕ) → TablesFit count ((world_of count capacity run).nodes i)
tables_in_runs count capacity run r i = (tables_held count capacity run r i).node.1

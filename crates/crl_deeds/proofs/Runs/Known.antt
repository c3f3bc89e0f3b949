-- What is known of every world of a run, and tokens of waits that have nothing to do with copies and rounds.
use Rattle.std.proofs.Common.{◌≡◌, ℕ, zero, suc, ◌+◌, ◌-◌, ◌≤◌, ◌<◌, ◌==◌, true, None, Some, Option, List, [], ◌∷◌, ◌++◌, length, refl, ap, sym, ◌∙◌, subst, arith}
use Rattle.std.proofs.lemmas.Bool.{cond_both, cond-true, eqb-true}
use Rattle.std.specs.List.{AllByRecursion}
use Rattle.crl_model.specs.declared.name.Name.{Name}
use Rattle.crl_model.specs.declared.stage.Stage.{Stage}
use Rattle.crl_model.specs.declared.stage.Stage.TheVariants as stage
use Rattle.crl_model.specs.declared.call.Call.{Call}
use Rattle.crl_model.specs.declared.entry.What.{What}
use Rattle.crl_model.specs.declared.event.Event.{Event}
use Rattle.crl_model.specs.declared.message.Message.{Message}
use Rattle.crl_protocol.specs.Parcels.{Piece, with_load, PartsGathered}
use Rattle.crl_protocol.specs.Lifetimes.{Lifetime}
use Rattle.crl_protocol.specs.Node.{Node, Activity, Outcome, is_mine, lifetime_of, with_lifetime, serials_used}
use Rattle.crl_protocol.specs.Calls.{creates}
use Rattle.crl_protocol.specs.World.{World, new_world, step, is_enabled, IsRunFrom, world_after}
use Rattle.crl_protocol.specs.Places.{put, Took}
use Rattle.crl_deeds.specs.Counts.{Counted, Plain, NoneYet, Known, SectionsFit}
use Rattle.crl_deeds.specs.Deeds.{FreeIf, Cause, Copies, Lives, Rounds, Notes, Idles, Deed, Calls, Hears}
use Rattle.crl_deeds.specs.NodeFacts.{Leaves, ComesIn, Fits}
use Rattle.crl_deeds.specs.Tokens.{Life, on_piece, sum, load, Balance, Balanced, came}
use Rattle.crl_deeds.specs.Turns.{Came, HeldIn, HeldOut, Held, Local}
use Rattle.crl_deeds.proofs.Cases.Turns.{turn_of, turn_count, held_turn, all_took}
use Rattle.crl_deeds.proofs.Counts.Mappings.{counted_local, counted_start}
use Rattle.crl_deeds.proofs.Counts.OpenReads.{sections_kept}
use Rattle.crl_deeds.proofs.Fits.Worlds.{away_load, fits_start, fits_event}
use Rattle.crl_deeds.proofs.Runs.Kept.{kept_turn}
use Rattle.crl_deeds.proofs.Tokens.Spans.{part_same, keyed_none, span_copies, span_rounds, span_notes}
use Rattle.crl_deeds.proofs.Tokens.Sums.{weigh_took, sum_part, token_turn}
use Rattle.crl_deeds.specs.Deeds as deed
use Rattle.crl_protocol.specs.Home.{new_home}

pub length_end : {A : Type 0} (xs : List A) (x : A) → length (xs ++ x ∷ []) ≡ length xs + 1
length_end [] x = refl
length_end (y ∷ xs) x = let h = length_end xs x in omega arith

own_lifetime : (n : Node) (name : Name) → is_mine n name ≡ true → lifetime_of n name ≡ n.lifetimes name.serial
own_lifetime n name mine = cond-true (is_mine n name) _ _ mine

none_put : (n : Node) (name : Name) (lifetime : Lifetime) (t : Stage) → is_mine n name ≡ true → (lifetime_of n name).stage ≡ t → (t ≡ stage.Unknown → ⊥) → NoneYet n → NoneYet (with_lifetime name lifetime n)
none_put n name lifetime t mine e other h s l =
    cond_both (name.serial == s) _ _ (λ (x : Lifetime). x.stage ≡ stage.Unknown)
    (λ w. absurd (other (sym e ∙ ap (λ (x : Lifetime). x.stage) (own_lifetime n name mine) ∙ h name.serial (let same = eqb-true name.serial s w in omega arith)))) (λ w. h s l)

none_made : (n : Node) (size : ℕ) → NoneYet n → NoneYet (creates size n).node
none_made n size h s l =
    let k = length_end n.homes (Some (new_home n.nodes size)) in
    cond_both (serials_used n + 1 == s) _ _ (λ (x : Lifetime). x.stage ≡ stage.Unknown) (λ w. let same = eqb-true (serials_used n + 1) s w in absurd (omega arith)) (λ w. h s (omega arith))

none_lives : (n : Node) (cause : Cause) (o : Outcome) → Lives n cause o → NoneYet n → NoneYet o.node
none_lives n cause o (deed.made size e) h = none_made n size h
none_lives n cause o (deed.used_up size why e x) h = λ s l. let k = length_end n.homes None in h s (omega arith)
none_lives n cause o (deed.map_told from name mine live) h = none_put n name _ stage.Live mine live (λ w. cc) h
none_lives n cause o (deed.deletes_alone name mine live e) h = none_put n name _ stage.Live mine live (λ w. cc) h
none_lives n cause o (deed.deletes_own name m ms mine live e) h = none_put n name _ stage.Live mine live (λ w. cc) h
none_lives n cause o (deed.deletes_alone_for from name mine live e) h = none_put n name _ stage.Live mine live (λ w. cc) h
none_lives n cause o (deed.deletes_for from name m ms mine live e) h = none_put n name _ stage.Live mine live (λ w. cc) h
none_lives n cause o (deed.counts_off from name deleter m ms mine e missing left) h = none_put n name _ (stage.Going deleter) mine e (λ w. cc) h
none_lives n cause o (deed.ends_own from name mine e missing last) h = none_put n name _ (stage.Going n.me) mine e (λ w. cc) h
none_lives n cause o (deed.ends_for from name deleter mine e other missing last) h = none_put n name _ (stage.Going deleter) mine e (λ w. cc) h
none_lives n cause o _ h = h

length_put : {A : Type 0} (k : ℕ) (v : Option A) (xs : List (Option A)) → length xs ≤ length (put k v xs)
length_put zero v [] = omega arith
length_put (suc k) v [] = omega arith
length_put zero v (x ∷ xs) = omega arith
length_put (suc k) v (x ∷ xs) = let h = length_put k v xs in omega arith

none_more : (n m : Node) → serials_used n ≤ serials_used m → m.lifetimes ≡ n.lifetimes → NoneYet n → NoneYet m
none_more n m few same h s l = ap (λ (f : ℕ → Lifetime). (f s).stage) same ∙ h s (omega arith)

none_copies : (n : Node) (cause : Cause) (o : Outcome) → Copies n cause o → NoneYet n → NoneYet o.node
none_copies n cause o (deed.home_opens c write name h is e v x) k = none_more n o.node (length_put (name.serial - 1) _ n.homes) refl k
none_copies n cause o (deed.home_waits c write name h is e v x) k = none_more n o.node (length_put (name.serial - 1) _ n.homes) refl k
none_copies n cause o (deed.home_ends c name w ends lowers h is e) k = none_more n o.node (length_put (name.serial - 1) _ n.homes) refl k
none_copies n cause o (deed.home_serves from x name h s is e y) k = none_more n o.node (length_put (name.serial - 1) _ n.homes) refl k
none_copies n cause o (deed.home_serves_own from x name h s is e y) k = none_more n o.node (length_put (name.serial - 1) _ n.homes) refl k
none_copies n cause o _ k = k

none_rounds : (n : Node) (cause : Cause) (o : Outcome) → Rounds n cause o → NoneYet n → NoneYet o.node
none_rounds n cause o (deed.comes_away part other fits) k = k
none_rounds n cause o _ k = k

none_notes : (n : Node) (c : Call) (w : What) (m : Node) → Notes n c w m → NoneYet n → NoneYet m
none_notes n c w m (deed.flushes_own name mine closed) k = k
none_notes n c w m _ k = k

anything : (ms : List Message) → AllByRecursion (λ (m : Message). Unit {0}) ms
anything [] = tt
anything (m ∷ ms) = (tt, anything ms)

none_deed : (n : Node) (cause : Cause) (o : Outcome) → Deed n cause o → NoneYet n → NoneYet o.node
none_deed n cause o (deed.copies d) k = none_copies n cause o d k
none_deed n cause o (deed.lives d) k = none_lives n cause o d k
none_deed n cause o (deed.rounds d) k = none_rounds n cause o d k
none_deed n cause o (deed.notes d) k = none_notes n _ _ _ d k
none_deed n cause o _ k = k

pub none_local : (count : ℕ) → Local count (λ i n. NoneYet n) (λ m. Unit {0})
none_local count = record {
  deed = λ i n cause o few d came k. (none_deed n cause o d k, anything o.posts);
  boxes = λ i n inbox outbox parcels records notes posted k. k;
  answered = λ i n answer e k. k;
  parts = λ m part h. tt;
}

pub known_step : (w : World) (e : Event) → is_enabled e w ≡ true → Known w → Known (step e w).world
known_step w e h x =
    let t = turn_of w e h in
    record {
      fits = fits_event w e h x.fits;
      held = subst (λ k. Held (Counted k) (Plain k) (step e w).world) (sym (turn_count w _ t)) (held_turn (Counted w.count) (Plain w.count) w _ t (counted_local w.count) x.held);
      none = held_turn (λ i n. NoneYet n) (λ m. Unit {0}) w _ t (none_local w.count) x.none;
      sections = kept_turn SectionsFit sections_kept w _ t x.fits x.sections;
    }

pub known_start : (count capacity : ℕ) → Known (new_world count capacity)
known_start count capacity = record {
  fits = λ i. fits_start count capacity i;
  held = counted_start count capacity;
  none = λ i. record { node = λ s l. refl; inbox = tt; outbox = tt };
  sections = λ i. record { each = λ q. tt; waiting = tt };
}

pub known_run : (w : World) (es : List Event) → IsRunFrom w es → Known w → Known (world_after w es)
known_run w [] r x = x
known_run w (e ∷ es) r x = known_run (step e w).world es r.1 (known_step w e r.0 x)

life_deed : (i : ℕ) (f : Message → ℕ) (g : Node → ℕ) (waits : Activity → ℕ) → Life i f g waits → (j : ℕ) (n : Node) (cause : Cause) (o : Outcome) (a : Activity) → Deed n cause o → Fits j n → NoneYet n → Came Leaves n.me cause → FreeIf cause n
    → (n.me ≡ i → a ≡ n.activity) → came f n.me cause ≤ waits a → Balance f g waits i n (came f n.me cause) o
life_deed i f g waits l j n cause o a (deed.copies c) x none s free same few = span_copies f g waits l.span i j n cause o c x s free
life_deed i f g waits l j n cause o a (deed.lives c) x none s free same few = l.lives j n cause o c x none free
life_deed i f g waits l j n cause o a (deed.rounds c) x none s free same few = span_rounds f g waits l.span i n cause o c free
life_deed i f g waits l j n cause o a (deed.notes {m = m} c) x none s free same few = span_notes f g waits l.span i n _ _ m c
life_deed i f g waits l j n cause o a (deed.refuses c why v) x none s free same few = refl
life_deed i f g waits l j n cause o a (deed.idles h) x none s free same few = let z = l.idle n cause a h same few in omega arith

life_balanced : (i : ℕ) (f : Message → ℕ) (g : Node → ℕ) (waits : Activity → ℕ) → Life i f g waits → (w : World) → i < w.count → Known w → sum (load f g) w ≡ waits (w.nodes i).activity → Balanced f g waits i w
life_balanced i f g waits l w small x one = record {
  me = λ j. (x.fits j).me;
  calls = λ j c o few free d. life_deed i f g waits l j (w.nodes j) (Calls c) o (w.nodes i).activity d (x.fits j) (x.none j).node tt free (λ e. same j e) (omega arith);
  hears = hearing;
  gathers = λ p key e. keyed_none f l.span.mail p.message.sender p.message.addressee p.message.kind key e;
  carriage = λ j p rest few took. l.near w.count p.message.sender p.message.addressee p.message.kind small (all_took (HeldOut (Plain w.count)) took (x.held j).outbox).0.1;
}
  where
    same : (j : ℕ) → (w.nodes j).me ≡ i → (w.nodes i).activity ≡ (w.nodes j).activity
    same j e = ap (λ k. (w.nodes k).activity) (sym e ∙ (x.fits j).me)

    hearing : (j : ℕ) (p : Piece) (rest : List Piece) (parcels : PartsGathered) (part : List ℕ) (o : Outcome) → j < w.count → Took p (w.nodes j).inbox rest
        → Deed (record (w.nodes j) { inbox = rest; parcels = parcels }) (Hears p.message.sender (with_load part p.message.kind)) o
        → Balance f g waits i (record (w.nodes j) { inbox = rest; parcels = parcels }) (f p.message) o
    hearing j p rest parcels part o few took d =
        let n = w.nodes j in
        let m = p.message in
        let t = x.fits j in
        let mine = all_took (ComesIn n.me) took t.inbox in
        let to = (all_took (HeldIn (Plain w.count) j) took (x.held j).inbox).0.1 in
        let fits : Fits j (record n { inbox = rest; parcels = parcels }) = record { me = t.me; each = t.each; cache = t.cache; fresh = t.fresh; inbox = mine.1; outbox = t.outbox } in
        let weight : f m ≡ came f n.me (Hears m.sender (with_load part m.kind)) = ap (λ a. f (record { sender = m.sender; addressee = a; kind = m.kind })) (to ∙ sym t.me) ∙ sym (part_same f l.span.mail m.sender n.me part m.kind) in
        let took_out = weigh_took (on_piece f) took in
        let portion = sum_part (load f g) w j few in
        subst (λ c. Balance f g waits i (record n { inbox = rest; parcels = parcels }) c o) (sym weight)
        (life_deed i f g waits l j (record n { inbox = rest; parcels = parcels }) (Hears m.sender (with_load part m.kind)) o (w.nodes i).activity d fits (x.none j).node
        (subst (λ (y : Type 0). y) (away_load m.sender n.me part m.kind) mine.0) tt (λ e. same j e) (omega arith))

pub life_run : (i : ℕ) (f : Message → ℕ) (g : Node → ℕ) (waits : Activity → ℕ) → Life i f g waits → (es : List Event) (w : World) → i < w.count → IsRunFrom w es → Known w → sum (load f g) w ≡ waits (w.nodes i).activity
    → sum (load f g) (world_after w es) ≡ waits ((world_after w es).nodes i).activity
life_run i f g waits l [] w small r x one = one
life_run i f g waits l (e ∷ es) w small r x one =
    life_run i f g waits l es (step e w).world (subst (λ k. i < k) (sym (turn_count w _ (turn_of w e r.0))) small) r.1 (known_step w e r.0 x) (token_turn f g waits l.tokens i w _ (turn_of w e r.0) (life_balanced i f g waits l w small x one) one)

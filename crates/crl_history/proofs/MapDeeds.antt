-- What each deed does to the maps of a region at a node: the machine's, the node's, and the maps that are granted and
-- whose answer is under way.
use Rattle.std.proofs.Common.{◌≡◌, ℕ, ◌+◌, ◌-◌, ◌≤◌, ◌==◌, ◌&&◌, Bool, true, false, None, Some, Option, List, [], ◌∷◌, if◌then◌else◌, refl, ap, sym, ◌∙◌, subst, arith}
use Rattle.std.proofs.lemmas.Bool.{eqb-true, eqb-false}
use Rattle.crl_model.specs.declared.name.Name.{Name}
use Rattle.crl_model.specs.declared.stage.Stage.{Stage}
use Rattle.crl_model.specs.declared.call.Call.{Call}
use Rattle.crl_model.specs.declared.call.CallKind.{CallKind}
use Rattle.crl_model.specs.declared.call.Refusal.{Refusal}
use Rattle.crl_model.specs.declared.collective.Fold.{Fold}
use Rattle.crl_model.specs.declared.collective.Fold.TheVariants as fold
use Rattle.crl_model.specs.declared.entry.What.{What}
use Rattle.crl_model.specs.declared.entry.What.TheVariants as what
use Rattle.crl_model.specs.declared.message.Told.{Told}
use Rattle.crl_model.specs.declared.message.DeleteTold.{DeleteTold}
use Rattle.crl_model.specs.declared.message.Message.{Message}
use Rattle.crl_model.specs.declared.message.Kind.TheVariants as kind
use Rattle.crl_model.specs.Calls.{kind_of}
use Rattle.crl_model.specs.FoldOf.{fold_of}
use Rattle.crl_model.specs.Names.{name_eq, at_pair, at_name}
use Rattle.crl_machine.specs.SingleMachine.{State, change, after_all}
use Rattle.crl_protocol.specs.Home.{Home, HomeStep}
use Rattle.crl_protocol.specs.Remote.{Remote, RemoteStep}
use Rattle.crl_protocol.specs.Lifetimes.{Mapping, new_mapping}
use Rattle.crl_protocol.specs.Mail.{Mail, Ask, kind_about}
use Rattle.crl_protocol.specs.Calls.{result_of}
use Rattle.crl_protocol.specs.Node.{Node, Activity, Waiting, ForMap, Outcome, map_count, message_to}
use Rattle.crl_deeds.specs.Deeds.{FreeIf, Cause, Calls, Hears, parting, EndsCall, Copies, Unfit, Lives, Rounds, Notes, Idles, Deed}
use Rattle.crl_deeds.specs.Deeds as deed
use Rattle.crl_deeds.specs.NodeFacts.{Leaves, WaitFits, Fits}
use Rattle.crl_deeds.specs.Tokens.{weigh, Span, came}
use Rattle.crl_deeds.specs.Turns.{Came}
use Rattle.crl_deeds.proofs.Laws.{same_name, weigh_append, none_to, parting_none, purges_none, span_copies, span_rounds}
use Rattle.crl_lifetime.specs.Lifetime.{tells_live, any_size, one_if}

-- A message that tells node i that its map of the region is granted, and what node i has mapped of it.
abbrev pub grants_map : ℕ → Name → Message → ℕ
grants_map i r m = one_if (tells_live any_size i r m.sender m.addressee m.kind)

abbrev pub maps_of : ℕ → Name → Node → ℕ
maps_of i r n = if n.me == i then map_count (n.maps r) else 0

-- What the machine has goes with what is mapped and what is granted: c came, and the outcome is left.
abbrev pub MapsGo : ℕ → Name → Node → ℕ → State → Outcome → Type 0
MapsGo i r n c s o = (after_all s o.entries).maps i r + (c + maps_of i r n) ≡ s.maps i r + (weigh (grants_map i r) o.posts + maps_of i r o.node)

-- nothing else weighs anything
mail_none : (i : ℕ) (r : Name) (from to : ℕ) (name : Name) (m : Mail) → grants_map i r (record { sender = from; addressee = to; kind = kind_about name m }) ≡ 0
mail_none i r from to name (Ask write have) = refl
mail_none i r from to name _ = refl

abbrev pub nothing : Node → ℕ
nothing n = 0

abbrev pub no_wait : Activity → ℕ
no_wait a = 0

pub grants_span : (i : ℕ) (r : Name) → Span (grants_map i r) nothing no_wait
grants_span i r = record {
  mail = mail_none i r;
  comes = λ from to round part. refl;
  results = λ from to round fold. refl;
  purges = λ from to name. refl;
  kept = λ n m e f. refl;
  section = λ name. refl;
  round = λ k c. refl;
  free = refl;
  ready = λ answer. refl;
}

-- entries of other things
start_same : (s : State) (me : ℕ) (write : Bool) (name : Name) (i : ℕ) (r : Name) → (change s me (if write then what.StartWrite name else what.StartRead name)).maps i r ≡ s.maps i r
start_same s me true name i r = refl
start_same s me false name i r = refl

end_same : (s : State) (n : Node) (bytes : List ℕ) (me : ℕ) (c : Call) (name : Name) (w : What) (ends : Home → HomeStep) (lowers : Remote → RemoteStep) → EndsCall bytes n c name w ends lowers → (i : ℕ) (r : Name) → (change s me w).maps i r ≡ s.maps i r
end_same s n bytes me c name w ends lowers (deed.a_read q can) i r = refl
end_same s n bytes me c name w ends lowers (deed.a_write q after can) i r = refl

result_same : (s : State) (me round : ℕ) (kind : CallKind) (f : Fold) (i : ℕ) (r : Name) → (change s me (result_of round kind f)).maps i r ≡ s.maps i r
result_same s me round kind fold.Mixed i r = refl
result_same s me round kind _ i r = refl

still : (t c g s p h : ℕ) → t ≡ s → p ≡ c → h ≡ g → t + (c + g) ≡ s + (p + h)
still t c g s p h e f k = omega arith

-- where no token is waited for
even_posts : (b d : Bool) (p c : ℕ) → (p + 0) + (if b then 0 else 0) ≡ (c + 0) + (if d then 0 else 0) → p ≡ c
even_posts b d p c e = let x = none_to b 0 in let y = none_to d 0 in omega arith

-- the entries of copies, which change no map
record SameMaps (n : Node) (o : Outcome) : Type 0 where
  entries : (s : State) (i : ℕ) (r : Name) → (after_all s o.entries).maps i r ≡ s.maps i r
  node : (i : ℕ) (r : Name) → maps_of i r o.node ≡ maps_of i r n

same_copies : (n : Node) (cause : Cause) (o : Outcome) → Copies n cause o → SameMaps n o
same_copies n cause o (deed.home_opens c write name h is e v x) = record { entries = λ s i r. start_same s n.me write name i r; node = λ i r. refl }
same_copies n cause o (deed.side_opens c write name x is e g v y) = record { entries = λ s i r. start_same s n.me write name i r; node = λ i r. refl }
same_copies n cause o (deed.home_ends c name w ends lowers h is e) = record { entries = λ s i r. end_same s n _ n.me c name w ends lowers is i r; node = λ i r. refl }
same_copies n cause o (deed.side_ends c name w ends lowers x is e g) = record { entries = λ s i r. end_same s n _ n.me c name w ends lowers is i r; node = λ i r. refl }
same_copies n cause o (deed.home_serves_own from k name h y is e x) = record { entries = λ s i r. start_same s n.me _ name i r; node = λ i r. refl }
same_copies n cause o (deed.grant_comes from name version g x e y) = record { entries = λ s i r. start_same s n.me _ name i r; node = λ i r. refl }
same_copies n cause o _ = record { entries = λ s i r. refl; node = λ i r. refl }

same_rounds : (n : Node) (cause : Cause) (o : Outcome) → Rounds n cause o → SameMaps n o
same_rounds n cause o (deed.comes_last part parts first fits all) = record { entries = λ s i r. result_same (change s n.me (what.Come part)) n.me (n.rounds + 1) (kind_of part) (fold_of parts) i r; node = λ i r. refl }
same_rounds n cause o (deed.part_last from round part parts mine k e a all) = record { entries = λ s i r. result_same s n.me mine k (fold_of parts) i r; node = λ i r. refl }
same_rounds n cause o (deed.result_comes from round f k e) = record { entries = λ s i r. result_same s n.me round k f i r; node = λ i r. refl }
same_rounds n cause o _ = record { entries = λ s i r. refl; node = λ i r. refl }

notes_maps : (i : ℕ) (r : Name) (s : State) (n : Node) (c : Call) (w : What) (m : Node) → Notes n c w m → (change s n.me w).maps i r + (0 + maps_of i r n) ≡ s.maps i r + (0 + maps_of i r m)
notes_maps i r s n c w m (deed.ends_nowhere x name y ends lowers is e) = let a = end_same s n _ n.me x name y ends lowers is i r in omega arith
notes_maps i r s n c w m _ = refl

-- A map or an unmap of the node that acts.
pair_goes : (i : ℕ) (r : Name) (n : Node) (name : Name) (k : Option Mapping) (s : State) (v : ℕ) → (map_count (n.maps name) ≤ s.maps n.me name → v + map_count (n.maps name) ≡ s.maps n.me name + map_count k) → 0 + maps_of i r n ≤ s.maps i r
    → at_pair s.maps n.me name v i r + maps_of i r n ≡ s.maps i r + (if n.me == i then map_count (at_name n.maps name k r) else 0)
pair_goes i r n name k s v goes few = go (n.me == i) (name_eq name r) refl refl few
  where
    go : (b c : Bool) → (n.me == i) ≡ b → name_eq name r ≡ c → 0 + (if b then map_count (n.maps r) else 0) ≤ s.maps i r
        → (if b && c then v else s.maps i r) + (if b then map_count (n.maps r) else 0) ≡ s.maps i r + (if b then map_count (if c then k else n.maps r) else 0)
    go true true e f few =
        let here : s.maps n.me name ≡ s.maps i r = ap (λ x. s.maps x name) (eqb-true n.me i e) ∙ ap (λ q. s.maps i q) (same_name name r f) in
        let there : map_count (n.maps name) ≡ map_count (n.maps r) = ap (λ q. map_count (n.maps q)) (same_name name r f) in
        let step = goes (omega arith) in omega arith
    go true false e f few = refl
    go false c e f few = refl

-- a mapping that changes without a count
same_count : (i : ℕ) (r : Name) (n : Node) (name : Name) (k : Option Mapping) → map_count k ≡ map_count (n.maps name) → (if n.me == i then map_count (at_name n.maps name k r) else 0) ≡ maps_of i r n
same_count i r n name k e = go (n.me == i) (name_eq name r) refl
  where
    go : (b c : Bool) → name_eq name r ≡ c → (if b then map_count (if c then k else n.maps r) else 0) ≡ (if b then map_count (n.maps r) else 0)
    go true true f = e ∙ ap (λ q. map_count (n.maps q)) (same_name name r f)
    go true false f = refl
    go false c f = refl

-- A map that the home grants to another node, and the node that hears of it.
granted_goes : (i : ℕ) (r : Name) (from : ℕ) (name : Name) (s : State) (g : ℕ) → at_pair s.maps from name (s.maps from name + 1) i r + (0 + g) ≡ s.maps i r + ((one_if ((from == i) && (name_eq name r && true)) + 0) + g)
granted_goes i r from name s g = go (from == i) (name_eq name r) refl refl
  where
    go : (b c : Bool) → (from == i) ≡ b → name_eq name r ≡ c → (if b && c then s.maps from name + 1 else s.maps i r) + (0 + g) ≡ s.maps i r + ((one_if (b && (c && true)) + 0) + g)
    go true true e f = let here : s.maps from name ≡ s.maps i r = ap (λ x. s.maps x name) (eqb-true from i e) ∙ ap (λ q. s.maps i q) (same_name name r f) in omega arith
    go true false e f = refl
    go false c e f = refl

heard_goes : (i : ℕ) (r : Name) (n : Node) (name : Name) (size : ℕ) (purged : Bool) → n.maps name ≡ None → one_if ((n.me == i) && (name_eq name r && true)) + maps_of i r n ≡ (if n.me == i then map_count (at_name n.maps name (Some (new_mapping size purged)) r) else 0)
heard_goes i r n name size purged none = go (n.me == i) (name_eq name r) refl
  where
    go : (b c : Bool) → name_eq name r ≡ c → one_if (b && (c && true)) + (if b then map_count (n.maps r) else 0) ≡ (if b then map_count (if c then Some (new_mapping size purged) else n.maps r) else 0)
    go true true f = let zero : map_count (n.maps r) ≡ 0 = ap (λ q. map_count (n.maps q)) (sym (same_name name r f)) ∙ ap map_count none in omega arith
    go true false f = omega arith
    go false c f = omega arith

not_live : (b c : Bool) → one_if (b && (c && false)) ≡ 0
not_live true true = refl
not_live true false = refl
not_live false c = refl

unfit_tells : (i : ℕ) (r : Name) (from to : ℕ) (name : Name) (x : Stage) (why : Refusal) (t : Told) (d : DeleteTold) → Unfit x why t d → grants_map i r (record { sender = from; addressee = to; kind = kind.InfoIs name t }) ≡ 0
unfit_tells i r from to name x why t d deed.never = not_live (to == i) (name_eq name r)
unfit_tells i r from to name x why t d _ = not_live (to == i) (name_eq name r)

-- The deeds of maps.
fresh_map : (q : Name) (purged : Bool) (a : Activity) (mine : Bool) (m : Option Mapping) → a ≡ Waiting (ForMap q purged) → WaitFits q a mine m → m ≡ None
fresh_map q purged a mine m e f = (subst (λ x. WaitFits q x mine m) e f refl).0

none_mapped : (o : Option Mapping) (x : ℕ) → o ≡ None → x + 1 + map_count o ≡ x + 1
none_mapped o x e = let a = ap map_count e in omega arith

one_less : (m : Mapping) (o : Option Mapping) (x : ℕ) → o ≡ Some m → (m.count == 1) ≡ true → map_count o ≤ x → (x - 1) + map_count o ≡ x + 0
one_less m o x e f few = let a = ap map_count e in let b = eqb-true m.count 1 f in omega arith

some_less : (m : Mapping) (o : Option Mapping) (x : ℕ) → o ≡ Some m → (m.count == 0) ≡ false → map_count o ≤ x → (x - 1) + map_count o ≡ x + (m.count - 1)
some_less m o x e f few = let a = ap map_count e in let b = eqb-false m.count 0 f in grind arith

posted : (t g s p h : ℕ) → p ≡ 0 → t + g ≡ s + h → t + (0 + g) ≡ s + (p + h)
posted t g s p h e f = omega arith

heard : (s c g h : ℕ) → c + g ≡ h → s + (c + g) ≡ s + (0 + h)
heard s c g h e = omega arith

maps_lives : (i : ℕ) (r : Name) (j : ℕ) (s : State) (n : Node) (cause : Cause) (o : Outcome) → Lives n cause o → Fits j n → came (grants_map i r) n.me cause + maps_of i r n ≤ s.maps i r → MapsGo i r n (came (grants_map i r) n.me cause) s o
maps_lives i r j s n cause o (deed.maps_more name m e few mine other) f l = posted _ _ _ _ _ refl (pair_goes i r n name _ s _ (λ k. let a = ap map_count e in omega arith) l)
maps_lives i r j s n cause o (deed.maps_own name e mine live) f l = posted _ _ _ _ _ refl (pair_goes i r n name _ s _ (λ k. none_mapped (n.maps name) (s.maps n.me name) e) l)
maps_lives i r j s n cause o (deed.maps_cached name size e other c) f l = posted _ _ _ _ _ refl (pair_goes i r n name _ s _ (λ k. none_mapped (n.maps name) (s.maps n.me name) e) l)
maps_lives i r j s n cause o (deed.map_told from name mine live) f l = granted_goes i r from name s (maps_of i r n)
maps_lives i r j s n cause o (deed.map_refused from name why t d unfit) f l = let a = unfit_tells i r n.me from name _ why t d unfit in omega arith
maps_lives i r j s n cause o (deed.map_comes from name purged size e) f l = heard _ _ _ _ (heard_goes i r n name size purged (fresh_map name purged n.activity _ _ e (f.each name).waiting))
maps_lives i r j s n cause o (deed.map_denied from name purged x why t d unfit e) f l = let a = unfit_tells i r from n.me name _ why t d unfit in omega arith
maps_lives i r j s n cause o (deed.unmaps_one name m e some more closed) f l = posted _ _ _ _ _ refl (pair_goes i r n name _ s _ (λ k. some_less m (n.maps name) (s.maps n.me name) e some k) l)
maps_lives i r j s n cause o (deed.unmaps_own name m e once mine closed) f l = posted _ _ _ _ _ refl (pair_goes i r n name None s _ (λ k. one_less m (n.maps name) (s.maps n.me name) e once k) l)
maps_lives i r j s n cause o (deed.unmaps_doomed name m e once other doomed closed) f l =
    posted _ _ _ _ _ (parting_none _ _ _ (grants_span i r) n name (n.remotes name)) (pair_goes i r n name None s _ (λ k. one_less m (n.maps name) (s.maps n.me name) e once k) l)
maps_lives i r j s n cause o (deed.unmaps_keeping name m e once other sound closed kept) f l = posted _ _ _ _ _ refl (pair_goes i r n name None s _ (λ k. one_less m (n.maps name) (s.maps n.me name) e once k) l)
maps_lives i r j s n cause o (deed.unmaps_evicting name m old e once other sound closed kept) f l =
    posted _ _ _ _ _ (parting_none _ _ _ (grants_span i r) n old (n.remotes old)) (pair_goes i r n name None s _ (λ k. one_less m (n.maps name) (s.maps n.me name) e once k) l)
maps_lives i r j s n cause o (deed.deletes_own name m ms mine live e) f l = still _ _ _ _ _ _ refl (purges_none _ _ _ (grants_span i r) n name _) refl
maps_lives i r j s n cause o (deed.deletes_for from name m ms mine live e) f l = still _ _ _ _ _ _ refl (purges_none _ _ _ (grants_span i r) n name _) refl
maps_lives i r j s n cause o (deed.dooms from name m e) f l = still _ _ _ _ _ _ refl refl (same_count i r n name _ (sym (ap map_count e)))
maps_lives i r j s n cause o (deed.drops from name size e c) f l =
    let a = weigh_append (grants_map i r) (parting n name (n.remotes name)) (message_to n from (kind.Purged name) ∷ []) in let b = parting_none _ _ _ (grants_span i r) n name (n.remotes name) in omega arith
maps_lives i r j s n cause o _ f l = omega arith

-- A message that tells of a map comes to a node that waits for it.
abbrev pub IsAwaited : Node → Cause → Type 0
IsAwaited n (Hears from (kind.InfoIs name t)) = (purged : Bool) × (n.activity ≡ Waiting (ForMap name purged))
IsAwaited n _ = Unit {0}

maps_idle : (i : ℕ) (r : Name) (n : Node) (cause : Cause) → Idles cause n → IsAwaited n cause → came (grants_map i r) n.me cause ≡ 0
maps_idle i r n (Calls c) h a = refl
maps_idle i r n (Hears from (kind.InfoIs name t)) h a = absurd (h a.0 a.1)
maps_idle i r n (Hears from _) h a = refl

pub maps_deed : (i : ℕ) (r : Name) (j : ℕ) (s : State) (n : Node) (cause : Cause) (o : Outcome) → Deed n cause o → Fits j n → Came Leaves n.me cause → FreeIf cause n → IsAwaited n cause → came (grants_map i r) n.me cause + maps_of i r n ≤ s.maps i r
    → MapsGo i r n (came (grants_map i r) n.me cause) s o
maps_deed i r j s n cause o (deed.copies d) f away free a l =
    let same = same_copies n cause o d in still _ _ _ _ _ _ (same.entries s i r) (even_posts _ _ _ _ (span_copies _ _ _ (grants_span i r) i j n cause o d f away free)) (same.node i r)
maps_deed i r j s n cause o (deed.lives d) f away free a l = maps_lives i r j s n cause o d f l
maps_deed i r j s n cause o (deed.rounds d) f away free a l =
    let same = same_rounds n cause o d in still _ _ _ _ _ _ (same.entries s i r) (even_posts _ _ _ _ (span_rounds _ _ _ (grants_span i r) i n cause o d free)) (same.node i r)
maps_deed i r j s n cause o (deed.notes {w = w} {m = m} d) f away free a l = notes_maps i r s n _ w m d
maps_deed i r j s n cause o (deed.refuses c why v) f away free a l = refl
maps_deed i r j s n cause o (deed.idles h) f away free a l = let z = maps_idle i r n cause h a in omega arith

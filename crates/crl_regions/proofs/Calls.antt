-- What a create and a refused call do to each region, and what is known of a name that is forgotten.
use Rattle.std.proofs.Common.{◌≡◌, ℕ, zero, suc, ◌+◌, ◌==◌, nat_lt, Bool, true, false, None, Some, Option, List, [], ◌∷◌, length, map, replicate, refl, ◌∙◌, subst}
use Rattle.std.proofs.lemmas.Bool.{cond_both, cond-true, cond-false, eq-eqb}
use Rattle.std.proofs.Math.Logic.{◌⊎◌, inl, inr}
use Rattle.crl_model.specs.declared.name.Name.{Name}
use Rattle.crl_model.specs.declared.call.Call.{Call}
use Rattle.crl_model.specs.declared.call.Call.TheVariants as call
use Rattle.crl_model.specs.declared.call.Refusal.{Refusal}
use Rattle.crl_model.specs.declared.collective.Fold.{Fold}
use Rattle.crl_model.specs.declared.directory.Section.TheVariants as section
use Rattle.crl_model.specs.declared.message.Kind.TheVariants as kind
use Rattle.crl_model.specs.Names.{name_eq}
use Rattle.crl_protocol.specs.Places.{find_all}
use Rattle.crl_protocol.specs.Home.{new_home}
use Rattle.crl_protocol.specs.Remote.{Remote}
use Rattle.crl_protocol.specs.Lifetimes.{Cached, CacheStep, cache_with, push_out}
use Rattle.crl_protocol.specs.Node.{Node, COUNT_LIMIT, serials_used, next_name, message_to}
use Rattle.crl_protocol.specs.Sections.{OpenSection, section_of, section_at}
use Rattle.crl_protocol.specs.Verdict.{uses_serial, refuses_call}
use Rattle.crl_protocol.specs.Calls.{creates, results_from}
use Rattle.crl_regions.specs.View.{flying, left_if, left_in}
use Rattle.crl_regions.proofs.Acts.{Acts, nothing, made}
use Rattle.crl_regions.proofs.Sections.{Local}
use Rattle.crl_deeds.proofs.Laws.{by_name, name_self, home_end, home_next, home_none}
use Rattle.crl_deeds.specs.NodeFacts.{RecordFits, IsCached}

-- A create.
pub acts_create : (K : Name → ℕ → Type 0) (i size : ℕ) (n : Node) → n.me ≡ i → (q : Name) → let o = creates size n in Acts K q i None (left_if (name_eq (next_name n) q) None (replicate size 0)) n o.node o.posts
acts_create K i size n me =
    by_name (next_name n) (λ b q. let o = creates size n in Acts K q i None (left_if b None (replicate size 0)) n o.node o.posts)
    (made size refl refl (eq-eqb n.me i me) (home_next n) (home_end n (creates size n).node (new_home n.nodes size) refl refl (next_name n) ∙ cond-true (name_eq (next_name n) (next_name n)) _ _ (name_self (next_name n))) refl refl refl)
    (λ q other. nothing refl refl (home_end n (creates size n).node (new_home n.nodes size) refl refl q ∙ cond-false (name_eq (next_name n) q) _ _ other) refl refl refl)

-- Messages that aren't about copies.
pub purges_quiet : (n : Node) (name q : Name) (ms : List ℕ) → find_all (flying q) (map (λ m. message_to n m (kind.Purge name)) ms) ≡ []
purges_quiet n name q [] = refl
purges_quiet n name q (m ∷ ms) = purges_quiet n name q ms

pub results_quiet : (n : Node) (q : Name) (m k round : ℕ) (fold : Fold) → find_all (flying q) (results_from n m k round fold) ≡ []
results_quiet n q m zero round fold = refl
results_quiet n q m (suc k) round fold = results_quiet n q (m + 1) k round fold

-- A name is forgotten: no section of it is open, and nothing of it is asked.
abbrev pub IsLeft : ℕ → Name → Node → Type 0
IsLeft i name n = (r : Remote) → n.remotes name ≡ Some r → ((i == name.home) ≡ false) × (r.here ≡ section.Closed) × (r.asking ≡ None) × (section_at name n.sections ≡ section.Closed)

no_record : (o : Option OpenSection) → RecordFits o None → section_of o ≡ section.Closed
no_record None f = refl
no_record (Some r) f = absurd f

pub unmapped_closed : (i : ℕ) (n : Node) (name : Name) → n.maps name ≡ None → Local i n → section_at name n.sections ≡ section.Closed
unmapped_closed i n name e l = no_record (n.sections.records name) (subst (λ m. RecordFits (n.sections.records name) m) e (l.fits.each name).sections)

-- what the cache gives up is what is put in, or was there
abbrev pub FromCache : Cached → List Cached → CacheStep → Type 0
FromCache new cache k = (name : Name) → k.evicted ≡ Some name → (new.name ≡ name) ⊎ ((size : ℕ) × IsCached name size cache)

out_of : (new : Cached) (cache : List Cached) → FromCache new cache (push_out new cache)
out_of new [] name e = inl (cc)
out_of new (oldest ∷ cache) name e = let same : oldest.name ≡ name = cc in inr (oldest.size, inl (same, refl))

pub evicted_from : (capacity : ℕ) (new : Cached) (cache : List Cached) → FromCache new cache (cache_with capacity new cache)
unfolding cache_with
evicted_from capacity new cache =
    cond_both (capacity == 0) _ _ (FromCache new cache) (λ w name e. inl (cc))
    (λ w. cond_both (nat_lt (length cache) capacity) _ _ (FromCache new cache) (λ v name e. cc) (λ v. out_of new cache))

-- a call that is refused
acts_used : (K : Name → ℕ → Type 0) (i : ℕ) (n : Node) (q : Name) → Acts K q i None None n (uses_serial n) []
acts_used K i n q = cond_both (serials_used n == COUNT_LIMIT) _ _ (λ m. Acts K q i None None n m []) (λ w. nothing refl refl refl refl refl refl) (λ w. nothing refl refl (home_none n q) refl refl refl)

pub acts_refused : (K : Name → ℕ → Type 0) (i : ℕ) (n : Node) (why : Refusal) (c : Call) (q : Name) → let o = refuses_call why c n in Acts K q i None None n o.node o.posts
unfolding refuses_call
acts_refused K i n why (call.Create size) q = acts_used K i n q
acts_refused K i n why (call.Delete name) q = nothing refl refl refl refl refl refl
acts_refused K i n why (call.Map name) q = nothing refl refl refl refl refl refl
acts_refused K i n why (call.Unmap name) q = nothing refl refl refl refl refl refl
acts_refused K i n why (call.StartRead name) q = nothing refl refl refl refl refl refl
acts_refused K i n why (call.EndRead name) q = nothing refl refl refl refl refl refl
acts_refused K i n why (call.StartWrite name) q = nothing refl refl refl refl refl refl
acts_refused K i n why (call.EndWrite name after) q = nothing refl refl refl refl refl refl
acts_refused K i n why (call.Put name offset len) q = nothing refl refl refl refl refl refl
acts_refused K i n why (call.Add name offset) q = nothing refl refl refl refl refl refl
acts_refused K i n why (call.Flush name) q = nothing refl refl refl refl refl refl
acts_refused K i n why (call.Come part) q = nothing refl refl refl refl refl refl

left_refused : (b : Bool) (why : Refusal) (after : List ℕ) → left_if b (Some why) after ≡ None
left_refused true why after = refl
left_refused false why after = refl

pub left_none : (q : Name) (n : Node) (why : Refusal) (c : Call) → left_in q n (Some why) c ≡ None
left_none q n why (call.Create size) = left_refused (name_eq (next_name n) q) why _
left_none q n why (call.Delete name) = refl
left_none q n why (call.Map name) = refl
left_none q n why (call.Unmap name) = refl
left_none q n why (call.StartRead name) = refl
left_none q n why (call.EndRead name) = refl
left_none q n why (call.StartWrite name) = refl
left_none q n why (call.EndWrite name after) = left_refused (name_eq name q) why _
left_none q n why (call.Put name offset len) = refl
left_none q n why (call.Add name offset) = refl
left_none q n why (call.Flush name) = refl
left_none q n why (call.Come part) = refl

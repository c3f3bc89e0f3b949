-- What a deed does to each region.
use Rattle.std.proofs.Common.{◌≡◌, ℕ, ◌-◌, ◌==◌, Bool, true, false, None, Some, Option, List, [], if◌then◌else◌, refl, ap, sym, ◌∙◌, subst}
use Rattle.std.proofs.lemmas.Bool.{ne_eqb, eqb-false}
use Rattle.std.proofs.Math.Logic.{◌⊎◌, inl, inr}
use Rattle.crl_model.specs.declared.name.Name.{Name}
use Rattle.crl_model.specs.declared.directory.Section.TheVariants as section
use Rattle.crl_model.specs.declared.call.Call.{Call}
use Rattle.crl_model.specs.declared.call.Call.TheVariants as call
use Rattle.crl_model.specs.declared.call.Refusal.{Refusal}
use Rattle.crl_model.specs.declared.message.Kind.TheVariants as kind
use Rattle.crl_model.specs.Names.{name_eq}
use Rattle.crl_protocol.specs.Remote.{Remote}
use Rattle.crl_protocol.specs.Lifetimes.{members}
use Rattle.crl_protocol.specs.Sections.{section_at}
use Rattle.crl_protocol.specs.Node.{Node, ForMap, Free, Waiting, Outcome, at_serial, is_mine, home_of, lifetime_of, message_to}
use Rattle.crl_protocol.specs.Verdict.{verdict}
use Rattle.crl_deeds.specs.Deeds.{Cause, Calls, Hears, parting, forgotten, to_read, to_write, Copies, Lives, Rounds, Notes, Deed, copies, lives, rounds, notes, refuses, idles, Idles, home_opens, home_waits, side_opens, side_waits, home_ends, side_ends, side_flushes, home_serves, home_serves_own, grant_comes, side_called, ends_nowhere, flushes_own, flushes_nowhere, made, used_up, map_comes, unmaps_doomed, unmaps_evicting, deletes_own, deletes_for, drops, comes_last, part_last, part_last_idle}
use Rattle.crl_protocol.specs.Calls.{call_or_refuse, node_calls}
use Rattle.crl_protocol.specs.World.{is_call}
use Rattle.crl_protocol.specs.Verdict.{refuses_call}
use Rattle.crl_model.specs.declared.entry.What.{What}
use Rattle.crl_coherence.specs.Region.{Flying}
use Rattle.crl_regions.specs.View.{flying, left_in}
use Rattle.crl_regions.specs.MailFits.{Tables, HasSize, FitsTables}
use Rattle.crl_regions.proofs.Acts.{Acts, nothing, acts_sending}
use Rattle.crl_regions.proofs.Sections.{Local, away, here_is, free_asks, start_home, start_side}
use Rattle.crl_regions.proofs.Ends.{end_home, end_side, end_nowhere, flush_side, forgets_acts}
use Rattle.crl_regions.proofs.Calls.{IsLeft, acts_create, acts_refused, left_none, purges_quiet, results_quiet, unmapped_closed, evicted_from}
use Rattle.crl_regions.proofs.Messages.{Passes, serves_home, grant_side, called_side, idle_message, acts_mapped, left_unmapped}
use Rattle.crl_deeds.proofs.Laws.{same_name, asking_of, call_deed, closed_is}
use Rattle.crl_deeds.specs.NodeFacts.{WaitFits, IsCached, FreshFits}

home_as : (n m : Node) (q : Name) → m.me ≡ n.me → m.homes ≡ n.homes → home_of m q ≡ home_of n q
home_as n m q same homes = ap (λ me. if q.home == me then at_serial q.serial m.homes else None) same ∙ ap (λ hs. if q.home == n.me then at_serial q.serial hs else None) homes

-- a name that is forgotten
acts_forgotten : (K : Name → ℕ → Type 0) (i : ℕ) (n m : Node) (name : Name) (o : Option Remote) → n.remotes name ≡ o → n.me ≡ i → IsLeft i name n → ((q : Name) → m.remotes q ≡ (forgotten name n).remotes q) → m.me ≡ n.me → m.homes ≡ n.homes → m.sections ≡ n.sections
    → (q : Name) → Acts K q i None None n m (parting n name o)
acts_forgotten K i n m name None e me left remotes same homes sections q =
    nothing refl refl (home_as n m q same homes) (remotes q ∙ go (name_eq name q) refl) refl (ap (section_at q) sections)
  where
    go : (b : Bool) → name_eq name q ≡ b → (if b then None else n.remotes q) ≡ n.remotes q
    go true w = sym (ap n.remotes (sym (same_name name q w)) ∙ e)
    go false w = refl
acts_forgotten K i n m name (Some r) e me left remotes same homes sections q =
    let l = left r e in forgets_acts K i n m name r e me l.0 l.1 l.2 l.3 sections (λ p. home_as n m p same homes) remotes q

-- the size of a region that is there
abbrev pub Known : Tables → Name → ℕ → Type 0
Known tables p size = HasSize size (tables p)

-- of a call that isn't refused, the bytes that it leaves in the array; of a message, what it is of the region
abbrev pub left_of : Name → Node → Cause → Option (List ℕ)
left_of q n (Calls c) = left_in q n None c
left_of q n (Hears from k) = None

abbrev pub came_of : Name → ℕ → Cause → Option Flying
came_of q i (Calls c) = None
came_of q i (Hears from k) = flying q (record { sender = from; addressee = i; kind = k })

-- A call that comes and isn't refused, and a message that passes the tests.
abbrev pub CauseFits : Tables → ℕ → Node → Cause → Type 0
CauseFits tables i n (Calls c) = (verdict n c ≡ None) × (is_call n c None ≡ true) × (n.activity ≡ Free)
CauseFits tables i n (Hears from k) = FitsTables tables from i k × Passes from k n

left_at : (i : ℕ) (n : Node) (name : Name) → n.activity ≡ Free → section_at name n.sections ≡ section.Closed → Local i n → IsLeft i name n
left_at i n name free closed l r e =
    (away i n name r e l.fits, here_is i n name r e l ∙ closed, free_asks name r n.activity free (asking_of i n name r e l.fits), closed)

-- what a node maps isn't its own, and nothing of it is here
comes_new : (i : ℕ) (n : Node) (name : Name) (purged : Bool) → n.activity ≡ Waiting (ForMap name purged) → Local i n → ((i == name.home) ≡ false) × (n.remotes name ≡ None)
comes_new i n name purged e l = (ne_eqb i name.home (λ w. eqb-false name.home n.me waits.1 (sym w ∙ sym l.fits.me)), nowhere (n.remotes name) refl)
  where
    waits : (n.maps name ≡ None) × (is_mine n name ≡ false)
    waits = subst (λ a. WaitFits name a (is_mine n name) (n.maps name)) e (l.fits.each name).waiting refl

    nowhere : (o : Option Remote) → n.remotes name ≡ o → n.remotes name ≡ None
    nowhere None r = r
    nowhere (Some x) r = let c = l.held name x r waits.0 in absurd (subst (λ a. FreshFits a n.cache) e l.fits.fresh c.0 c.1)

acts_lives : (tables : Tables) (i : ℕ) (n : Node) (cause : Cause) (o : Outcome) → Lives n cause o → CauseFits tables i n cause → Local i n → (q : Name) → Acts (Known tables) q i (came_of q i cause) (left_of q n cause) n o.node o.posts
unfolding verdict
acts_lives tables i n cause o (made size e) fits l q = acts_create (Known tables) i size n l.fits.me q
acts_lives tables i n cause o (used_up size why e x) fits l q = absurd (let v = fits.0 in cc)
acts_lives tables i n cause o (map_comes from name purged size e) fits l q = let new = comes_new i n name purged e l in acts_mapped (Known tables) i n name purged size new.0 new.1 l fits.0 q
acts_lives tables i n cause o (unmaps_doomed name m e one other doomed closed) fits l q =
    acts_forgotten (Known tables) i n o.node name (n.remotes name) refl l.fits.me (left_at i n name fits.2 (closed_is _ closed) l) (λ p. refl) refl refl refl q
acts_lives tables i n cause o (unmaps_evicting name m old e one other sound closed kept) fits l q =
    acts_forgotten (Known tables) i n o.node old (n.remotes old) refl l.fits.me (of_either (evicted_from n.capacity (record { name = name; size = m.size }) n.cache old kept)) (λ p. refl) refl refl refl q
  where
    of_either : (name ≡ old) ⊎ ((size : ℕ) × IsCached old size n.cache) → IsLeft i old n
    of_either (inl same) = subst (λ x. IsLeft i x n) same (left_at i n name fits.2 (closed_is _ closed) l)
    of_either (inr c) = left_at i n old fits.2 (unmapped_closed i n old (l.cached old c.0 c.1) l) l
acts_lives tables i n cause o (drops from name size e c) fits l q =
    acts_sending (Known tables) q i None None n o.node (parting n name (n.remotes name)) (message_to n from (kind.Purged name)) refl
    (acts_forgotten (Known tables) i n o.node name (n.remotes name) refl l.fits.me (left_unmapped i n name e l) (λ p. refl) refl refl refl q)
acts_lives tables i n cause o (deletes_own name m ms mine live e) fits l q = nothing refl refl refl refl (purges_quiet n name q (members n.nodes (lifetime_of n name).asked)) refl
acts_lives tables i n cause o (deletes_for from name m ms mine live e) fits l q = nothing refl refl refl refl (purges_quiet n name q (members n.nodes (lifetime_of n name).asked)) refl
acts_lives tables i n cause o _ fits l q = nothing refl refl refl refl refl refl

acts_rounds : (K : Name → ℕ → Type 0) (i : ℕ) (n : Node) (cause : Cause) (o : Outcome) → Rounds n cause o → (q : Name) → Acts K q i (came_of q i cause) (left_of q n cause) n o.node o.posts
acts_rounds K i n cause o (comes_last part parts first fits all) q = nothing refl refl refl refl (results_quiet n q 1 (n.nodes - 1) _ _) refl
acts_rounds K i n cause o (part_last from round part parts mine k e a all) q = nothing refl refl refl refl (results_quiet n q 1 (n.nodes - 1) _ _) refl
acts_rounds K i n cause o (part_last_idle from round part parts idle a all) q = nothing refl refl refl refl (results_quiet n q 1 (n.nodes - 1) _ _) refl
acts_rounds K i n cause o _ q = nothing refl refl refl refl refl refl

acts_copies : (tables : Tables) (i : ℕ) (n : Node) (cause : Cause) (o : Outcome) → Copies n cause o → CauseFits tables i n cause → Local i n → (q : Name) → Acts (Known tables) q i (came_of q i cause) (left_of q n cause) n o.node o.posts
acts_copies tables i n cause o (home_opens c write name h (to_read name0) e v x) fits l q = start_home (Known tables) i n write name h true x e v.section fits.2 l q
acts_copies tables i n cause o (home_opens c write name h (to_write name0) e v x) fits l q = start_home (Known tables) i n write name h true x e v.section fits.2 l q
acts_copies tables i n cause o (home_waits c write name h (to_read name0) e v x) fits l q = start_home (Known tables) i n write name h false x e v.section fits.2 l q
acts_copies tables i n cause o (home_waits c write name h (to_write name0) e v x) fits l q = start_home (Known tables) i n write name h false x e v.section fits.2 l q
acts_copies tables i n cause o (side_opens c write name r (to_read name0) none e v x) fits l q = start_side (Known tables) i n write name r true x e v.section fits.2 l q
acts_copies tables i n cause o (side_opens c write name r (to_write name0) none e v x) fits l q = start_side (Known tables) i n write name r true x e v.section fits.2 l q
acts_copies tables i n cause o (side_waits c write name r (to_read name0) none e v x) fits l q = start_side (Known tables) i n write name r false x e v.section fits.2 l q
acts_copies tables i n cause o (side_waits c write name r (to_write name0) none e v x) fits l q = start_side (Known tables) i n write name r false x e v.section fits.2 l q
acts_copies tables i n cause o (home_ends c name w ends lowers h is e) fits l q = end_home (Known tables) i n c name w ends lowers h is fits.1 e fits.2 l q
acts_copies tables i n cause o (side_ends c name w ends lowers r is none e) fits l q = end_side (Known tables) i n c name w ends lowers r is fits.1 e l q
acts_copies tables i n cause o (side_flushes name r other e can) fits l q = flush_side (Known tables) i n name r e can.closed fits.2 l q
acts_copies tables i n cause o (home_serves from k name h s is e x) fits l q = serves_home tables (Known tables) i from k n name h s false is x e fits.0 fits.1 l q
acts_copies tables i n cause o (home_serves_own from k name h s is e x) fits l q = serves_home tables (Known tables) i from k n name h s true is x e fits.0 fits.1 l q
acts_copies tables i n cause o (grant_comes from name version what r e t) fits l q = grant_side tables (Known tables) i from n name version what r fits.0 l fits.1 e t q
acts_copies tables i n cause o (side_called from k name r s is e) fits l q = called_side tables (Known tables) i from k n name r s is e fits.0 l q

acts_notes : (K : Name → ℕ → Type 0) (i : ℕ) (n : Node) (c : Call) (w : What) (m : Node) → Notes n c w m → Local i n → (q : Name) → Acts K q i None (left_in q n None c) n m []
acts_notes K i n c w m (ends_nowhere c0 name w0 ends lowers is none) l q = absurd (end_nowhere i n c name w ends lowers is none.0 none.1 l)
acts_notes K i n c w m (flushes_own name mine closed) l q = nothing refl refl refl refl refl refl
acts_notes K i n c w m (flushes_nowhere name other e closed) l q = nothing refl refl refl refl refl refl

idle_call : (K : Name → ℕ → Type 0) (i : ℕ) (n : Node) (c : Call) → Idles (Calls c) n → (q : Name) → Acts K q i None (left_in q n None c) n n []
idle_call K i n (call.Put name offset len) idle q = nothing refl refl refl refl refl refl
idle_call K i n (call.Add name offset) idle q = nothing refl refl refl refl refl refl
idle_call K i n (call.StartRead name) idle q = nothing refl refl refl refl refl refl
idle_call K i n (call.StartWrite name) idle q = nothing refl refl refl refl refl refl
idle_call K i n (call.Create size) idle q = absurd idle
idle_call K i n (call.Delete name) idle q = absurd idle
idle_call K i n (call.Map name) idle q = absurd idle
idle_call K i n (call.Unmap name) idle q = absurd idle
idle_call K i n (call.EndRead name) idle q = absurd idle
idle_call K i n (call.EndWrite name after) idle q = absurd idle
idle_call K i n (call.Flush name) idle q = absurd idle
idle_call K i n (call.Come part) idle q = absurd idle

acts_idle : (tables : Tables) (i : ℕ) (n : Node) (cause : Cause) → Idles cause n → CauseFits tables i n cause → Local i n → (q : Name) → Acts (Known tables) q i (came_of q i cause) (left_of q n cause) n n []
acts_idle tables i n (Calls c) idle fits l q = idle_call (Known tables) i n c idle q
acts_idle tables i n (Hears from k) idle fits l q = idle_message tables (Known tables) i from k n idle fits.0 fits.1 l q

pub acts_deed : (tables : Tables) (i : ℕ) (n : Node) (cause : Cause) (o : Outcome) → Deed n cause o → CauseFits tables i n cause → Local i n → (q : Name) → Acts (Known tables) q i (came_of q i cause) (left_of q n cause) n o.node o.posts
acts_deed tables i n cause o (copies c) fits l q = acts_copies tables i n cause o c fits l q
acts_deed tables i n cause o (lives c) fits l q = acts_lives tables i n cause o c fits l q
acts_deed tables i n cause o (rounds c) fits l q = acts_rounds (Known tables) i n cause o c q
acts_deed tables i n cause o (notes c) fits l q = acts_notes (Known tables) i n _ _ _ c l q
acts_deed tables i n cause o (refuses c why e) fits l q = absurd (let v = fits.0 in cc)
acts_deed tables i n cause o (idles c) fits l q = acts_idle tables i n cause c fits l q

-- A call, whether it is refused or not.
pub acts_call : (tables : Tables) (i : ℕ) (n : Node) (c : Call) → n.activity ≡ Free → is_call n c (verdict n c) ≡ true → Local i n
    → (q : Name) → let out = node_calls c n in Acts (Known tables) q i None (left_in q n (verdict n c) c) n out.node out.posts
acts_call tables i n c free may l q = go (verdict n c) refl
  where
    go : (o : Option Refusal) → verdict n c ≡ o → let out = call_or_refuse (verdict n c) c n in Acts (Known tables) q i None (left_in q n (verdict n c) c) n out.node out.posts
    go None v = subst (λ w. let out = call_or_refuse (verdict n c) c n in Acts (Known tables) q i None (left_in q n w c) n out.node out.posts) (sym v)
        (acts_deed tables i n (Calls c) (node_calls c n) (call_deed n c) (v, subst (λ w. is_call n c w ≡ true) v may, free) l q)
    go (Some why) v = subst (λ w. let out = call_or_refuse w c n in Acts (Known tables) q i None (left_in q n w c) n out.node out.posts) (sym v)
        (subst (λ x. let out = refuses_call why c n in Acts (Known tables) q i None x n out.node out.posts) (sym (left_none q n why c)) (acts_refused (Known tables) i n why c q))

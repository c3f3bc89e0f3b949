-- The section that is open after each event of the home and of another node's side, and in the node's own notes.
use Rattle.std.proofs.Common.{◌≡◌, ◌⊎◌, inl, inr, ℕ, ◌-◌, ◌==◌, nat_lt, Bool, true, false, not, ◌&&◌, None, Some, Option, List, [], ◌∷◌, ◌++◌, if◌then◌else◌, refl, ap, ◌∙◌}
use Rattle.std.proofs.lemmas.Bool.{cond_both, cond-true, cond-false, and_parts, eq-eqb}
use Rattle.crl_model.specs.declared.name.Name.{Name}
use Rattle.crl_model.specs.declared.directory.Section.{Section}
use Rattle.crl_model.specs.declared.directory.Section.TheVariants as section
use Rattle.crl_model.specs.declared.directory.Asked.{Asked}
use Rattle.crl_model.specs.Names.{name_eq, at_name}
use Rattle.crl_protocol.specs.Home.{Home, HomeStep, is_servable, lets_open, open_own, grant_next, grant_for, opens_own_section, posts_first, serve, own_ask, is_empty, is_reading, one_section_more, one_section_less, home_takes_ask, home_takes_return, home_takes_release, is_to_lower, home_starts, home_ends_read, home_ends_write}
use Rattle.crl_protocol.specs.Places.{at}
use Rattle.crl_protocol.specs.Remote.{Copy, Remote, RemoteStep, remote_starts, starts_over, notes_due, is_newer, overtakes, recall_in, recall_over, remote_takes_recall, yield_in, yield_over, remote_takes_yield, leaves_over, lowers_over, is_closed, remote_ends_read, remote_ends_write, flushes_over, remote_flushes}
use Rattle.crl_protocol.specs.Sections.{OpenSection, Sections, section_of, section_at, begins_to_read, section_begins, ends_over, section_ends}
use Rattle.crl_deeds.specs.NodeFacts.{NoOwn}
use Rattle.crl_deeds.proofs.Laws.{name_self}

-- a section begins beside those that are open
abbrev pub begun : Bool → Section → Section
begun true s = section.Writing
begun false s = one_section_more s

-- Serve opens the home's own section, or leaves what is open.
abbrev pub Serves : Section → HomeStep → Type 0
Serves mine s = (s.opened ≡ true → (s.home.mine ≡ section.Writing) ⊎ (s.home.mine ≡ section.Reading 1)) × (s.opened ≡ false → s.home.mine ≡ mine)

serves_next : (me : ℕ) (h : Home) (ask : Asked) (queue : List Asked) (opened granted : HomeStep) (b c : Bool)
    → Serves (open_own h ask).mine opened → Serves h.mine granted → (blocked : HomeStep) → Serves h.mine blocked
    → Serves h.mine (if b then (if c then opens_own_section opened else posts_first (grant_for h ask) granted) else blocked)
serves_next me h ask queue o g true true f k blocked w = ((λ e. of_bool o.opened refl), λ e. cc)
  where
    of_bool : (b : Bool) → o.opened ≡ b → (o.home.mine ≡ section.Writing) ⊎ (o.home.mine ≡ section.Reading 1)
    of_bool true e = f.0 e
    of_bool false e = own ask.write (f.1 e)
      where
        own : (b : Bool) → o.home.mine ≡ (if b then section.Writing else section.Reading 1) → (o.home.mine ≡ section.Writing) ⊎ (o.home.mine ≡ section.Reading 1)
        own true e = inl e
        own false e = inr e
serves_next me h ask queue o g true false f k blocked w = k
serves_next me h ask queue o g false c f k blocked w = w

pub serves : (me : ℕ) (h : Home) (queue : List Asked) → Serves h.mine (serve me h queue)
serves me h [] = ((λ e. cc), λ e. refl)
serves me h (ask ∷ queue) =
    serves_next me h ask queue (serve me (open_own h ask) queue) (serve me (grant_next h ask) queue) (is_servable h ask) (ask.node == me)
    (serves me (open_own h ask) queue) (serves me (grant_next h ask) queue) _ ((λ e. cc), λ e. refl)

pub asked_serves : (me : ℕ) (ask : Asked) (h : Home) → Serves h.mine (home_takes_ask me ask h)
unfolding home_takes_ask
asked_serves me ask h = serves me h (h.queue ++ ask ∷ [])

pub returned_serves : (me n : ℕ) (bytes : Option (List ℕ)) (h : Home) → Serves h.mine (home_takes_return me n bytes h)
unfolding home_takes_return
returned_serves me n bytes h = serves me _ h.queue

pub released_serves : (me n version : ℕ) (bytes : List ℕ) (h : Home) → Serves h.mine (home_takes_release me n version bytes h)
unfolding home_takes_release
released_serves me n version bytes h = cond_both (is_to_lower version (at n h.listed)) _ _ (Serves h.mine) (λ w. serves me _ h.queue) (λ w. ((λ e. cc), λ e. refl))

-- without an own ask nothing opens
silent_next : (me : ℕ) (h : Home) (ask : Asked) (granted opened blocked : HomeStep) (b c : Bool) → c ≡ false → granted.home.mine ≡ h.mine → blocked.home.mine ≡ h.mine
    → (if b then (if c then opens_own_section opened else posts_first (grant_for h ask) granted) else blocked).home.mine ≡ h.mine
silent_next me h ask g o blocked true true e f k = cc
silent_next me h ask g o blocked true false e f k = f
silent_next me h ask g o blocked false c e f k = k

pub silent : (me : ℕ) (h : Home) (queue : List Asked) → NoOwn me queue → (serve me h queue).home.mine ≡ h.mine
silent me h [] none = refl
silent me h (ask ∷ queue) none =
    silent_next me h ask (serve me (grant_next h ask) queue) (serve me (open_own h ask) queue) _ (is_servable h ask) (ask.node == me) none.0 (silent me (grant_next h ask) queue none.1) refl

pub read_ended : (me : ℕ) (h : Home) → NoOwn me h.queue → (home_ends_read me h).home.mine ≡ one_section_less h.mine
unfolding home_ends_read
read_ended me h none = silent me _ h.queue none

pub write_ended : (me : ℕ) (bytes : List ℕ) (h : Home) → NoOwn me h.queue → (home_ends_write me bytes h).home.mine ≡ section.Closed
unfolding home_ends_write
write_ended me bytes h none = silent me _ h.queue none

-- the own ask behind all others
abbrev pub Starts : Bool → Section → HomeStep → Type 0
Starts write mine s = (s.opened ≡ true → (s.home.mine ≡ (if write then section.Writing else section.Reading 1)) × (lets_open mine write ≡ true)) × (s.opened ≡ false → s.home.mine ≡ mine)

last_next : (me : ℕ) (write : Bool) (h : Home) (ask : Asked) (granted opened blocked : HomeStep) (b c : Bool) → c ≡ false → Starts write h.mine granted → Starts write h.mine blocked
    → Starts write h.mine (if b then (if c then opens_own_section opened else posts_first (grant_for h ask) granted) else blocked)
last_next me write h ask g o blocked true true e f k = cc
last_next me write h ask g o blocked true false e f k = f
last_next me write h ask g o blocked false c e f k = k

own_last : (me : ℕ) (write : Bool) (h : Home) (blocked : HomeStep) (b c : Bool) → is_servable h (own_ask me write) ≡ b → c ≡ true → Starts write h.mine blocked
    → Starts write h.mine (if b then (if c then opens_own_section (serve me (open_own h (own_ask me write)) []) else posts_first (grant_for h (own_ask me write)) (serve me (grant_next h (own_ask me write)) [])) else blocked)
own_last me write h blocked true true e f k = ((λ w. (refl, (and_parts _ _ e).0)), λ w. cc)
own_last me write h blocked true false e f k = cc
own_last me write h blocked false c e f k = k

pub serve_last : (me : ℕ) (write : Bool) (h : Home) (queue : List Asked) → NoOwn me queue → Starts write h.mine (serve me h (queue ++ own_ask me write ∷ []))
serve_last me write h [] none = own_last me write h _ (is_servable h (own_ask me write)) (me == me) refl (eq-eqb me me refl) ((λ e. cc), λ e. refl)
serve_last me write h (ask ∷ queue) none =
    last_next me write h ask (serve me (grant_next h ask) (queue ++ own_ask me write ∷ [])) (serve me (open_own h ask) (queue ++ own_ask me write ∷ [])) _ (is_servable h ask) (ask.node == me) none.0
    (serve_last me write (grant_next h ask) queue none.1) ((λ e. cc), λ e. refl)

begun_of : (write : Bool) (mine : Section) → (not write && is_reading mine) ≡ false → lets_open mine write ≡ true → (if write then section.Writing else section.Reading 1) ≡ begun write mine
begun_of true mine e w = refl
begun_of false section.Closed e w = refl
begun_of false (section.Reading count) e w = cc
begun_of false section.Writing e w = cc

read_begun : (write : Bool) (mine : Section) → (not write && is_reading mine) ≡ true → one_section_more mine ≡ begun write mine
read_begun true mine e = cc
read_begun false mine e = refl

pub home_begun : (me : ℕ) (write : Bool) (h : Home) → NoOwn me h.queue → let s = home_starts me write h in (s.opened ≡ true → s.home.mine ≡ begun write h.mine) × (s.opened ≡ false → s.home.mine ≡ h.mine)
unfolding home_starts
home_begun me write h none =
    cond_both (not write && is_reading h.mine) _ _ (λ (s : HomeStep). (s.opened ≡ true → s.home.mine ≡ begun write h.mine) × (s.opened ≡ false → s.home.mine ≡ h.mine))
    (λ w. ((λ e. read_begun write h.mine w), λ e. cc))
    (λ w. cond_both (is_empty h.queue && is_servable h (own_ask me write)) _ _ (λ (s : HomeStep). (s.opened ≡ true → s.home.mine ≡ begun write h.mine) × (s.opened ≡ false → s.home.mine ≡ h.mine))
    (λ v. ((λ e. begun_of write h.mine w (and_parts _ _ (and_parts _ _ v).1).0), λ e. cc))
    (λ v. let last = serve_last me write h h.queue none in ((λ e. let l = last.0 e in l.0 ∙ begun_of write h.mine w l.1), last.1)))

-- another node's side
start_begun : (write : Bool) (copy : Option Copy) (r : Remote) → let s = starts_over write copy r in (s.opened ≡ true → s.remote.here ≡ begun write r.here) × (s.opened ≡ false → s.remote.here ≡ r.here)
start_begun write None r = ((λ e. cc), λ e. refl)
start_begun false (Some copy) r = ((λ e. refl), λ e. cc)
start_begun true (Some copy) r =
    cond_both copy.exclusive _ _ (λ (s : RemoteStep). (s.opened ≡ true → s.remote.here ≡ section.Writing) × (s.opened ≡ false → s.remote.here ≡ r.here)) (λ w. ((λ e. refl), λ e. cc)) (λ w. ((λ e. cc), λ e. refl))

pub side_begun : (write : Bool) (r : Remote) → let s = remote_starts write r in (s.opened ≡ true → s.remote.here ≡ begun write r.here) × (s.opened ≡ false → s.remote.here ≡ r.here)
unfolding remote_starts
side_begun write r = start_begun write r.copy r

abbrev Same : Remote → RemoteStep → Type 0
Same r s = s.remote.here ≡ r.here

noted : (version : ℕ) (yields : Bool) (asking : Option Bool) (r : Remote) → (notes_due version yields asking r).here ≡ r.here
noted version yields None r = refl
noted version yields (Some write) r = cond_both (is_newer version r.due) _ _ (λ (x : Remote). x.here ≡ r.here) (λ w. refl) (λ w. refl)

overtaken : (version old : ℕ) (yields : Bool) (r : Remote) → Same r (overtakes version old yields r)
overtaken version old yields r = cond_both (nat_lt old version) _ _ (λ (x : Remote). x.here ≡ r.here) (λ w. noted version yields r.asking r) (λ w. refl)

recall_in_same : (here : Section) (copy : Copy) (r : Remote) → Same r (recall_in here copy r)
recall_in_same section.Closed copy r = refl
recall_in_same (section.Reading count) copy r = refl
recall_in_same section.Writing copy r = refl

recall_over_same : (version : ℕ) (copy : Option Copy) (r : Remote) → Same r (recall_over version copy r)
recall_over_same version None r = noted version false r.asking r
recall_over_same version (Some copy) r = cond_both (version == copy.version) _ _ (Same r) (λ w. recall_in_same r.here copy r) (λ w. overtaken version copy.version false r)

pub recalled_same : (version : ℕ) (r : Remote) → Same r (remote_takes_recall version r)
unfolding remote_takes_recall
recalled_same version r = recall_over_same version r.copy r

yield_in_same : (here : Section) (copy : Copy) (r : Remote) → Same r (yield_in here copy r)
yield_in_same section.Closed copy r = refl
yield_in_same (section.Reading count) copy r = refl
yield_in_same section.Writing copy r = refl

yield_over_same : (version : ℕ) (copy : Option Copy) (r : Remote) → Same r (yield_over version copy r)
yield_over_same version None r = noted version true r.asking r
yield_over_same version (Some copy) r = cond_both ((version == copy.version) && copy.exclusive) _ _ (Same r) (λ w. yield_in_same r.here copy r) (λ w. overtaken version copy.version true r)

pub yields_same : (version : ℕ) (r : Remote) → Same r (remote_takes_yield version r)
unfolding remote_takes_yield
yields_same version r = yield_over_same version r.copy r

flush_over : (copy : Option Copy) (r : Remote) → Same r (flushes_over copy r)
flush_over None r = refl
flush_over (Some copy) r = refl

pub flushes_same : (r : Remote) → Same r (remote_flushes r)
unfolding remote_flushes
flushes_same r = flush_over r.copy r

leave_over : (copy : Option Copy) (r : Remote) → Same r (leaves_over copy r)
leave_over None r = refl
leave_over (Some copy) r = refl

lower_over : (copy : Option Copy) (r : Remote) → Same r (lowers_over copy r)
lower_over None r = refl
lower_over (Some copy) r = refl

pub read_left : (r : Remote) → (remote_ends_read r).remote.here ≡ one_section_less r.here
unfolding remote_ends_read
read_left r =
    let after : Remote = record r { here = one_section_less r.here } in
    cond_both (is_closed after.here && after.leaving) _ _ (λ (s : RemoteStep). s.remote.here ≡ one_section_less r.here) (λ w. leave_over after.copy after) (λ w. refl)

pub write_left : (bytes : List ℕ) (r : Remote) → (remote_ends_write bytes r).remote.here ≡ section.Closed
unfolding remote_ends_write
write_left bytes r =
    let P : RemoteStep → Type 0 = λ s. s.remote.here ≡ section.Closed in
    cond_both r.leaving _ _ P (λ w. leave_over _ _) (λ w. cond_both r.lowering _ _ P (λ v. lower_over _ _) (λ v. refl))

-- The node's own notes, where a section begins and where it ends.
here_at : {A : Type 0} (name : Name) (f : Name → A) (v : A) → at_name f name v name ≡ v
here_at name f v = cond-true (name_eq name name) _ _ (name_self name)

begins_at : (name : Name) (bytes : List ℕ) (s : Sections) (o : Option OpenSection) → s.records name ≡ o → section_at name (begins_to_read name o bytes s).sections ≡ one_section_more (section_of o)
begins_at name bytes s None e = ap section_of (here_at name s.records _)
begins_at name bytes s (Some r) e = ap section_of (here_at name s.records _)

pub noted_begun : (write : Bool) (name : Name) (bytes : List ℕ) (s : Sections) → section_at name (section_begins write name bytes s).sections ≡ begun write (section_at name s)
unfolding section_begins
noted_begun true name bytes s = ap section_of (here_at name s.records _)
noted_begun false name bytes s = begins_at name bytes s (s.records name) refl

read_other : (name q : Name) (bytes : List ℕ) (s : Sections) (o : Option OpenSection) → name_eq name q ≡ false → section_at q (begins_to_read name o bytes s).sections ≡ section_at q s
read_other name q bytes s None e = ap section_of (cond-false (name_eq name q) _ _ e)
read_other name q bytes s (Some r) e = ap section_of (cond-false (name_eq name q) _ _ e)

pub noted_other : (write : Bool) (name q : Name) (bytes : List ℕ) (s : Sections) → name_eq name q ≡ false → section_at q (section_begins write name bytes s).sections ≡ section_at q s
unfolding section_begins
noted_other true name q bytes s e = ap section_of (cond-false (name_eq name q) _ _ e)
noted_other false name q bytes s e = read_other name q bytes s (s.records name) e

-- what is left of a section that ends
abbrev pub ended : Section → Section
ended section.Closed = section.Closed
ended (section.Reading count) = one_section_less (section.Reading count)
ended section.Writing = section.Closed

less_of : (r : OpenSection) (s : Section) → (s ≡ section.Writing → ⊥) → section_of (elim s [ section.Closed ↦ None | section.Reading count ↦ Some (record r { section = section.Reading count }) | section.Writing ↦ None ]) ≡ s
less_of r section.Closed h = refl
less_of r (section.Reading count) h = refl
less_of r section.Writing h = absurd (h refl)

less_reading : (count : ℕ) → one_section_less (section.Reading count) ≡ section.Writing → ⊥
less_reading count = cond_both (count == 1) section.Closed (section.Reading (count - 1)) (λ s. s ≡ section.Writing → ⊥) (λ w e. cc) (λ w e. cc)

ended_over : (name : Name) (s : Sections) (r : OpenSection) (k : Section) → r.section ≡ k
    → section_of (elim (one_section_less k) [ section.Closed ↦ None | section.Reading count ↦ Some (record r { section = section.Reading count }) | section.Writing ↦ None ]) ≡ ended k
ended_over name s r section.Closed e = refl
ended_over name s r (section.Reading count) e = less_of r (one_section_less (section.Reading count)) (less_reading count)
ended_over name s r section.Writing e = refl

ends_at : (name : Name) (s : Sections) (o : Option OpenSection) → s.records name ≡ o → section_at name (ends_over name o s) ≡ ended (section_of o)
ends_at name s None e = ap section_of e
ends_at name s (Some r) e = ap section_of (here_at name s.records _) ∙ ended_over name s r r.section refl

pub noted_ended : (name : Name) (s : Sections) → section_at name (section_ends name s) ≡ ended (section_at name s)
unfolding section_ends
noted_ended name s = ends_at name s (s.records name) refl

ends_other : (name q : Name) (s : Sections) (o : Option OpenSection) → name_eq name q ≡ false → section_at q (ends_over name o s) ≡ section_at q s
ends_other name q s None e = refl
ends_other name q s (Some r) e = ap section_of (cond-false (name_eq name q) _ _ e)

pub ended_other : (name q : Name) (s : Sections) → name_eq name q ≡ false → section_at q (section_ends name s) ≡ section_at q s
unfolding section_ends
ended_other name q s e = ends_other name q s (s.records name) e

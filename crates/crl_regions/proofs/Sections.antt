-- What a call about sections does to each region.
use Rattle.std.proofs.Common.{◌≡◌, ℕ, zero, suc, ◌+◌, ◌^◌, ◌<◌, ◌==◌, Bool, true, false, None, Some, List, [], ◌∷◌, if◌then◌else◌, refl, ap, sym, ◌∙◌, subst, arith}
use Rattle.std.proofs.lemmas.Bool.{cond-true, cond-false, eqb-true, eqb-false, ne_eqb}
use Rattle.std.proofs.Math.Logic.{inl, inr}
use Rattle.crl_model.specs.declared.name.Name.{Name}
use Rattle.crl_model.specs.declared.call.Refusal.TheVariants.{TooMany}
use Rattle.crl_model.specs.declared.directory.Section.{Section}
use Rattle.crl_model.specs.declared.directory.Section.TheVariants as section
use Rattle.crl_model.specs.declared.directory.Asked.{Asked}
use Rattle.crl_model.specs.Names.{name_eq}
use Rattle.crl_protocol.specs.Home.{Home, HomeStep, home_starts}
use Rattle.crl_protocol.specs.Remote.{Remote, RemoteStep, remote_starts}
use Rattle.crl_protocol.specs.Node.{Node, Outcome, ForSection, Activity, Free, COUNT_LIMIT, is_mine, home_of, with_home, with_remote, letter_messages, mail_messages}
use Rattle.crl_protocol.specs.Sectioning.{copy_bytes, opens_now, waits}
use Rattle.crl_protocol.specs.Sections.{section_at}
use Rattle.crl_protocol.specs.Verdict.{of_start, of_end, of_open}
use Rattle.crl_deeds.specs.Deeds.{opened_at}
use Rattle.crl_coherence.specs.Region as region
use Rattle.crl_coherence.specs.Region.{Flying, Region, Happens, at_home, at_remote, IsIdle, MayStart}
use Rattle.crl_regions.proofs.Opened.{begun, home_begun, side_begun, noted_begun, noted_other}
use Rattle.crl_regions.proofs.Acts.{expected, Comes, Acts, acts_if, home_is, home_here, home_there, moved_here, moved_there}
use Rattle.crl_deeds.proofs.Laws.{by_name, name_self, home_bytes, queue_of, asking_of, not_mine, starts_fit, remote_start}
use Rattle.crl_deeds.specs.NodeFacts.{NoOwn, QueueFits, AskingFits, IsCached, Fits}
use Rattle.crl_deeds.specs.Counts.{FitsReads}

-- What holds of node i: besides sizes and asks, the sections that it notes are those of its tables, and what it
-- has of regions that aren't mapped is cached.
pub record Local (i : ℕ) (n : Node) : Type 0 where
  pub fits : Fits i n
  pub agrees : (q : Name) → expected (home_of n q) (n.remotes q) ≡ section_at q n.sections
  pub reads : (q : Name) → FitsReads (section_at q n.sections)
  pub cached : (q : Name) (size : ℕ) → IsCached q size n.cache → n.maps q ≡ None
  pub held : (q : Name) (r : Remote) → n.remotes q ≡ Some r → n.maps q ≡ None → (size : ℕ) × IsCached q size n.cache

pub idle_of : (me : ℕ) (queue : List Asked) → NoOwn me queue → IsIdle me queue
idle_of me [] h = tt
idle_of me (ask ∷ queue) h = (eqb-false ask.node me h.0, idle_of me queue h.1)

-- a node that is free has nothing queued and asks for nothing
pub free_idle : (me : ℕ) (q : Name) (h : Home) (a : Activity) → a ≡ Free → QueueFits me q (Some h) a → NoOwn me h.queue
free_idle me q h a free (one, inl none) = none
free_idle me q h a free (one, inr waits) = cc

pub free_asks : (q : Name) (r : Remote) (a : Activity) → a ≡ Free → AskingFits q (Some r) a → r.asking ≡ None
free_asks q r a free (inl none) = none
free_asks q r a free (inr waits) = cc

-- the home of a name of which there is a record elsewhere
pub away : (i : ℕ) (n : Node) (name : Name) (r : Remote) → n.remotes name ≡ Some r → Fits i n → (i == name.home) ≡ false
away i n name r e f =
    let other = not_mine i n name r e f in ne_eqb i name.home (λ w. eqb-false name.home n.me other (sym w ∙ sym f.me))

pub no_table : (i : ℕ) (n : Node) (name : Name) (r : Remote) → n.remotes name ≡ Some r → Fits i n → home_of n name ≡ None
no_table i n name r e f = cond-false (is_mine n name) _ _ (not_mine i n name r e f)

-- the table's own section
pub mine_is : (i : ℕ) (n : Node) (name : Name) (h : Home) → home_of n name ≡ Some h → Local i n → h.mine ≡ section_at name n.sections
mine_is i n name h e l = sym (ap (λ o. expected o (n.remotes name)) e) ∙ l.agrees name

pub here_is : (i : ℕ) (n : Node) (name : Name) (r : Remote) → n.remotes name ≡ Some r → Local i n → r.here ≡ section_at name n.sections
here_is i n name r e l = sym (ap (λ o. expected o (n.remotes name)) (no_table i n name r e l.fits) ∙ ap (λ o. expected None o) e) ∙ l.agrees name

-- An event at the home, and at another node, over the region as it is.
pub home_event : (me k : ℕ) (h : Home) (step : ℕ → Home → HomeStep) (g : Region) (rest : List Flying) (array : List ℕ) → me ≡ k → g.home ≡ h
    → Happens k g (record (at_home (step k g.home) rest g) { array = array }) → Happens k g (record (at_home (step me h) rest g) { array = array })
home_event me k h step g rest array e at_h happens =
    subst (λ x. Happens k g (record (at_home (step me x) rest g) { array = array })) at_h
    (subst (λ x. Happens k g (record (at_home (step x g.home) rest g) { array = array })) (sym e) happens)

pub side_event : (k i : ℕ) (r : Remote) (step : Remote → RemoteStep) (g : Region) (rest : List Flying) (array : List ℕ) → g.remotes i ≡ r
    → Happens k g (record (at_remote i (step (g.remotes i)) rest g) { array = array }) → Happens k g (record (at_remote i (step r) rest g) { array = array })
side_event k i r step g rest array at_i happens = subst (λ x. Happens k g (record (at_remote i (step x) rest g) { array = array })) at_i happens

-- What a verdict that refuses nothing says of the section.
pub may_start : (write : Bool) (s : Section) → FitsReads s → of_start write s ≡ None → MayStart write s
may_start true section.Closed c e = tt
may_start true (section.Reading count) c e = cc
may_start true section.Writing c e = cc
may_start false section.Closed c e = tt
may_start false (section.Reading count) c e = few (count == COUNT_LIMIT) refl e
  where
    few : (b : Bool) → (count == COUNT_LIMIT) ≡ b → (if b then Some TooMany else None) ≡ None → count + 1 < 2 ^ 32
    few true w v = cc
    few false w v = let other = eqb-false count COUNT_LIMIT w in let less = c.1 in omega arith
may_start false section.Writing c e = cc

pub reading_of : (s : Section) → of_end false s ≡ None → (count : ℕ) × (s ≡ section.Reading (count + 1))
reading_of section.Closed e = cc
reading_of (section.Reading zero) e = cc
reading_of (section.Reading (suc count)) e = (count, ap (λ k. section.Reading k) (omega arith))
reading_of section.Writing e = cc

pub writing_of : (s : Section) → of_end true s ≡ None → s ≡ section.Writing
writing_of section.Closed e = cc
writing_of (section.Reading count) e = cc
writing_of section.Writing e = refl

pub closed_of : (s : Section) → of_open s ≡ None → s ≡ section.Closed
closed_of section.Closed e = refl
closed_of (section.Reading count) e = cc
closed_of section.Writing e = cc

-- The start of a section at the home: it opens, or the node waits.
abbrev home_start : Bool → Bool → Name → HomeStep → Node → Outcome
home_start opened write name s n =
    if opened then opens_now (opened_at write name s.home.bytes (with_home name s.home n)) (letter_messages n name s.posts) else waits (with_home name s.home n) (ForSection name) (letter_messages n name s.posts)

pub start_home : (K : Name → ℕ → Type 0) (i : ℕ) (n : Node) (write : Bool) (name : Name) (h : Home) (opened : Bool) → (home_starts n.me write h).opened ≡ opened → home_of n name ≡ Some h → of_start write (section_at name n.sections) ≡ None → n.activity ≡ Free → Local i n
    → (q : Name) → let o = home_start opened write name (home_starts n.me write h) n in Acts K q i None None n o.node o.posts
start_home K i n write name h opened v e starts free l =
    let f = l.fits in
    let may = may_start write (section_at name n.sections) (l.reads name) starts in
    let none = free_idle n.me name h n.activity free (queue_of i n name h e f) in
    let s = home_starts n.me write h in
    let goes = starts_fit n.me write h (home_bytes i n name h e f) none in
    let me : n.me ≡ name.home = eqb-true n.me name.home (home_is n name h e) in
    let mine = mine_is i n name h e l in
    let open_now = home_begun n.me write h none in
    let happens : (g : Region) (rest : List Flying) → g.home ≡ h → Comes None g.flight rest → Happens name.home g (record (at_home s rest g) { array = g.array }) =
    λ g rest at_h comes. home_event n.me name.home h (λ k x. home_starts k write x) g rest g.array me at_h
    (subst (λ x. Happens name.home g (at_home (home_starts name.home write g.home) x g)) (sym comes)
    (region.home_start write (subst (λ x. MayStart write x.mine) (sym at_h) (subst (λ x. MayStart write x) (sym mine) may))
    (subst (λ k. IsIdle k g.home.queue) me (subst (λ (x : Home). IsIdle n.me x.queue) (sym at_h) (idle_of n.me h.queue none))))) in
    let noted = noted_begun write name s.home.bytes n.sections in
    by_name name (λ b q. let o = home_start opened write name s n in Acts K q i None None n o.node o.posts)
    (acts_if K name i None None n opened _ _
    (λ w. home_here K name i None None n _ h s e refl refl goes.size (open_now.0 (v ∙ w) ∙ ap (λ x. begun write x) mine ∙ sym noted) happens)
    (λ w. home_here K name i None None n _ h s e refl refl goes.size (open_now.1 (v ∙ w) ∙ mine) happens))
    (λ q other. acts_if K q i None None n opened _ _
    (λ w. home_there K name q i n _ h s e refl refl (noted_other write name q s.home.bytes n.sections other) other)
    (λ w. home_there K name q i n _ h s e refl refl refl other))

-- and at another node
abbrev side_start : Bool → Bool → Name → RemoteStep → Node → Outcome
side_start opened write name s n =
    if opened then opens_now (opened_at write name (copy_bytes s.remote.copy) (with_remote name (Some s.remote) n)) (mail_messages n name s.posts) else waits (with_remote name (Some s.remote) n) (ForSection name) (mail_messages n name s.posts)

pub start_side : (K : Name → ℕ → Type 0) (i : ℕ) (n : Node) (write : Bool) (name : Name) (r : Remote) (opened : Bool) → (remote_starts write r).opened ≡ opened → n.remotes name ≡ Some r → of_start write (section_at name n.sections) ≡ None → n.activity ≡ Free → Local i n
    → (q : Name) → let o = side_start opened write name (remote_starts write r) n in Acts K q i None None n o.node o.posts
start_side K i n write name r opened v e starts free l =
    let f = l.fits in
    let may = may_start write (section_at name n.sections) (l.reads name) starts in
    let idle = free_asks name r n.activity free (asking_of i n name r e f) in
    let s = remote_starts write r in
    let other_home = away i n name r e f in
    let here = here_is i n name r e l in
    let open_now = side_begun write r in
    let put : (with_remote name (Some s.remote) n).remotes name ≡ Some s.remote = cond-true (name_eq name name) _ _ (name_self name) in
    let happens : (g : Region) (rest : List Flying) → g.remotes i ≡ r → r.size ≡ g.home.size → Comes None g.flight rest → Happens name.home g (record (at_remote i s rest g) { array = g.array }) =
    λ g rest at_i sized comes. side_event name.home i r (λ x. remote_starts write x) g rest g.array at_i
    (subst (λ x. Happens name.home g (at_remote i (remote_starts write (g.remotes i)) x g)) (sym comes)
    (region.start i write (eqb-false i name.home other_home) (subst (λ (x : Remote). MayStart write x.here) (sym at_i) (subst (λ x. MayStart write x) (sym here) may))
    (ap (λ (x : Remote). x.asking) at_i ∙ idle) (ap (λ (x : Remote). x.size) at_i ∙ sized))) in
    let size = (remote_start write r).size in
    let noted = noted_begun write name (copy_bytes s.remote.copy) n.sections in
    by_name name (λ b q. let o = side_start opened write name s n in Acts K q i None None n o.node o.posts)
    (acts_if K name i None None n opened _ _
    (λ w. moved_here K name i None None n _ r s e put refl f.me other_home (open_now.0 (v ∙ w) ∙ ap (λ x. begun write x) here ∙ sym noted) size happens)
    (λ w. moved_here K name i None None n _ r s e put refl f.me other_home (open_now.1 (v ∙ w) ∙ here) size happens))
    (λ q other. acts_if K q i None None n opened _ _
    (λ w. moved_there K name q i n _ s.posts (cond-false (name_eq name q) _ _ other) refl (noted_other write name q (copy_bytes s.remote.copy) n.sections other) other)
    (λ w. moved_there K name q i n _ s.posts (cond-false (name_eq name q) _ _ other) refl refl other))

-- How the sections of a node change where one opens or ends, and why one that opens may open.
use Rattle.std.proofs.Common.{◌≡◌, ℕ, ◌+◌, ◌-◌, ◌≤◌, ◌==◌, ◌&&◌, Bool, true, false, None, Some, Option, List, [], ◌∷◌, if◌then◌else◌, refl, ap, sym, ◌∙◌, subst, arith}
use Rattle.std.proofs.lemmas.Bool.{cond_both, and_parts, eqb-true, eq-eqb}
use Rattle.crl_model.specs.declared.name.Name.{Name}
use Rattle.crl_model.specs.declared.directory.Asked.{Asked}
use Rattle.crl_model.specs.declared.directory.Section.{Section}
use Rattle.crl_model.specs.declared.directory.Section.TheVariants as section
use Rattle.crl_model.specs.declared.entry.What.TheVariants as what
use Rattle.crl_model.specs.declared.message.Granted.{Granted}
use Rattle.crl_model.specs.declared.message.Granted.TheVariants.{Shared, Exclusive, Upgrade}
use Rattle.crl_model.specs.declared.message.Kind.{Kind}
use Rattle.crl_model.specs.Names.{name_eq, at_pair}
use Rattle.crl_machine.specs.SingleMachine.{State, change}
use Rattle.crl_protocol.specs.Places.{at, put}
use Rattle.crl_protocol.specs.Home.{Home, HomeStep, lets_open, is_servable, open_own, grant_next, opens_own_section, posts_first, grant_for, with_marks, recalls_and_yields, serve, home_takes_ask, home_takes_return, home_takes_release, is_to_lower, shared_listing, one_section_more, one_section_less}
use Rattle.crl_protocol.specs.Remote.{Remote, grant_fits, asks_to_write, asks_to_read}
use Rattle.crl_protocol.specs.Sections.{OpenSection, Sections, section_of, section_at, count_of, is_writing, begins_to_read, section_begins, section_ends, ends_over}
use Rattle.crl_protocol.specs.Node.{Node}
use Rattle.crl_deeds.specs.Deeds.{CanStart, CanEnd, Serves, ask_comes, copy_returns, copy_lowers}
use Rattle.crl_deeds.proofs.Laws.{by_name, write_starts_closed, read_starts_below, read_ends_open, write_ends_open}

-- So many sections are open to read, and one is or isn't to write.
pub record SaysSection (reads : ℕ) (writes : Bool) (x : Section) : Type 0 where
  pub reads_are : reads ≡ count_of x
  pub writes_are : writes ≡ is_writing x

abbrev pub SaysSections : (Name → ℕ) → (Name → Bool) → Sections → Type 0
SaysSections reads writes s = (r : Name) → SaysSection (reads r) (writes r) (section_at r s)

-- a section of the other kind doesn't stand in the way
abbrev pub OpensAs : Bool → Section → Type 0
OpensAs true x = x ≡ section.Closed
OpensAs false x = is_writing x ≡ false

pair_own : {X : Type 0} (f : ℕ → Name → X) (n : ℕ) (name : Name) (v : X) (r : Name) → at_pair f n name v n r ≡ (if name_eq name r then v else f n r)
pair_own f n name v r = ap (λ b. if b && name_eq name r then v else f n r) (eq-eqb n n refl)

says_as : (a c : ℕ) (b d : Bool) (x : Section) → a ≡ c → b ≡ d → SaysSection c d x → SaysSection a b x
says_as a c b d x e f h = record { reads_are = e ∙ h.reads_are; writes_are = f ∙ h.writes_are }

-- One opens.
write_opens : (s : State) (me : ℕ) (name : Name) (bytes : List ℕ) (o : Sections) → section_at name o ≡ section.Closed → SaysSections (s.reads me) (s.writes me) o
    → SaysSections ((change s me (what.StartWrite name)).reads me) ((change s me (what.StartWrite name)).writes me) (section_begins true name bytes o).sections
unfolding section_begins
write_opens s me name bytes o closed h r =
    says_as _ _ _ _ _ refl (pair_own s.writes me name true r)
    (by_name name (λ b q. SaysSection (s.reads me q) (if b then true else s.writes me q) (section_of (if b then Some (record { section = section.Writing; number = o.last + 1; bytes = bytes }) else o.records q)))
    (record { reads_are = (h name).reads_are ∙ ap count_of closed; writes_are = refl }) (λ q apart. h q) r)

more_reads : (s : Section) → is_writing s ≡ false → (count_of (one_section_more s) ≡ count_of s + 1) × (is_writing (one_section_more s) ≡ false)
more_reads section.Closed e = (refl, refl)
more_reads (section.Reading count) e = (refl, refl)
more_reads section.Writing e = cc

read_begins : (s : State) (me : ℕ) (name : Name) (bytes : List ℕ) (o : Sections) (k : Option OpenSection) → o.records name ≡ k → is_writing (section_at name o) ≡ false → SaysSections (s.reads me) (s.writes me) o
    → SaysSections ((change s me (what.StartRead name)).reads me) ((change s me (what.StartRead name)).writes me) (begins_to_read name k bytes o).sections
read_begins s me name bytes o None e apart h r =
    let x = ap section_of e in
    says_as _ _ _ _ _ (pair_own s.reads me name (s.reads me name + 1) r) refl
    (by_name name (λ b q. SaysSection (if b then s.reads me name + 1 else s.reads me q) (s.writes me q) (section_of (if b then Some (record { section = section.Reading 1; number = o.last + 1; bytes = bytes }) else o.records q)))
    (record { reads_are = ap (λ y. y + 1) ((h name).reads_are ∙ ap count_of x); writes_are = (h name).writes_are ∙ apart }) (λ q other. h q) r)
read_begins s me name bytes o (Some k) e apart h r =
    let x = ap section_of e in
    let more = more_reads k.section (sym (ap is_writing x) ∙ apart) in
    says_as _ _ _ _ _ (pair_own s.reads me name (s.reads me name + 1) r) refl
    (by_name name (λ b q. SaysSection (if b then s.reads me name + 1 else s.reads me q) (s.writes me q) (section_of (if b then Some (record k { section = one_section_more k.section }) else o.records q)))
    (record { reads_are = ap (λ y. y + 1) ((h name).reads_are ∙ ap count_of x) ∙ sym more.0; writes_are = (h name).writes_are ∙ apart ∙ sym more.1 }) (λ q other. h q) r)

pub section_opens : (s : State) (me : ℕ) (write : Bool) (name : Name) (bytes : List ℕ) (o : Sections) → OpensAs write (section_at name o) → SaysSections (s.reads me) (s.writes me) o
    → SaysSections ((change s me (if write then what.StartWrite name else what.StartRead name)).reads me) ((change s me (if write then what.StartWrite name else what.StartRead name)).writes me) (section_begins write name bytes o).sections
unfolding section_begins
section_opens s me true name bytes o may h = write_opens s me name bytes o may h
section_opens s me false name bytes o may h = read_begins s me name bytes o (o.records name) refl may h

-- One ends.
abbrev less : OpenSection → Section → Option OpenSection
less r s = elim s [ section.Closed ↦ None | section.Reading count ↦ Some (record r { section = section.Reading count }) | section.Writing ↦ None ]

less_reads : (r : OpenSection) (x : Section) → 1 ≤ count_of x → (count_of (section_of (less r (one_section_less x))) ≡ count_of x - 1) × (is_writing (section_of (less r (one_section_less x))) ≡ is_writing x)
less_reads r section.Closed some = absurd (omega arith)
less_reads r (section.Reading count) some =
    cond_both (count == 1) _ _ (λ y. (count_of (section_of (less r y)) ≡ count - 1) × (is_writing (section_of (less r y)) ≡ false))
    (λ w. let same = eqb-true count 1 w in (omega arith, refl)) (λ w. (refl, refl))
less_reads r section.Writing some = absurd (omega arith)

read_ends_over : (s : State) (me : ℕ) (name : Name) (bytes : List ℕ) (o : Sections) (k : Option OpenSection) → o.records name ≡ k → 1 ≤ count_of (section_at name o) → SaysSections (s.reads me) (s.writes me) o
    → SaysSections ((change s me (what.Read name bytes)).reads me) ((change s me (what.Read name bytes)).writes me) (ends_over name k o)
read_ends_over s me name bytes o None e some h r = let x = ap (λ y. count_of (section_of y)) e in absurd (omega arith)
read_ends_over s me name bytes o (Some k) e some h r =
    let x = ap section_of e in
    let fewer = less_reads k k.section (subst (λ y. 1 ≤ count_of y) x some) in
    says_as _ _ _ _ _ (pair_own s.reads me name (s.reads me name - 1) r) refl
    (by_name name (λ b q. SaysSection (if b then s.reads me name - 1 else s.reads me q) (s.writes me q) (section_of (if b then less k (one_section_less k.section) else o.records q)))
    (record { reads_are = ap (λ y. y - 1) ((h name).reads_are ∙ ap count_of x) ∙ sym fewer.0; writes_are = (h name).writes_are ∙ ap is_writing x ∙ sym fewer.1 }) (λ q other. h q) r)

write_ends_over : (s : State) (me : ℕ) (name : Name) (bytes after : List ℕ) (o : Sections) (k : Option OpenSection) → o.records name ≡ k → section_at name o ≡ section.Writing → SaysSections (s.reads me) (s.writes me) o
    → SaysSections ((change s me (what.Write name bytes after)).reads me) ((change s me (what.Write name bytes after)).writes me) (ends_over name k o)
write_ends_over s me name bytes after o None e writes h r = let x = ap section_of e in cc
write_ends_over s me name bytes after o (Some k) e writes h r =
    let x : k.section ≡ section.Writing = sym (ap section_of e) ∙ writes in
    says_as _ _ _ _ _ refl (pair_own s.writes me name false r)
    (by_name name (λ b q. SaysSection (s.reads me q) (if b then false else s.writes me q) (section_of (if b then less k (one_section_less k.section) else o.records q)))
    (subst (λ y. SaysSection (s.reads me name) false (section_of (less k (one_section_less y)))) (sym x) (record { reads_are = (h name).reads_are ∙ ap count_of writes; writes_are = refl })) (λ q other. h q) r)

pub read_closes : (s : State) (n : Node) (name : Name) (bytes : List ℕ) → CanEnd n false name → SaysSections (s.reads n.me) (s.writes n.me) n.sections
    → SaysSections ((change s n.me (what.Read name bytes)).reads n.me) ((change s n.me (what.Read name bytes)).writes n.me) (section_ends name n.sections)
unfolding section_ends
read_closes s n name bytes can h = read_ends_over s n.me name bytes n.sections (n.sections.records name) refl (read_ends_open n name can) h

pub write_closes : (s : State) (n : Node) (name : Name) (bytes after : List ℕ) → CanEnd n true name → SaysSections (s.reads n.me) (s.writes n.me) n.sections
    → SaysSections ((change s n.me (what.Write name bytes after)).reads n.me) ((change s n.me (what.Write name bytes after)).writes n.me) (section_ends name n.sections)
unfolding section_ends
write_closes s n name bytes after can h = write_ends_over s n.me name bytes after n.sections (n.sections.records name) refl (write_ends_open n name can) h

-- A section that a call starts may open.
pub start_may : (n : Node) (write : Bool) (name : Name) → CanStart n write name → OpensAs write (section_at name n.sections)
start_may n true name can = write_starts_closed n name can
start_may n false name can = (read_starts_below n name can).0

-- One of the home's own that Serve opens to write finds no other of the home's.
lets_write : (x : Section) → lets_open x true ≡ true → x ≡ section.Closed
lets_write section.Closed e = refl
lets_write (section.Reading count) e = cc
lets_write section.Writing e = cc

-- Serve, by whether the oldest ask is servable and the home's own
abbrev served_as : ℕ → Home → Asked → List Asked → Bool → Bool → HomeStep
served_as me h ask queue servable own =
    if servable
    then (if own then opens_own_section (serve me (open_own h ask) queue) else posts_first (grant_for h ask) (serve me (grant_next h ask) queue))
    else record { home = record h { listed = with_marks 0 h.listed ask; queue = ask ∷ queue }; posts = recalls_and_yields 0 h.listed ask; opened = false }

serve_same : (me : ℕ) (h : Home) (queue : List Asked) → (serve me h queue).opened ≡ false → (serve me h queue).home.mine ≡ h.mine
serve_same me h [] e = refl
serve_same me h (ask ∷ queue) e = go (is_servable h ask) (ask.node == me) (λ g x. serve_same me g queue x) e
  where
    go : (b c : Bool) → ((g : Home) → (serve me g queue).opened ≡ false → (serve me g queue).home.mine ≡ g.mine) → (served_as me h ask queue b c).opened ≡ false → (served_as me h ask queue b c).home.mine ≡ h.mine
    go true true rest e = cc
    go true false rest e = rest (grant_next h ask) e
    go false c rest e = refl

serve_writes : (me : ℕ) (h : Home) (queue : List Asked) → (serve me h queue).opened ≡ true → is_writing (serve me h queue).home.mine ≡ true → h.mine ≡ section.Closed
serve_writes me h [] e w = cc
serve_writes me h (ask ∷ queue) e w = go (is_servable h ask) (ask.node == me) refl (λ g x y. serve_writes me g queue x y) e w
  where
    reads : (s : HomeStep) (b : Bool) → s.opened ≡ b → (s.opened ≡ true → section.Reading 1 ≡ section.Closed) → (s.opened ≡ false → s.home.mine ≡ section.Reading 1) → is_writing s.home.mine ≡ true → h.mine ≡ section.Closed
    reads s true e one two w = let x = one e in cc
    reads s false e one two w = let x = ap is_writing (two e) in cc

    own : (b : Bool) → ask.write ≡ b → lets_open h.mine b ≡ true → ((g : Home) → (serve me g queue).opened ≡ true → is_writing (serve me g queue).home.mine ≡ true → g.mine ≡ section.Closed)
        → is_writing (serve me (record h { mine = if b then section.Writing else section.Reading 1 }) queue).home.mine ≡ true → h.mine ≡ section.Closed
    own true f may rest w = lets_write h.mine may
    own false f may rest w = let g : Home = record h { mine = section.Reading 1 } in reads (serve me g queue) (serve me g queue).opened refl (λ x. rest g x w) (λ x. serve_same me g queue x) w

    go : (b c : Bool) → is_servable h ask ≡ b → ((g : Home) → (serve me g queue).opened ≡ true → is_writing (serve me g queue).home.mine ≡ true → g.mine ≡ section.Closed) → (served_as me h ask queue b c).opened ≡ true → is_writing (served_as me h ask queue b c).home.mine ≡ true → h.mine ≡ section.Closed
    go true true f rest e w = own ask.write refl (and_parts _ _ f).0 rest w
    go true false f rest e w = rest (grant_next h ask) e w
    go false c f rest e w = cc

lowers_writes : (me n version : ℕ) (bytes : List ℕ) (h : Home) → (home_takes_release me n version bytes h).opened ≡ true → is_writing (home_takes_release me n version bytes h).home.mine ≡ true → h.mine ≡ section.Closed
unfolding home_takes_release
lowers_writes me n version bytes h = go (is_to_lower version (at n h.listed))
  where
    lowered : Bool → HomeStep
    lowered b = if b then serve me (record h { bytes = bytes; listed = put n (Some (shared_listing version)) h.listed }) h.queue else record { home = h; posts = []; opened = false }

    go : (b : Bool) → (lowered b).opened ≡ true → is_writing (lowered b).home.mine ≡ true → h.mine ≡ section.Closed
    go true e w = serve_writes me _ h.queue e w
    go false e w = cc

pub serves_write : (n : Node) (h : Home) (from : ℕ) (k : Kind) (name : Name) (s : HomeStep) → Serves n h from k name s → s.opened ≡ true → is_writing s.home.mine ≡ true → h.mine ≡ section.Closed
unfolding home_takes_ask home_takes_return
serves_write n h from k name s (ask_comes y q write have e) x w = serve_writes n.me h _ x w
serves_write n h from k name s (copy_returns y q version bytes e) x w = serve_writes n.me _ h.queue x w
serves_write n h from k name s (copy_lowers y q version bytes e) x w = lowers_writes n.me from version bytes h x w

-- One that a grant opens.
asked : (o : Option Bool) (g : Granted) (r : Remote) → r.asking ≡ o → grant_fits g r ≡ true → (write : Bool) × (r.asking ≡ Some write)
asked (Some write) g r e f = (write, e)
asked None (Shared bytes) r e f = let a = ap asks_to_read e in let b = and_parts (asks_to_read r.asking) _ f in cc
asked None (Exclusive bytes) r e f = let a = ap asks_to_write e in let b = and_parts (asks_to_write r.asking) _ f in cc
asked None Upgrade r e f = let a = ap asks_to_write e in let b = and_parts (asks_to_write r.asking) _ f in cc

pub grant_asked : (g : Granted) (r : Remote) → grant_fits g r ≡ true → (write : Bool) × (r.asking ≡ Some write)
grant_asked g r f = asked r.asking g r refl f

pub closed_may : (write : Bool) (x : Section) → x ≡ section.Closed → OpensAs write x
closed_may true x e = e
closed_may false x e = ap is_writing e

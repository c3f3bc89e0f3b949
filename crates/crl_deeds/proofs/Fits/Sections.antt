-- What holds of a node stays so where a region is made, and where a section opens or ends.
use Rattle.std.proofs.Common.{◌≡◌, ℕ, ◌+◌, Bool, true, false, None, Some, Option, List, [], ◌∷◌, ◌++◌, length, if◌then◌else◌, refl, sym, subst}
use Rattle.std.proofs.lemmas.Bool.{eq-eqb}
use Rattle.std.proofs.lemmas.List.{length-replicate}
use Rattle.std.proofs.Math.Logic.{inl}
use Rattle.crl_model.specs.declared.name.Name.{Name}
use Rattle.crl_model.specs.declared.stage.Stage.TheVariants as stage
use Rattle.crl_model.specs.declared.directory.Section.{Section}
use Rattle.crl_model.specs.declared.directory.Section.TheVariants as section
use Rattle.crl_model.specs.Names.{at_node, at_name}
use Rattle.crl_protocol.specs.Home.{Home, new_home, one_section_less, one_section_more}
use Rattle.crl_protocol.specs.Remote.{is_closed}
use Rattle.crl_protocol.specs.Lifetimes.{Mapping, Lifetime, new_lifetime}
use Rattle.crl_protocol.specs.Sections.{OpenSection, Sections, begins_to_read, section_begins, section_ends, ends_over}
use Rattle.crl_protocol.specs.Node.{Node, Free, is_mine, home_of, lifetime_of, next_name, serials_used, section_opens}
use Rattle.crl_protocol.specs.Sectioning.{closes}
use Rattle.crl_deeds.specs.NodeFacts.{free, Seen, seen, RecordFits, MappedHere, OwnFits, Holds, Fits}
use Rattle.crl_deeds.proofs.Fits.Names.{by_name}
use Rattle.crl_deeds.proofs.Fits.TableRows.{lifetime_put, home_end, home_next}

-- A region is made.
unmapped : (m : Option Mapping) (h : Home) → MappedHere m None → MappedHere m (Some h)
unmapped None h w = tt
unmapped (Some m) h w = absurd w

own_made : (b : Bool) (v : Seen) (nodes size : ℕ) → b ≡ true → v.home ≡ None → OwnFits b v → OwnFits b (record v { home = Some (new_home nodes size); stage = stage.Live })
own_made true v nodes size e none own = record {
  live = tt;
  bytes = length-replicate size 0;
  mapped = unmapped v.mapping (new_home nodes size) (subst (λ x. MappedHere v.mapping x) none own.mapped);
  nothing = own.nothing;
}
own_made false v nodes size e none own = cc

abbrev pub made : ℕ → Node → Node
made size n = record n { homes = n.homes ++ Some (new_home n.nodes size) ∷ []; lifetimes = at_node n.lifetimes (serials_used n + 1) new_lifetime }

pub fits_made : (i size : ℕ) (n : Node) → Fits i n → Fits i (made size n)
fits_made i size n f = record {
  me = f.me;
  each = λ q. subst (λ x. Holds n.me q n.activity (record (seen (made size n) q) { home = x })) (sym (home_end n (made size n) (new_home n.nodes size) refl refl q))
      (subst (λ (x : Lifetime). Holds n.me q n.activity (record (seen (made size n) q) { home = at_name (home_of n) (next_name n) (Some (new_home n.nodes size)) q; stage = x.stage }))
      (sym (lifetime_put n (next_name n) new_lifetime (eq-eqb n.me n.me refl) q))
      (by_name (next_name n) (λ b p. Holds n.me p n.activity
      (record (seen n p) { home = if b then Some (new_home n.nodes size) else home_of n p; stage = (if b then new_lifetime else lifetime_of n p).stage })) (at_it (f.each (next_name n)))
      (λ p w. f.each p) q));
  cache = f.cache;
  fresh = f.fresh;
  inbox = f.inbox;
  outbox = f.outbox;
}
  where
    at_it : Holds n.me (next_name n) n.activity (seen n (next_name n))
        → Holds n.me (next_name n) n.activity (record (seen n (next_name n)) { home = Some (new_home n.nodes size); stage = stage.Live })
    at_it x = record {
      sections = x.sections;
      own = own_made (is_mine n (next_name n)) (seen n (next_name n)) n.nodes size (eq-eqb n.me n.me refl) (home_next n) x.own;
      queue = (tt, inl tt);
      asking = x.asking;
      going = tt;
      waiting = x.waiting;
    }

-- what a node has of a name but for its sections
pub own_opened : (b : Bool) (v : Seen) (o : Option OpenSection) → OwnFits b v → OwnFits b (record v { opened = o })
own_opened true v o own = record { live = own.live; bytes = own.bytes; mapped = own.mapped; nothing = own.nothing }
own_opened false v o own = record { bytes = own.bytes; mapped = own.mapped; nothing = own.nothing; unknown = own.unknown }

-- A section ends.
abbrev less : OpenSection → Section → Option OpenSection
less r s = elim s [ section.Closed ↦ None | section.Reading count ↦ Some (record r { section = section.Reading count }) | section.Writing ↦ None ]

less_record : (r : OpenSection) (s : Section) (m : Option Mapping) → RecordFits (Some r) m → RecordFits (less r s) m
less_record r section.Closed m f = tt
less_record r (section.Reading count) None f = f
less_record r (section.Reading count) (Some m) f = (f.0, refl)
less_record r section.Writing m f = tt

fits_less : (i : ℕ) (n : Node) (name : Name) (o : Option OpenSection) → n.sections.records name ≡ o → Fits i n
    → Fits i (record n { sections = ends_over name o n.sections })
fits_less i n name None e f = f
fits_less i n name (Some r) e f = record {
  me = f.me;
  each = by_name name (λ b p. Holds n.me p n.activity (record (seen n p) { opened = if b then less r (one_section_less r.section) else n.sections.records p })) (at_it (f.each name)) (λ p w. f.each p);
  cache = f.cache;
  fresh = f.fresh;
  inbox = f.inbox;
  outbox = f.outbox;
}
  where
    at_it : Holds n.me name n.activity (seen n name) → Holds n.me name n.activity (record (seen n name) { opened = less r (one_section_less r.section) })
    at_it x = record {
      sections = less_record r (one_section_less r.section) (n.maps name) (subst (λ y. RecordFits y (n.maps name)) e x.sections);
      own = own_opened (is_mine n name) _ _ x.own;
      queue = x.queue;
      asking = x.asking;
      going = x.going;
      waiting = x.waiting;
    }

pub fits_close : (i : ℕ) (n : Node) (name : Name) → Fits i n → Fits i (closes name n)
unfolding section_ends
fits_close i n name f = fits_less i n name (n.sections.records name) refl f

-- A section opens.
abbrev anew : Section → List ℕ → Sections → OpenSection
anew s bytes all = record { section = s; number = all.last + 1; bytes = bytes }

anew_record : (s : Section) (bytes : List ℕ) (all : Sections) (o : Option Mapping) (m : Mapping) → o ≡ Some m → length bytes ≡ m.size
    → is_closed s ≡ false → RecordFits (Some (anew s bytes all)) o
anew_record s bytes all o m e size h = subst (λ x. RecordFits (Some (anew s bytes all)) x) (sym e) (size, h)

more_record : (r : OpenSection) (s : Section) (m : Option Mapping) → RecordFits (Some r) m → is_closed (one_section_more s) ≡ false → RecordFits (Some (record r { section = one_section_more s })) m
more_record r s None f h = f
more_record r s (Some m) f h = (f.0, h)

more_open : (s : Section) → is_closed (one_section_more s) ≡ false
more_open section.Closed = refl
more_open (section.Reading count) = refl
more_open section.Writing = refl

fits_read : (i : ℕ) (n : Node) (name : Name) (bytes : List ℕ) (m : Mapping) (o : Option OpenSection) → n.sections.records name ≡ o
    → n.maps name ≡ Some m → length bytes ≡ m.size
    → Fits i (free n) → Fits i (free (record n { sections = (begins_to_read name o bytes n.sections).sections }))
fits_read i n name bytes m None e mapped size f = record {
  me = f.me;
  each = by_name name (λ b p. Holds n.me p Free (record (seen (free n) p) { opened = if b then Some (anew (section.Reading 1) bytes n.sections) else n.sections.records p }))
      (at_it (f.each name)) (λ p w. f.each p);
  cache = f.cache;
  fresh = f.fresh;
  inbox = f.inbox;
  outbox = f.outbox;
}
  where
    at_it : Holds n.me name Free (seen (free n) name) → Holds n.me name Free (record (seen (free n) name) { opened = Some (anew (section.Reading 1) bytes n.sections) })
    at_it x = record {
      sections = anew_record (section.Reading 1) bytes n.sections (n.maps name) m mapped size refl;
      own = own_opened (is_mine n name) _ _ x.own;
      queue = x.queue;
      asking = x.asking;
      going = x.going;
      waiting = x.waiting;
    }
fits_read i n name bytes m (Some r) e mapped size f = record {
  me = f.me;
  each = by_name name (λ b p. Holds n.me p Free (record (seen (free n) p) { opened = if b then Some (record r { section = one_section_more r.section }) else n.sections.records p }))
      (at_it (f.each name)) (λ p w. f.each p);
  cache = f.cache;
  fresh = f.fresh;
  inbox = f.inbox;
  outbox = f.outbox;
}
  where
    at_it : Holds n.me name Free (seen (free n) name) → Holds n.me name Free (record (seen (free n) name) { opened = Some (record r { section = one_section_more r.section }) })
    at_it x = record {
      sections = more_record r r.section (n.maps name) (subst (λ y. RecordFits y (n.maps name)) e x.sections) (more_open r.section);
      own = own_opened (is_mine n name) _ _ x.own;
      queue = x.queue;
      asking = x.asking;
      going = x.going;
      waiting = x.waiting;
    }

fits_write : (i : ℕ) (n : Node) (name : Name) (bytes : List ℕ) (m : Mapping) → n.maps name ≡ Some m → length bytes ≡ m.size
    → Fits i (free n)
    → Fits i (free (record n { sections = record { records = at_name n.sections.records name (Some (anew section.Writing bytes n.sections)); last = n.sections.last + 1 } }))
fits_write i n name bytes m mapped size f = record {
  me = f.me;
  each = by_name name (λ b p. Holds n.me p Free (record (seen (free n) p) { opened = if b then Some (anew section.Writing bytes n.sections) else n.sections.records p })) (at_it (f.each name)) (λ p w. f.each p);
  cache = f.cache;
  fresh = f.fresh;
  inbox = f.inbox;
  outbox = f.outbox;
}
  where
    at_it : Holds n.me name Free (seen (free n) name)
        → Holds n.me name Free (record (seen (free n) name) { opened = Some (anew section.Writing bytes n.sections) })
    at_it x = record {
      sections = anew_record section.Writing bytes n.sections (n.maps name) m mapped size refl;
      own = own_opened (is_mine n name) _ _ x.own;
      queue = x.queue;
      asking = x.asking;
      going = x.going;
      waiting = x.waiting;
    }

pub fits_open : (i : ℕ) (n : Node) (write : Bool) (name : Name) (bytes : List ℕ) (m : Mapping) → n.maps name ≡ Some m → length bytes ≡ m.size
    → Fits i (free n) → Fits i (free (section_opens write name bytes n).node)
unfolding section_opens section_begins
fits_open i n true name bytes m mapped size f = fits_write i n name bytes m mapped size f
fits_open i n false name bytes m mapped size f = fits_read i n name bytes m (n.sections.records name) refl mapped size f

-- What there is at the home of a region before and after its step.
use Rattle.std.proofs.Common.{◌≡◌, refl, sym, ap, ℕ, ◌+◌, ◌<◌, ◌≤◌, ◌^◌, length, Bool, true, false, arith, if◌then◌else◌, ◌∙◌}
use Rattle.std.specs.Prelude.{IsSome}
use Rattle.std.specs.declared.option.Option.{Option}
use Rattle.std.specs.declared.option.Option.TheVariants.{Some, None}
use Rattle.crl_model.specs.declared.name.Name.{Name}
use Rattle.crl_model.specs.declared.directory.Section.TheVariants.{Closed}
use Rattle.crl_pieces.specs.Pieces.{count}
use Rattle.crl_protocol.specs.Home.{Home}
use Rattle.crl_protocol.specs.Sections.{section_at}
use Rattle.crl_protocol.specs.Handlers.{is_queued, is_queued_in}
use Rattle.crl_protocol.specs.Node.{Node, is_mine, home_of, at_serial}
use Rattle.crl_home.specs.HomesState.{HomesState, table_or, table_at, with_table, owed_in, size_or_none}
use Rattle.crl_home.specs.Debts.{ask_debt}
use Rattle.crl_home.proofs.Laws.{table_is_put}
use Rattle.crl_outbox.specs.MailboxState.{MailboxState}
use Rattle.crl_safety.specs.Safety.{IsSafe}
use Rattle.crl_desk.specs.declared.desk.Desk.{Desk}
use Rattle.crl_desk.specs.declared.kit.SectionKit.{SectionKit}
use Rattle.crl_desk.specs.Desks.{HasRoom, region_size, size_or}
use Rattle.crl_desk.specs.Kits.{HasPapers}
use Rattle.crl_copying.specs.Serving.{AreFor}
use Rattle.crl_copying.proofs.Queues.{not_queued}

of_mine : (b : Bool) (o : Option Home) (h : Home) → (if b then o else None) ≡ Some h → b ≡ true
of_mine true o h e = refl
of_mine false o h e = cc

of_there : (b : Bool) (o : Option Home) (h : Home) → (if b then o else None) ≡ Some h → o ≡ Some h
of_there true o h e = e
of_there false o h e = cc

pub home_is_mine : (n : Node) (name : Name) (h : Home) → home_of n name ≡ Some h → is_mine n name ≡ true
home_is_mine n name h e = of_mine (is_mine n name) (at_serial name.serial n.homes) h e

pub home_is_there : (n : Node) (name : Name) (h : Home) → home_of n name ≡ Some h → at_serial name.serial n.homes ≡ Some h
home_is_there n name h e = of_there (is_mine n name) (at_serial name.serial n.homes) h e

pub home_is_table : (n : Node) (name : Name) (h : Home) → home_of n name ≡ Some h → table_at name n.homes ≡ h
home_is_table n name h e = ap table_or (home_is_there n name h e)

some_is_some : (o : Option Home) (h : Home) → o ≡ Some h → IsSome o
some_is_some None h e = cc
some_is_some (Some g) h e = grind arith

pub home_is_some : (n : Node) (name : Name) (h : Home) → home_of n name ≡ Some h → IsSome (at_serial name.serial n.homes)
home_is_some n name h e = some_is_some (at_serial name.serial n.homes) h (home_is_there n name h e)

pub home_has_size : (n : Node) (name : Name) (h : Home) → home_of n name ≡ Some h → region_size name n ≡ h.size
home_has_size n name h e = rw (home_is_mine n name h e) (ap (λ o. size_or (size_or_none o)) (home_is_there n name h e))

-- the table stands where it was put
pub put_there : (name : Name) (t : Home) (old new : HomesState) → IsSome (at_serial name.serial old.homes) → new ≡ with_table name t old → at_serial name.serial new.homes ≡ Some t
put_there name t old new there new_is = rw new_is (table_is_put name t old there)

pub put_table : (name : Name) (t : Home) (old new : HomesState) → IsSome (at_serial name.serial old.homes) → new ≡ with_table name t old → table_at name new.homes ≡ t
put_table name t old new there new_is = ap table_or (put_there name t old new there new_is)

pub put_some : (name : Name) (t : Home) (old new : HomesState) → IsSome (at_serial name.serial old.homes) → new ≡ with_table name t old → IsSome (at_serial name.serial new.homes)
put_some name t old new there new_is = some_is_some (at_serial name.serial new.homes) t (put_there name t old new there new_is)

-- room for a section of the home's own that opens
pub room_after : (d : Desk) (name : Name) (t : Home) (new : HomesState) (out : MailboxState) (pieces : ℕ)
    → HasRoom pieces 2 2 d → new ≡ with_table name t d.homes → length new.homes ≡ length d.homes.homes
    → length out.list + out.room ≡ length d.outbox.list + d.outbox.room
    → owed_in new.homes + length out.list ≤ owed_in d.homes.homes + pieces + length d.outbox.list
    → HasRoom 0 2 2 (record d { homes = new; outbox = out })
room_after d name t new out pieces room new_is same_serials places owes = record {
  parts = record {
    few = room.parts.few;
    below = room.parts.below;
    home = ap (λ (s : HomesState). s.me) new_is ∙ room.parts.home;
    home_nodes = ap (λ (s : HomesState). s.nodes) new_is ∙ room.parts.home_nodes;
    remote = room.parts.remote;
    stage_nodes = room.parts.stage_nodes;
    round_nodes = room.parts.round_nodes;
    serials = room.parts.serials ∙ sym same_serials;
  };
  for_pieces = omega (arith, room.for_pieces);
  for_records = room.for_records;
  for_notes = room.for_notes;
}

-- the paper is enough for the home's bytes, as before
pub papers_after : (size : ℕ) (name : Name) (t : Home) (old new : HomesState) (kit : SectionKit)
    → HasPapers size kit → IsSome (at_serial name.serial old.homes) → new ≡ with_table name t old → t.size ≡ size
    → AreFor (table_at name new.homes).size (record { guard = kit.guard; began = kit.began; end = kit.end })
papers_after size name t old new kit papers there new_is same_size =
    let size_is : (table_at name new.homes).size ≡ size = ap (λ (h : Home). h.size) (put_table name t old new there new_is) ∙ same_size in
    rw size_is (record { guard = papers.guard; began = papers.began; end = papers.end })

-- no section of the home's own is open if its ask is queued
pub closed_if_queued : (n : Node) (name : Name) (h table : Home) (me : ℕ) → IsSafe n → home_of n name ≡ Some h → me ≡ n.me → table ≡ h
    → is_queued me table.queue ≡ true → section_at name n.sections ≡ Closed
closed_if_queued n name h table me safe there is_me table_is queued =
    let at_home = safe.home name h there in
    at_home.sections ∙ at_home.own_ask (rw (is_me, table_is) at queued)

pub versions_fit : (n : Node) (name : Name) (h : Home) → IsSafe n → home_of n name ≡ Some h
    → (table_at name n.homes).last + length (table_at name n.homes).queue + 1 < 2 ^ 64
versions_fit n name h safe there = rw (home_is_table n name h there) ((safe.home name h there).versions)

pub finds_place : (n : Node) (name : Name) (h : Home) (from nodes : ℕ) → IsSafe n → home_of n name ≡ Some h → nodes ≡ n.nodes → from < n.nodes → is_queued_in from n.homes ≡ false
    → length (table_at name n.homes).queue < nodes
finds_place n name h from nodes safe there nodes_are below none =
    rw nodes_are (rw (home_is_table n name h there) ((safe.home name h there).room from below (not_queued from name.serial n.homes h (home_is_there n name h there) none)))

pub table_has_size : (n : Node) (name : Name) (h : Home) → home_of n name ≡ Some h → (table_at name n.homes).size ≡ region_size name n
table_has_size n name h there = ap (λ (t : Home). t.size) (home_is_table n name h there) ∙ sym (home_has_size n name h there)

-- what an ask may post
pub ask_debt_of : (table size : ℕ) → table ≡ size → ask_debt table ≡ count size + 2
unfolding ask_debt
ask_debt_of table size e = ap (λ s. count s + 2) e

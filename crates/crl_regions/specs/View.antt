-- What a region looks like in a world of all nodes.
use Rattle.std.specs.Prelude.{ℕ, ◌==◌, Bool, true, if◌then◌else◌, List, [], ◌∷◌, replicate}
use Rattle.std.specs.declared.option.Option.{Option}
use Rattle.std.specs.declared.option.Option.TheVariants.{None, Some}
use Rattle.crl_model.specs.declared.name.Name.{Name}
use Rattle.crl_model.specs.declared.call.Call.{Call}
use Rattle.crl_model.specs.declared.call.Call.TheVariants as call
use Rattle.crl_model.specs.declared.call.Refusal.{Refusal}
use Rattle.crl_model.specs.declared.event.Event.{Event}
use Rattle.crl_model.specs.declared.event.Event.TheVariants as event
use Rattle.crl_model.specs.declared.message.Message.{Message}
use Rattle.crl_model.specs.declared.message.Kind.{Kind}
use Rattle.crl_model.specs.declared.message.Kind.TheVariants as kind
use Rattle.crl_model.specs.Names.{name_eq}
use Rattle.crl_flight.specs.Flight.{Under, IsFlight}
use Rattle.crl_protocol.specs.Places.{find_all}
use Rattle.crl_protocol.specs.Mail.{Mail, Ask, Grant, Recall, Yield, Return, Release}
use Rattle.crl_protocol.specs.Home.{Home, new_home, bytes_after}
use Rattle.crl_protocol.specs.Remote.{Remote, new_remote}
use Rattle.crl_protocol.specs.Node.{Node, next_name, home_of}
use Rattle.crl_protocol.specs.Verdict.{verdict}
use Rattle.crl_protocol.specs.World.{World, new_world, pieces_in_boxes, step}
use Rattle.crl_coherence.specs.Region.{Flying, Region}

-- the mail of a message that is about this region's copies
abbrev pub if_about : Bool → Mail → Option Mail
if_about about mail = if about then Some mail else None

abbrev pub mail_in : Name → Kind → Option Mail
mail_in q (kind.Ask name write have) = if_about (name_eq name q) (Ask write have)
mail_in q (kind.Grant name version granted) = if_about (name_eq name q) (Grant version granted)
mail_in q (kind.Recall name version) = if_about (name_eq name q) (Recall version)
mail_in q (kind.Yield name version) = if_about (name_eq name q) (Yield version)
mail_in q (kind.Return name version bytes) = if_about (name_eq name q) (Return version bytes)
mail_in q (kind.Release name version bytes) = if_about (name_eq name q) (Release version bytes)
mail_in q _ = None

-- such a message with its node other than the home
abbrev pub other_end : Name → Message → ℕ
other_end q m = if m.sender == q.home then m.addressee else m.sender

abbrev pub flown : ℕ → Option Mail → Option Flying
flown n None = None
flown n (Some mail) = Some (record { node = n; mail = mail })

abbrev pub flying : Name → Message → Option Flying
flying q m = flown (other_end q m) (mail_in q m.kind)

-- a node's side of the region: a blank record where it doesn't have the region
abbrev pub side : ℕ → Option Remote → Remote
side size None = new_remote size
side size (Some r) = r

-- These messages are under way in a world, with their pieces that came: each piece of each of them is in a box, or is
-- gathered at its addressee, once, and nothing else is there.
abbrev pub UnderWay : World → List Under → Type 0
UnderWay w us = IsFlight us (pieces_in_boxes w) (λ i. (w.nodes i).parcels)

-- the region with this record at its home, among all nodes with these messages under way
abbrev pub sight : Name → Home → (ℕ → Node) → List Message → List ℕ → Region
sight q h nodes messages array = record {
  home = h;
  remotes = λ n. side h.size ((nodes n).remotes q);
  flight = find_all (flying q) messages;
  array = array;
}

-- the region is there: its home has a record of it
abbrev pub table_of : Name → World → Option Home
table_of q w = home_of (w.nodes q.home) q

abbrev pub tables_of : World → Name → Option Home
tables_of w name = table_of name w

abbrev pub table_or_blank : Option Home → Home
table_or_blank None = new_home 0 0
table_or_blank (Some h) = h

-- A region that is there, as a world has it while these messages are under way, and its bytes in the single machine's array.
abbrev pub view : Name → List ℕ → List Message → World → Region
view q array messages w = sight q (table_or_blank (table_of q w)) w.nodes messages array

-- The bytes that an event leaves of the region in the array: zeros where it is created, and those of a write
-- section of it that ends.
abbrev pub left_if : Bool → Option Refusal → List ℕ → Option (List ℕ)
left_if true None bytes = Some bytes
left_if _ _ bytes = None

abbrev pub left_in : Name → Node → Option Refusal → Call → Option (List ℕ)
left_in q n o (call.Create size) = left_if (name_eq (next_name n) q) o (replicate size 0)
left_in q n o (call.EndWrite name bytes) = left_if (name_eq name q) o bytes
left_in q n o _ = None

abbrev pub left_by : Name → Event → World → Option (List ℕ)
left_by q (event.Call i c) w = left_in q (w.nodes i) (verdict (w.nodes i) c) c
left_by q _ w = None

abbrev pub array_after : Name → Event → World → List ℕ → List ℕ
array_after q e w array = bytes_after (left_by q e w) array

-- the bytes of the region in the array after these events, where it has these before them
abbrev pub array_from : Name → World → List Event → List ℕ → List ℕ
array_from q w [] array = array
array_from q w (e ∷ es) array = array_from q (step e w).world es (array_after q e w array)

-- and after a run from its start
abbrev pub array_of : Name → ℕ → ℕ → List Event → List ℕ
array_of q count capacity run = array_from q (new_world count capacity) run []

-- The serial of the name of a piece in a box: it is real, and where calls are typed it fits its field.
use Rattle.std.proofs.Common.{◌≡◌, ◌≢◌, ℕ, ◌≤◌, ◌<◌, ◌^◌, ◌==◌, true, false, Some, List, [], ◌∷◌, sym, ◌∙◌, subst, arith}
use Rattle.std.proofs.lemmas.Bool.{ne_eqb}
use Rattle.crl_model.specs.declared.name.Name.{Name}
use Rattle.crl_model.specs.declared.stage.Stage.TheVariants as stage
use Rattle.crl_model.specs.declared.call.Call.{Call}
use Rattle.crl_model.specs.declared.call.Call.TheVariants as call
use Rattle.crl_model.specs.declared.event.Event.{Event}
use Rattle.crl_model.specs.declared.event.Event.TheVariants as event
use Rattle.std.specs.List.{AllByRecursion}
use Rattle.crl_model.specs.declared.message.Kind.{Kind}
use Rattle.crl_model.specs.declared.message.Kind.TheVariants as kind
use Rattle.crl_protocol.specs.Parcels.{Piece}
use Rattle.crl_protocol.specs.Home.{Home}
use Rattle.crl_protocol.specs.Node.{Activity, Waiting, ForMap, ForDelete, COUNT_LIMIT}
use Rattle.crl_protocol.specs.World.{World, world_of, pieces_in_boxes, IsRun}
use Rattle.crl_deeds.proofs.Laws.{same_name}
use Rattle.crl_lifetime.specs.Lifetime.{home_lifetime, waits_for_map, waits_for_delete, HomeAgrees, TalkFits, MessageFits}
use Rattle.crl_lifetime.proofs.Laws.{homes_in_runs}
use Rattle.crl_regions.specs.Addresses.{GoesToOther}
use Rattle.crl_regions.specs.MailFits.{FitsTables}
use Rattle.crl_regions.specs.View.{table_of, tables_of}
use Rattle.crl_regions.proofs.Laws.{pieces_to_others}
use Rattle.crl_sound.proofs.Laws.{numbers_known}
use Rattle.crl_framed.specs.Framed.{InEachBox, InBoxesOfTypedRuns, IsTypedCall, AreTyped, IsSerial, OfSerial, SerialFits, SerialIsReal}
use Rattle.crl_framed.proofs.Ends.{MailOf, mail_boxed, talk_boxed, both}
use Rattle.crl_framed.proofs.Homes.{ranges_in_runs}
use Rattle.crl_framed.proofs.Typed.{CallHas, CallsHave, WaitsTyped, waits_typed}

-- What is known of a world.
record Serials (Holds : ℕ → Type 0) (w : World) : Type 0 where
  tables : (q : Name) (h : Home) → table_of q w ≡ Some h → Holds q.serial
  homes : (q : Name) → HomeAgrees q w
  waits : (i : ℕ) → WaitsTyped Holds i (w.nodes i).activity

module _ (Said Holds : ℕ → Type 0) (made : (serial : ℕ) → 1 ≤ serial → Said serial → Holds serial) (few : (serial : ℕ) → 1 ≤ serial → serial ≤ COUNT_LIMIT → Holds serial) where
  map_serial : (me : ℕ) (name : Name) (a : Activity) → waits_for_map name a ≡ true → WaitsTyped Holds me a → Holds name.serial
  map_serial me name (Waiting (ForMap q purged)) e w = subst (λ (x : Name). Holds x.serial) (same_name q name e) w
  map_serial me name _ e w = absurd (cc)

  delete_serial : (me : ℕ) (name : Name) (a : Activity) → (name.home == me) ≡ false → waits_for_delete name a ≡ true → WaitsTyped Holds me a → Holds name.serial
  delete_serial me name (Waiting (ForDelete q)) away e w =
      let same = same_name q name e in subst (λ (x : Name). (x.home == me) ≡ false → Holds x.serial) same w away
  delete_serial me name _ away e w = absurd (cc)

  missing_serial : (w : World) (k : Serials Holds w) (name : Name) (n : ℕ) → (home_lifetime name w).missing n ≡ true → Holds name.serial
  missing_serial w k name n m =
      let agrees = k.homes name in
      let going = agrees.missing n m in
      let t = agrees.table (λ none. (let both_stages : stage.Going going.0 ≡ stage.Unknown = sym going.1 ∙ none in cc)) in k.tables name t.0 t.1

  serial_of_kind : (w : World) (k : Serials Holds w) (from to : ℕ) (m : Kind) → from ≢ to → FitsTables (tables_of w) from to m → TalkFits w from to m → OfSerial Holds m
  serial_of_kind w k from to (kind.InfoAsk name) other t f = map_serial from name (w.nodes from).activity f.1 (k.waits from)
  serial_of_kind w k from to (kind.InfoIs name told) other t f = subst (WaitsTyped Holds to) f.2 (k.waits to)
  serial_of_kind w k from to (kind.Ask name write have) other t f = k.tables name t.2.0 t.2.1
  serial_of_kind w k from to (kind.Grant name version granted) other t f = k.tables name t.2.0 t.2.1
  serial_of_kind w k from to (kind.Recall name version) other t f = k.tables name t.2.0 t.2.1
  serial_of_kind w k from to (kind.Yield name version) other t f = k.tables name t.2.0 t.2.1
  serial_of_kind w k from to (kind.Return name version bytes) other t f = k.tables name t.2.0 t.2.1
  serial_of_kind w k from to (kind.Release name version bytes) other t f = k.tables name t.2.0 t.2.1
  serial_of_kind w k from to (kind.DeleteAsk name) other t f = delete_serial from name (w.nodes from).activity (ne_eqb name.home from (λ same. other (sym same ∙ sym f.0))) f.1 (k.waits from)
  serial_of_kind w k from to (kind.DeleteIs name told) other t f = let x = subst (WaitsTyped Holds to) f.1 (k.waits to) in x (ne_eqb name.home to (λ same. other (f.0 ∙ same)))
  serial_of_kind w k from to (kind.Purge name) other t f = missing_serial w k name to f.2
  serial_of_kind w k from to (kind.Purged name) other t f = missing_serial w k name from f.1
  serial_of_kind w k from to (kind.Come round part) other t f = tt
  serial_of_kind w k from to (kind.Result round fold) other t f = tt

  known : (count capacity : ℕ) (run : List Event) → IsRun count capacity run → CallsHave Said run → Serials Holds (world_of count capacity run)
  known count capacity run r t =
      let w = world_of count capacity run in record {
        tables = λ q h e. (let x = (ranges_in_runs count capacity run r.enabled q.home).0 q h e in few q.serial x.first x.few);
        homes = λ q. homes_in_runs count capacity run q r.enabled;
        waits = λ i. subst (λ me. WaitsTyped Holds me (w.nodes i).activity) (numbers_known count capacity run r.enabled i).0 (waits_typed Said Holds made count capacity run t i);
      }

  serials_hold : (count capacity : ℕ) (run : List Event) → IsRun count capacity run → CallsHave Said run → AllByRecursion (λ (p : Piece). OfSerial Holds p.message.kind) (pieces_in_boxes (world_of count capacity run))
  serials_hold count capacity run r t =
      let w = world_of count capacity run in
      let k = known count capacity run r t in
      both (λ (p : Piece). MailOf (tables_of w) p.message × MessageFits w p.message) (λ (p : Piece). GoesToOther w.count p.message) (λ (p : Piece). OfSerial Holds p.message.kind)
      (λ p x g. serial_of_kind w k p.message.sender p.message.addressee p.message.kind g.other x.0 x.1) (pieces_in_boxes w)
      (both (λ (p : Piece). MailOf (tables_of w) p.message) (λ (p : Piece). MessageFits w p.message) (λ (p : Piece). MailOf (tables_of w) p.message × MessageFits w p.message) (λ p a b. (a, b)) (pieces_in_boxes w)
      (mail_boxed count capacity run r.enabled) (talk_boxed count capacity run r.enabled)) (pieces_to_others count capacity run r.enabled)

-- Typed calls have serials of 32 bits, and all calls have some.
abbrev IsShort : ℕ → Type 0
IsShort serial = serial < 2 ^ 32

abbrev IsAny : ℕ → Type 0
IsAny serial = Unit {0}

short_call : (c : Call) → IsTypedCall c → CallHas IsShort c
short_call (call.Map name) t = t
short_call (call.Delete name) t = t
short_call _ t = tt

short_calls : (run : List Event) → AreTyped run → CallsHave IsShort run
short_calls [] t = tt
short_calls (event.Call i c ∷ es) t = (short_call c t.0, short_calls es t.1)
short_calls (event.Collect i ∷ es) t = short_calls es t
short_calls (event.Handle i place ∷ es) t = short_calls es t
short_calls (event.Carry i place ∷ es) t = short_calls es t

any_call : (c : Call) → CallHas IsAny c
any_call (call.Map name) = tt
any_call _ = tt

any_calls : (run : List Event) → CallsHave IsAny run
any_calls [] = tt
any_calls (event.Call i c ∷ es) = (any_call c, any_calls es)
any_calls (event.Collect i ∷ es) = any_calls es
any_calls (event.Handle i place ∷ es) = any_calls es
any_calls (event.Carry i place ∷ es) = any_calls es

within : (serial : ℕ) → 1 ≤ serial → serial ≤ COUNT_LIMIT → IsSerial serial
within serial first few = (first, omega arith)

pub serials_fit : InBoxesOfTypedRuns SerialFits
serials_fit count capacity run r t = serials_hold IsShort IsSerial (λ serial first short. (first, short)) within count capacity run r (short_calls run t)

pub serials_real : InEachBox SerialIsReal
serials_real count capacity run r = serials_hold IsAny (λ serial. 1 ≤ serial) (λ serial first any. first) (λ serial first few. first) count capacity run r (any_calls run)

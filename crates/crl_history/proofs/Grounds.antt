-- What is known of a world and of the machine that mirrors it, and of each of its nodes by itself.
use Rattle.std.proofs.Common.{◌≡◌, ℕ, ◌+◌, ◌<◌, ◌≤◌, ◌==◌, ◌&&◌, ◌||◌, Bool, true, false, not, nat_lt, None, Some, List, [], ◌∷◌, length, refl, ap, sym, ◌∙◌, subst, arith}
use Rattle.std.proofs.Math.Logic.{◌⊎◌, inl, inr}
use Rattle.std.proofs.lemmas.Bool.{eqb-true, eq-eqb, and_from, ltb-true, ltb-false}
use Rattle.crl_model.specs.declared.name.Name.{Name}
use Rattle.crl_model.specs.declared.stage.Stage.{Stage}
use Rattle.crl_model.specs.declared.stage.Stage.TheVariants as stage
use Rattle.crl_model.specs.declared.message.Kind.{Kind}
use Rattle.crl_model.specs.declared.message.Kind.TheVariants as kind
use Rattle.crl_model.specs.Names.{name_eq}
use Rattle.crl_model.specs.Stages.{is_there, is_deleted}
use Rattle.crl_machine.specs.SingleMachine.{State, IsFree}
use Rattle.crl_protocol.specs.Home.{Home}
use Rattle.crl_protocol.specs.Lifetimes.{Mapping}
use Rattle.crl_protocol.specs.Parcels.{Piece, with_load}
use Rattle.crl_protocol.specs.Places.{Took}
use Rattle.crl_protocol.specs.Places as took
use Rattle.crl_protocol.specs.Sections.{section_at, count_of, is_writing}
use Rattle.crl_protocol.specs.Node.{serials_used, Activity, Free, Waiting, Ready, ForSection, ForMap, ForDelete, ForRound, COUNT_LIMIT, is_mine, home_of, lifetime_of, map_count}
use Rattle.crl_protocol.specs.World.{World, pieces_in_boxes}
use Rattle.crl_deeds.specs.Counts.{Known, Plain, PlainKind, GoingFew}
use Rattle.crl_deeds.specs.Turns.{HeldIn}
use Rattle.crl_deeds.proofs.Laws.{all_took, name_self, same_name}
use Rattle.crl_lifetime.specs.Lifetime.{home_stage, TableHasSize, is_about_map, is_about_delete, is_live_with, tells_live, any_size, one_if, how_many, under_way, waits_for_map, waits_for_delete, is_deleting, has_sound, has_doomed, WaitsHaveOne, OwnAgrees, NodeAgrees, TalkFits, MessageFits}
use Rattle.crl_regions.specs.View.{table_of, table_or_blank}
use Rattle.crl_rounds.specs.Standing.{round_awaited, current_round, StandsIn}
use Rattle.crl_history.specs.Mirrors.{Mirrors}
use Rattle.crl_history.specs.Legal.{is_engaged}
use Rattle.crl_history.proofs.Events.{AllAgree}
use Rattle.crl_history.proofs.Maps.{inbox_took}
use Rattle.crl_history.proofs.Knows.{own_home}
use Rattle.crl_history.proofs.Seen.{Sees, Asks, HeardFits}

pub record Ground (w : World) (s : State) : Type 0 where
  pub known : Known w
  pub agree : AllAgree w
  pub mirrors : Mirrors w s
  pub used : (i : ℕ) → i < w.count → s.used i ≤ COUNT_LIMIT
  pub nowhere : (q : Name) → (w.count ≤ q.home) ⊎ (q.serial ≡ 0) → home_stage q w ≡ stage.Unknown
  pub waits : (i : ℕ) (q : Name) → i < w.count → WaitsHaveOne i q w
  pub own : (q : Name) → q.home < w.count → OwnAgrees q w
  pub other : (i : ℕ) (q : Name) → i < w.count → (q.home == i) ≡ false → NodeAgrees q i w
  pub messages : (p : Piece) (rest : List Piece) → Took p (pieces_in_boxes w) rest → MessageFits w p.message

pub stage_is : (w : World) (s : State) (q : Name) → Ground w s → s.stage q ≡ home_stage q w
stage_is w s q g = go (nat_lt q.home w.count) refl
  where
    go : (b : Bool) → nat_lt q.home w.count ≡ b → s.stage q ≡ home_stage q w
    go true e = g.mirrors.stage q (ltb-true _ _ e)
    go false e = let far = ltb-false _ _ e in g.mirrors.elsewhere q far ∙ sym (g.nowhere q (inl far))

-- A node that waits in no round, and for no delete.
round_none : (a : Activity) → is_engaged a ≡ false → round_awaited a ≡ None
round_none Free e = refl
round_none (Ready answer) e = refl
round_none (Waiting (ForSection q)) e = refl
round_none (Waiting (ForMap q purged)) e = refl
round_none (Waiting (ForDelete q)) e = cc
round_none (Waiting (ForRound k c)) e = cc

delete_none : (q : Name) (a : Activity) → is_engaged a ≡ false → waits_for_delete q a ≡ false
delete_none q Free e = refl
delete_none q (Ready answer) e = refl
delete_none q (Waiting (ForSection p)) e = refl
delete_none q (Waiting (ForMap p purged)) e = refl
delete_none q (Waiting (ForDelete p)) e = cc
delete_none q (Waiting (ForRound k c)) e = cc

none_if : (b : Bool) → one_if b ≡ 0 → b ≡ false
none_if true e = absurd (omega arith)
none_if false e = refl

going_own : (i : ℕ) (x : Stage) → x ≡ stage.Going i → is_deleting i x ≡ true
going_own i x e = ap (λ y. is_deleting i y) e ∙ eq-eqb i i refl

free_unless : (w : World) (s : State) (i : ℕ) → Ground w s → i < w.count → round_awaited (w.nodes i).activity ≡ None → ((q : Name) → is_deleting i (home_stage q w) ≡ false) → IsFree s i
free_unless w s i g few round none =
    let stands = g.mirrors.rounds.stands i few in
    let between = subst (λ c. StandsIn (current_round w) s i (w.nodes i).rounds c) round stands.call in
    let came = stands.came in
    let told = between.told in
    (omega arith, λ q e. (let a = going_own i _ (sym (stage_is w s q g) ∙ e) in let b = none q in cc))

deletes_none : (w : World) (s : State) (i : ℕ) (q : Name) → Ground w s → i < w.count → waits_for_delete q (w.nodes i).activity ≡ false → is_deleting i (home_stage q w) ≡ false
deletes_none w s i q g few e =
    let one = (g.waits i q few).delete in
    let none = ap one_if e in
    none_if _ (omega arith)

pub engaged_waits : (w : World) (s : State) (i : ℕ) → Ground w s → i < w.count → is_engaged (w.nodes i).activity ≡ false → IsFree s i
engaged_waits w s i g few e = free_unless w s i g few (round_none _ e) (λ q. deletes_none w s i q g few (delete_none q _ e))

-- Messages of maps and deletes under way.
how_took : (test : ℕ → ℕ → Kind → Bool) {p : Piece} {ps rest : List Piece} → Took p ps rest → how_many test ps ≡ one_if (test p.message.sender p.message.addressee p.message.kind) + how_many test rest
how_took test took.here = refl
how_took test (took.there {y = y} t) = let h = how_took test t in omega arith

fewer_kind : (i : ℕ) (q : Name) (from to : ℕ) (k : Kind) → one_if (tells_live any_size i q from to k) ≤ one_if (is_about_map i q from to k)
fewer_kind i q from to (kind.InfoIs name t) = go (to == i) (name_eq name q) (is_live_with any_size t)
  where
    go : (a b c : Bool) → one_if (a && (b && c)) ≤ one_if (a && b)
    go true true true = omega arith
    go true true false = omega arith
    go true false c = omega arith
    go false b c = omega arith
fewer_kind i q from to (kind.InfoAsk name) = omega arith
fewer_kind i q from to _ = omega arith

pub fewer_tell : (i : ℕ) (q : Name) (ps : List Piece) → how_many (tells_live any_size i q) ps ≤ how_many (is_about_map i q) ps
fewer_tell i q [] = omega arith
fewer_tell i q (p ∷ ps) = let a = fewer_kind i q p.message.sender p.message.addressee p.message.kind in let b = fewer_tell i q ps in omega arith

none_told : (w : World) (s : State) (i : ℕ) (q : Name) → Ground w s → i < w.count → waits_for_map q (w.nodes i).activity ≡ false → under_way (tells_live any_size i q) w ≡ 0
none_told w s i q g few e =
    let one = (g.waits i q few).map in
    let none = ap one_if e in
    let fewer = fewer_tell i q (pieces_in_boxes w) in
    omega arith

maps_are : (w : World) (s : State) (i : ℕ) (q : Name) → Ground w s → i < w.count → waits_for_map q (w.nodes i).activity ≡ false → s.maps i q ≡ map_count ((w.nodes i).maps q)
maps_are w s i q g few e = let a = g.mirrors.maps i q few in let b = none_told w s i q g few e in omega arith

-- Sizes are those of the array.
table_size : (w : World) (s : State) (q : Name) (h : Home) → Mirrors w s → table_of q w ≡ Some h → h.size ≡ length (s.bytes q)
table_size w s q h m e = let x = m.bytes.1.coherent q h e in sym (x.loose.size ∙ ap (λ o. (table_or_blank o).size) e)

sized : (w : World) (s : State) (q : Name) (size : ℕ) → Mirrors w s → TableHasSize q size w → size ≡ length (s.bytes q)
sized w s q size m t = sym t.2 ∙ table_size w s q t.0 m t.1

-- Each node by itself.
there_known : (x : Stage) → (x ≡ stage.Unknown → ⊥) → (x ≡ stage.Gone → ⊥) → is_there x ≡ true
there_known stage.Unknown a b = absurd (a refl)
there_known stage.Live a b = refl
there_known (stage.Going deleter) a b = refl
there_known stage.Gone a b = absurd (b refl)

unreal_is : (home count serial : ℕ) → (nat_lt home count && not (serial == 0)) ≡ false → (count ≤ home) ⊎ (serial ≡ 0)
unreal_is home count serial e = go (nat_lt home count) (serial == 0) refl refl e
  where
    go : (a b : Bool) → nat_lt home count ≡ a → (serial == 0) ≡ b → (a && not b) ≡ false → (count ≤ home) ⊎ (serial ≡ 0)
    go true true x y z = inr (eqb-true serial 0 y)
    go true false x y z = cc
    go false b x y z = inl (ltb-false _ _ x)

or_right : (a b : Bool) → b ≡ true → (a || b) ≡ true
or_right true b e = refl
or_right false b e = e

mapped_sized : (w : World) (s : State) (i : ℕ) (q : Name) (x : Mapping) → Ground w s → i < w.count → (w.nodes i).maps q ≡ Some x → x.size ≡ length (s.bytes q)
mapped_sized w s i q x g few e = go (q.home == i) refl
  where
    go : (b : Bool) → (q.home == i) ≡ b → x.size ≡ length (s.bytes q)
    go true at_i = let same = eqb-true q.home i at_i in sized w s q x.size g.mirrors ((g.own q (subst (λ k. k < w.count) (sym same) few)).mapped x (ap (λ k. (w.nodes k).maps q) same ∙ e)).2
    go false apart = sized w s q x.size g.mirrors ((g.other i q few apart).size_mapped x e)

pub sees : (w : World) (s : State) (i : ℕ) → Ground w s → i < w.count → Sees s (w.nodes i)
sees w s i g few =
    let n = w.nodes i in
    let me = (g.known.fits i).me in
    let counted = (g.known.held i).node in
    let m = g.mirrors in
    let at_me : (P : ℕ → Type 0) → P i → P n.me = λ P x. subst P (sym me) x in
    let apart : (q : Name) → is_mine n q ≡ false → (q.home == i) ≡ false = λ q e. ap (λ k. q.home == k) (sym me) ∙ e in
    let home : (q : Name) → is_mine n q ≡ true → q.home ≡ i = λ q e. eqb-true q.home n.me e ∙ me in
    record {
      few = at_me (λ k. k < s.nodes) (subst (λ c. i < c) (sym m.nodes) few);
      free = λ e. at_me (λ k. IsFree s k) (engaged_waits w s i g few e);
      used = record { is = at_me (λ k. s.used k ≡ serials_used n) (m.used i few); most = at_me (λ k. s.used k ≤ COUNT_LIMIT) (g.used i few) };
      came = at_me (λ k. length (s.came k) ≡ n.rounds) (m.rounds.stands i few).came;
      stages = λ q e. stage_is w s q g ∙ ap (λ k. (lifetime_of (w.nodes k) q).stage) (home q e);
      unreal = λ q e real. stage_is w s q g ∙ g.nowhere q (unreal_is q.home w.count q.serial (subst (λ c. (nat_lt q.home c && not (q.serial == 0)) ≡ false) counted.few real));
      sound = λ q e has. (let x = g.other i q few (apart q e) in
          ap is_there (stage_is w s q g) ∙ there_known _ (x.created (or_right (has_doomed q n) (has_sound q n) has)) (λ gone. (let none = x.gone gone in cc)));
      doomed = λ q e has. ap is_deleted (stage_is w s q g) ∙ (g.other i q few (apart q e)).doomed has;
      table = λ q h e. table_size w s q h m (ap (λ k. home_of (w.nodes k) q) (own_home i n q h me e) ∙ e);
      mapped = λ q x e. mapped_sized w s i q x g few e;
      cached = λ q size e c. sized w s q size m ((g.other i q few (apart q e)).size_cached size c);
      deleters = λ q. subst (λ c. GoingFew c (lifetime_of n q).stage) (sym m.nodes) (counted.deleters q);
      maps = λ q e. at_me (λ k. s.maps k q ≡ map_count (n.maps q)) (maps_are w s i q g few e);
      counts = counted.maps;
      sections = λ q. record { reads_are = at_me (λ k. s.reads k q ≡ count_of (section_at q n.sections)) (m.reads i q few); writes_are = at_me (λ k. s.writes k q ≡ is_writing (section_at q n.sections)) (m.writes i q few) };
      shown = λ q r e. m.bytes.1.records i q r e;
    }

-- A message that comes.
asks_free : (w : World) (s : State) (from me : ℕ) (q : Name) → Ground w s → from < w.count → me ≡ q.home → IsFree s from → Asks s from me q
asks_free w s from me q g few home free = record { few = subst (λ c. from < c) (sym g.mirrors.nodes) few; free = free; home = sym home }

map_waits : (q : Name) (a : Activity) → waits_for_map q a ≡ true → is_engaged a ≡ false
map_waits q (Waiting (ForMap p purged)) e = refl
map_waits q (Waiting (ForSection p)) e = cc
map_waits q (Waiting (ForDelete p)) e = cc
map_waits q (Waiting (ForRound k c)) e = cc
map_waits q Free e = cc
map_waits q (Ready answer) e = cc

delete_waits : (q : Name) (a : Activity) → waits_for_delete q a ≡ true → (p : Name) × (a ≡ Waiting (ForDelete p)) × (name_eq p q ≡ true)
delete_waits q (Waiting (ForDelete p)) e = (p, refl, e)
delete_waits q (Waiting (ForSection p)) e = cc
delete_waits q (Waiting (ForMap p purged)) e = cc
delete_waits q (Waiting (ForRound k c)) e = cc
delete_waits q Free e = cc
delete_waits q (Ready answer) e = cc

-- the ask of a map is about it and tells nothing
info_heard : (w : World) (s : State) (me : ℕ) (p : Piece) (rest : List Piece) (q : Name) → p.message.kind ≡ kind.InfoAsk q → Took p (pieces_in_boxes w) rest → Ground w s → Plain w.count p.message → me ≡ q.home → waits_for_map q (w.nodes p.message.sender).activity ≡ true
    → Asks s p.message.sender me q × (s.maps p.message.sender q ≡ 0)
info_heard w s me p rest q e took g plain home waits =
    let from = p.message.sender in
    let few = plain.0 in
    let ask = subst (λ k. PlainKind w.count from p.message.addressee k) e plain.1 in
    let one = (g.waits from q few).map in
    let wanted = ap one_if waits in
    let about = how_took (is_about_map from q) took in
    let is_ask = ap (λ k. one_if (is_about_map from q from p.message.addressee k)) e ∙ ap one_if (and_from (from == from) (name_eq q q) (eq-eqb from from refl) (name_self q)) in
    let told = how_took (tells_live any_size from q) took in
    let no_tell = ap (λ k. one_if (tells_live any_size from q from p.message.addressee k)) e in
    let fewer = fewer_tell from q rest in
    let maps = g.mirrors.maps from q few in
    let none = ap map_count ((g.other from q few ask.0).waits waits).0 in
    (asks_free w s from me q g few home (engaged_waits w s from g few (map_waits q _ waits)), omega arith)

-- so is the ask of a delete, and the home doesn't delete for its node meanwhile
delete_free : (w : World) (s : State) (p : Piece) (rest : List Piece) (q : Name) → p.message.kind ≡ kind.DeleteAsk q → Took p (pieces_in_boxes w) rest → Ground w s → p.message.sender < w.count → waits_for_delete q (w.nodes p.message.sender).activity ≡ true → IsFree s p.message.sender
delete_free w s p rest q e took g few waits = free_unless w s from g few (ap round_awaited waiting.1) none
  where
    from : ℕ
    from = p.message.sender

    waiting : (r : Name) × ((w.nodes from).activity ≡ Waiting (ForDelete r)) × (name_eq r q ≡ true)
    waiting = delete_waits q (w.nodes from).activity waits

    same : waiting.0 ≡ q
    same = same_name waiting.0 q waiting.2

    own : is_deleting from (home_stage q w) ≡ false
    own =
        let one = (g.waits from q few).delete in
        let wanted = ap one_if waits in
        let about = how_took (is_about_delete from q) took in
        let is_ask = ap (λ k. one_if (is_about_delete from q from p.message.addressee k)) e ∙ ap one_if (and_from (from == from) (name_eq q q) (eq-eqb from from refl) (name_self q)) in
        none_if _ (omega arith)

    go : (r : Name) (b : Bool) → name_eq waiting.0 r ≡ b → is_deleting from (home_stage r w) ≡ false
    go r true n = subst (λ x. is_deleting from (home_stage x w) ≡ false) (sym same ∙ same_name waiting.0 r n) own
    go r false n = deletes_none w s from r g few (ap (λ a. waits_for_delete r a) waiting.1 ∙ n)

    none : (r : Name) → is_deleting from (home_stage r w) ≡ false
    none r = go r (name_eq waiting.0 r) refl

heard_as : (w : World) (s : State) (me : ℕ) (p : Piece) (rest : List Piece) (k : Kind) → p.message.kind ≡ k → Took p (pieces_in_boxes w) rest → Ground w s → Plain w.count p.message → TalkFits w p.message.sender me k → (part : List ℕ) → HeardFits s p.message.sender me (with_load part k)
heard_as w s me p rest (kind.InfoAsk q) e took g plain talk part = info_heard w s me p rest q e took g plain talk.0 talk.1
heard_as w s me p rest (kind.DeleteAsk q) e took g plain talk part = asks_free w s p.message.sender me q g plain.0 talk.0 (delete_free w s p rest q e took g plain.0 talk.1)
heard_as w s me p rest _ e took g plain talk part = tt

-- a piece in an inbox is of a message that fits
pub heard : (w : World) (s : State) (i : ℕ) (p : Piece) (rest : List Piece) (part : List ℕ) → Ground w s → i < w.count → Took p (w.nodes i).inbox rest → HeardFits s p.message.sender i (with_load part p.message.kind)
heard w s i p rest part g few took =
    let boxes = inbox_took w i p rest few took in
    let held = (all_took (HeldIn (Plain w.count) i) took (g.known.held i).inbox).0 in
    heard_as w s i p boxes.0 p.message.kind refl boxes.1 g held.0 (subst (λ x. TalkFits w p.message.sender x p.message.kind) held.1 (g.messages p boxes.0 boxes.1)) part

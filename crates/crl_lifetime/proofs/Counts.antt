-- What is counted in numbers, in the words of the laws.
use Rattle.std.proofs.Common.{◌≡◌, ℕ, zero, suc, ◌+◌, ◌≤◌, ◌==◌, Bool, true, false, ◌&&◌, ◌||◌, None, Some, Option, List, [], ◌∷◌, ◌++◌, length, if◌then◌else◌, refl, ap, sym, ◌∙◌, arith}
use Rattle.std.specs.List.{AllByRecursion}
use Rattle.crl_model.specs.declared.name.Name.{Name}
use Rattle.crl_model.specs.declared.stage.Stage.{Stage}
use Rattle.crl_model.specs.declared.stage.Stage.TheVariants as stage
use Rattle.crl_model.specs.declared.message.Told.{Told}
use Rattle.crl_model.specs.declared.message.Told.TheVariants as told
use Rattle.crl_model.specs.declared.message.Message.{Message}
use Rattle.crl_model.specs.declared.message.Kind.{Kind}
use Rattle.crl_model.specs.declared.message.Kind.TheVariants as kind
use Rattle.crl_model.specs.Names.{name_eq}
use Rattle.crl_model.specs.Stages.{is_deleted}
use Rattle.crl_protocol.specs.Parcels.{Piece}
use Rattle.crl_protocol.specs.Places.{Took}
use Rattle.crl_protocol.specs.Lifetimes.{Mapping, Cached, cached_size, members_from}
use Rattle.crl_protocol.specs.Node.{Node, ForMap, ForDelete, Activity, Waiting}
use Rattle.crl_protocol.specs.World.{World, boxes_from, pieces_in_boxes}
use Rattle.crl_deeds.specs.Tokens.{weighs, on_piece, map_token, waits_map, delete_token, waits_delete, deletes_for_node}
use Rattle.crl_deeds.specs.Turns.{Held, HeldIn, HeldOut}
use Rattle.crl_deeds.proofs.Laws.{same_name, all_append, weigh_took, boxed_sum}
use Rattle.crl_lifetime.specs.Lifetime.{is_about_map, is_about_delete, is_live_with, tells_live, is_purge_order, is_purge_answer, one_if, how_many, under_way, waits_for_map, waits_for_delete, waits_purged, is_deleting, is_sound, is_doomed, is_some_size, has_sound}
use Rattle.crl_lifetime.proofs.Weights.{told_weight, live_weight, order_weight, answer_weight, under}
use Rattle.crl_lifetime.proofs.Storing.{one, stored_weight, sound_map, doomed_map, sound_entries, marked_maps, made_of, going_of, deleted_of, none_stored}
use Rattle.crl_lifetime.proofs.Lived.{Lived, Spoken}

pub true_of : (b : Bool) → 1 ≤ one_if b → b ≡ true
true_of true h = refl
true_of false h = absurd (omega arith)

pub false_of : (b : Bool) → one_if b ≡ 0 → b ≡ false
false_of true h = absurd (omega arith)
false_of false h = refl

-- Messages.
pub many_is : (f : Message → ℕ) (test : ℕ → ℕ → Kind → Bool) → ((m : Message) → f m ≡ one_if (test m.sender m.addressee m.kind)) → (ps : List Piece) → weighs f ps ≡ how_many test ps
many_is f test h [] = refl
many_is f test h (p ∷ ps) = let a = h p.message in let b = many_is f test h ps in omega arith

pub under_is : (f : Message → ℕ) (test : ℕ → ℕ → Kind → Bool) → ((m : Message) → f m ≡ one_if (test m.sender m.addressee m.kind)) → (w : World) → under f w ≡ under_way test w
under_is f test h w = sym (boxed_sum f w) ∙ many_is f test h (pieces_in_boxes w)

two_tests : (b c : Bool) → (if b then (if c then 1 else 0) else 0) ≡ one_if (b && c)
two_tests true c = refl
two_tests false c = refl

three_tests : (b c d : Bool) → (if b then (if c then one_if d else 0) else 0) ≡ one_if (b && (c && d))
three_tests true true d = refl
three_tests true false d = refl
three_tests false c d = refl

map_kind : (n : ℕ) (r : Name) (x : Message) (k : Kind) → map_token n r (record x { kind = k }) ≡ one_if (is_about_map n r x.sender x.addressee k)
map_kind n r x (kind.InfoAsk name) = two_tests (x.sender == n) (name_eq name r)
map_kind n r x (kind.InfoIs name t) = two_tests (x.addressee == n) (name_eq name r)
map_kind n r x _ = refl

delete_kind : (n : ℕ) (r : Name) (x : Message) (k : Kind) → delete_token n r (record x { kind = k }) ≡ one_if (is_about_delete n r x.sender x.addressee k)
delete_kind n r x (kind.DeleteAsk name) = two_tests (x.sender == n) (name_eq name r)
delete_kind n r x (kind.DeleteIs name t) = two_tests (x.addressee == n) (name_eq name r)
delete_kind n r x _ = refl

order_kind_is : (n : ℕ) (r : Name) (x : Message) (k : Kind) → order_weight n r (record x { kind = k }) ≡ one_if (is_purge_order n r x.sender x.addressee k)
order_kind_is n r x (kind.Purge name) = two_tests (x.addressee == n) (name_eq name r)
order_kind_is n r x _ = refl

answer_kind_is : (n : ℕ) (r : Name) (x : Message) (k : Kind) → answer_weight n r (record x { kind = k }) ≡ one_if (is_purge_answer n r x.sender x.addressee k)
answer_kind_is n r x (kind.Purged name) = two_tests (x.sender == n) (name_eq name r)
answer_kind_is n r x _ = refl

abbrev pub size_weight : (ℕ → Bool) → ℕ → ℕ
size_weight like size = one_if (like size)

told_is : (like : ℕ → Bool) (t : Told) → told_weight (size_weight like) t ≡ one_if (is_live_with like t)
told_is like (told.Live size) = refl
told_is like told.Unknown = refl
told_is like told.Deleted = refl

live_kind_is : (like : ℕ → Bool) (n : ℕ) (r : Name) (x : Message) (k : Kind) → live_weight (size_weight like) n r (record x { kind = k }) ≡ one_if (tells_live like n r x.sender x.addressee k)
live_kind_is like n r x (kind.InfoIs name t) =
    ap (λ y. if x.addressee == n then (if name_eq name r then y else 0) else 0) (told_is like t) ∙ three_tests (x.addressee == n) (name_eq name r) (is_live_with like t)
live_kind_is like n r x _ = refl

pub map_count_is : (n : ℕ) (r : Name) (w : World) → under (map_token n r) w ≡ under_way (is_about_map n r) w
map_count_is n r w = under_is (map_token n r) (is_about_map n r) (λ m. map_kind n r m m.kind) w

pub delete_count_is : (n : ℕ) (r : Name) (w : World) → under (delete_token n r) w ≡ under_way (is_about_delete n r) w
delete_count_is n r w = under_is (delete_token n r) (is_about_delete n r) (λ m. delete_kind n r m m.kind) w

pub order_count_is : (n : ℕ) (r : Name) (w : World) → under (order_weight n r) w ≡ under_way (is_purge_order n r) w
order_count_is n r w = under_is (order_weight n r) (is_purge_order n r) (λ m. order_kind_is n r m m.kind) w

pub answer_count_is : (n : ℕ) (r : Name) (w : World) → under (answer_weight n r) w ≡ under_way (is_purge_answer n r) w
answer_count_is n r w = under_is (answer_weight n r) (is_purge_answer n r) (λ m. answer_kind_is n r m m.kind) w

pub live_count_is : (like : ℕ → Bool) (n : ℕ) (r : Name) (w : World) → under (live_weight (size_weight like) n r) w ≡ under_way (tells_live like n r) w
live_count_is like n r w = under_is (live_weight (size_weight like) n r) (tells_live like n r) (λ m. live_kind_is like n r m m.kind) w

-- Waits.
pub map_wait_is : (r : Name) (a : Activity) → waits_map r a ≡ one_if (waits_for_map r a)
map_wait_is r (Waiting (ForMap name purged)) = refl
map_wait_is r _ = refl

pub delete_wait_is : (r : Name) (a : Activity) → waits_delete r a ≡ one_if (waits_for_delete r a)
delete_wait_is r (Waiting (ForDelete name)) = refl
delete_wait_is r _ = refl

mark_tests : (b c : Bool) → (if b then one_if c else 0) ≡ one_if (b && c)
mark_tests true c = refl
mark_tests false c = refl

pub marked_is : (r : Name) (a : Activity) → marked_maps r a ≡ one_if (waits_purged r a)
marked_is r (Waiting (ForMap name purged)) = mark_tests (name_eq name r) purged
marked_is r _ = refl

pub waits_at : (r : Name) (a : Activity) → waits_for_map r a ≡ true → (purged : Bool) × (a ≡ Waiting (ForMap r purged))
waits_at r (Waiting (ForMap name purged)) e = (purged, ap (λ q. Waiting (ForMap q purged)) (same_name name r e))
waits_at r _ e = cc

pub deletes_at : (r : Name) (a : Activity) → waits_for_delete r a ≡ true → a ≡ Waiting (ForDelete r)
deletes_at r (Waiting (ForDelete name)) e = ap (λ q. Waiting (ForDelete q)) (same_name name r e)
deletes_at r _ e = cc

-- Stages.
pub deleting_is : (n : ℕ) (s : Stage) → deletes_for_node n s ≡ one_if (is_deleting n s)
deleting_is n stage.Unknown = refl
deleting_is n stage.Live = refl
deleting_is n (stage.Going deleter) = refl
deleting_is n stage.Gone = refl

pub deleted_is : (s : Stage) → deleted_of s ≡ one_if (is_deleted s)
deleted_is stage.Unknown = refl
deleted_is stage.Live = refl
deleted_is (stage.Going deleter) = refl
deleted_is stage.Gone = refl

pub going_at : (s : Stage) → 1 ≤ going_of s → (deleter : ℕ) × (s ≡ stage.Going deleter)
going_at (stage.Going deleter) h = (deleter, refl)
going_at stage.Unknown h = absurd (omega arith)
going_at stage.Live h = absurd (omega arith)
going_at stage.Gone h = absurd (omega arith)

pub not_unknown : (s : Stage) → 1 ≤ made_of s → s ≡ stage.Unknown → ⊥
not_unknown s h e = let a = ap made_of e in absurd (omega arith)

pub deleted_made : (s : Stage) → deleted_of s ≤ made_of s
deleted_made stage.Unknown = omega arith
deleted_made stage.Live = omega arith
deleted_made (stage.Going deleter) = omega arith
deleted_made stage.Gone = omega arith

-- Entries.
sound_is : (o : Option Mapping) → sound_map o ≡ one_if (is_sound o)
sound_is None = refl
sound_is (Some m) = go m.doomed
  where
    go : (b : Bool) → (if b then 0 else 1) ≡ one_if (if b then false else true)
    go true = refl
    go false = refl

pub doomed_is : (o : Option Mapping) → doomed_map o ≡ one_if (is_doomed o)
doomed_is None = refl
doomed_is (Some m) = refl

pub cached_counts : (r : Name) (cache : List Cached) → is_some_size (cached_size r cache) ≡ true → 1 ≤ stored_weight one r cache
cached_counts r cache e = go (stored_weight one r cache) refl
  where
    go : (k : ℕ) → stored_weight one r cache ≡ k → 1 ≤ stored_weight one r cache
    go zero z = let none = ap is_some_size (none_stored r cache z) in absurd (cc)
    go (suc k) z = omega arith

pub sound_counts : (r : Name) (n : Node) → has_sound r n ≡ true → 1 ≤ sound_entries r n
sound_counts r n e = go (is_sound (n.maps r)) (sound_is (n.maps r)) e
  where
    go : (b : Bool) → sound_map (n.maps r) ≡ one_if b → b || is_some_size (cached_size r n.cache) ≡ true → 1 ≤ sound_map (n.maps r) + stored_weight one r n.cache
    go true s e = omega arith
    go false s e = let c = cached_counts r n.cache e in omega arith

-- a member of a list of members
pub member_of : (set : ℕ → Bool) (m k : ℕ) → 1 ≤ length (members_from m k set) → (n : ℕ) × (set n ≡ true)
member_of set m zero h = absurd (omega arith)
member_of set m (suc k) h = go (set m) refl (member_of set (m + 1) k) h
  where
    go : (b : Bool) → set m ≡ b → (1 ≤ length (members_from (m + 1) k set) → (n : ℕ) × (set n ≡ true)) → 1 ≤ length (if b then m ∷ members_from (m + 1) k set else members_from (m + 1) k set) → (n : ℕ) × (set n ≡ true)
    go true e rest h = (m, e)
    go false e rest h = rest h

-- Pieces in boxes are those of the nodes.
held_pieces : (count : ℕ) (i : ℕ) (ps : List Piece) → AllByRecursion (HeldIn (Spoken count) i) ps → AllByRecursion (HeldOut (Spoken count)) ps
held_pieces count i [] h = tt
held_pieces count i (p ∷ ps) h = (h.0.0, held_pieces count i ps h.1)

held_boxes : (w : World) → Held (Lived w.count) (Spoken w.count) w → (i k : ℕ) → AllByRecursion (HeldOut (Spoken w.count)) (boxes_from i k w.nodes)
held_boxes w h i zero = tt
held_boxes w h i (suc k) =
    all_append _ ((w.nodes i).inbox ++ (w.nodes i).outbox) (boxes_from (i + 1) k w.nodes)
    (all_append _ (w.nodes i).inbox (w.nodes i).outbox (held_pieces w.count i (w.nodes i).inbox (h i).inbox) (h i).outbox) (held_boxes w h (i + 1) k)

pub spoken_boxes : (w : World) → Held (Lived w.count) (Spoken w.count) w → AllByRecursion (HeldOut (Spoken w.count)) (pieces_in_boxes w)
spoken_boxes w h = held_boxes w h 0 w.count

-- where no message counts, none is counted
pub none_counts : (count : ℕ) (test : ℕ → ℕ → Kind → Bool) → ((m : Message) → Spoken count m → test m.sender m.addressee m.kind ≡ false) → (ps : List Piece) → AllByRecursion (HeldOut (Spoken count)) ps → how_many test ps ≡ 0
none_counts count test h [] all = refl
none_counts count test h (p ∷ ps) all = let a = ap one_if (h p.message all.0) in let b = none_counts count test h ps all.1 in omega arith

-- one that is there counts
pub there_counts : (test : ℕ → ℕ → Kind → Bool) {p : Piece} {ps rest : List Piece} → Took p ps rest → test p.message.sender p.message.addressee p.message.kind ≡ true → 1 ≤ how_many test ps
there_counts test {p = p} {ps = ps} {rest = rest} t e =
    let f : Message → ℕ = λ m. one_if (test m.sender m.addressee m.kind) in
    let a = weigh_took (on_piece f) t in
    let b = many_is f test (λ m. refl) ps in
    let c = ap one_if e in omega arith

-- A piece that comes: its message was the only piece, or it is the last missing one, or it is gathered.
use Rattle.std.proofs.Common.{◌≡◌, ℕ, zero, suc, ◌+◌, ◌==◌, Bool, true, false, ◌&&◌, None, Some, Option, List, [], ◌∷◌, ◌++◌, length, if◌then◌else◌, refl, ap, sym, ◌∙◌, subst, arith}
use Rattle.std.specs.List.{AllByRecursion}
use Rattle.std.proofs.lemmas.Bool.{cond_both, cond-true, cond-false, eqb-true, eq-eqb, and_parts}
use Rattle.crl_protocol.specs.Places.{Took, here, there}
use Rattle.crl_pieces.specs.Pieces.{count, piece_size, cut, join, is_missing, with_piece, is_complete, joined, Cell, parts_of, slots, left_from, has_come, comes_at}
use Rattle.crl_pieces.proofs.Laws.{join_cut, length_cut, cut_sizes, HaveSizes}
use Rattle.crl_pieces.proofs.Laws.{length_cells, slots_none, complete_joins, complete_left, left_complete, parts_came, part_at, slots_came, came_one}
use Rattle.crl_protocol.specs.Parcels.{Piece, load_of, with_load, piece_of, Key, key_eq, key_of, PartsGathered, slots_or}
use Rattle.crl_protocol.specs.Receiving.{slots_with}
use Rattle.crl_flight.specs.Flight.{Moves, still, Under, left_of, lefts, entry_of, is_key, is_at, entry_in, IsUnder, IsFlight, messages_of}
use Rattle.crl_flight.specs.Coming.{NotAt, Alone, put_at, IsNext, PieceComes, plain, last, gathers}
use Rattle.crl_flight.proofs.Orders.{moves_then, moves_behind, moves_round, took_moved}
use Rattle.crl_flight.proofs.Loads.{whole_again, key_kept, load_is, plain_same, key_same, key_self}
use Rattle.crl_flight.proofs.Arriving.{arrived, size_at, length_came}
use Rattle.crl_flight.proofs.Flying.{finds}

all_took : {A : Type 0} (P : A → Type 0) {x : A} {xs ys : List A} → Took x xs ys → AllByRecursion P xs → P x × AllByRecursion P ys
all_took P here h = h
all_took P (there t) h = let u = all_took P t h.1 in (u.0, (h.0, u.1))

-- what is gathered of a key
pub entry_not : (i : ℕ) (k : Key) (us : List Under) → NotAt i k us → entry_in i k us ≡ None
entry_not i k [] n = refl
entry_not i k (u ∷ us) n = cond-false (is_at i k u) _ _ n.0 ∙ entry_not i k us n.1

entry_else : (i : ℕ) (k : Key) {u : Under} {us others : List Under} → Took u us others → is_at i k u ≡ false → entry_in i k us ≡ entry_in i k others
entry_else i k (here {x = u} {xs = us}) e = cond-false (is_at i k u) _ _ e
entry_else i k (there {y = v} t) e = ap (λ x. if is_at i k v then entry_of v.cells else x) (entry_else i k t e)

entry_took : (i : ℕ) (k : Key) {u : Under} {us others : List Under} → Took u us others → is_at i k u ≡ true → NotAt i k others → entry_in i k us ≡ entry_of u.cells
entry_took i k (here {x = u} {xs = us}) e n = cond-true (is_at i k u) _ _ e
entry_took i k (there {y = v} t) e n = cond-false (is_at i k v) _ _ n.0 ∙ entry_took i k t e n.1

-- a message under way in place of another
pub record Placed (v u : Under) (us others : List Under) : Type 0 where
  pub after : List Under
  pub took : Took v after others
  pub messages : v.message ≡ u.message → messages_of after ≡ messages_of us

placed : (v : Under) {u : Under} {us others : List Under} → Took u us others → Placed v u us others
placed v (here {x = u} {xs = us}) = record { after = v ∷ us; took = here; messages = λ e. ap (λ m. m ∷ messages_of us) e }
placed v (there {y = w} t) = let p = placed v t in record { after = w ∷ p.after; took = there p.took; messages = λ e. ap (λ l. w.message ∷ l) (p.messages e) }

lefts_took : {u : Under} {us others : List Under} → Took u us others → Moves (lefts us) (left_of u ++ lefts others)
lefts_took here = still
lefts_took {u = u} (there {y = w} {ys = ys} t) = moves_then (moves_behind (left_of w) (lefts_took t)) (moves_round (left_of w) (left_of u) (lefts ys))

pub all_put : {A : Type 0} (P : A → Type 0) {x : A} {xs ys : List A} → Took x xs ys → P x → AllByRecursion P ys → AllByRecursion P xs
all_put P here h k = (h, k)
all_put P (there t) h k = (k.0, all_put P t h k.1)

slots_entry : (cells : List Cell) → slots_or (length cells) (entry_of cells) ≡ slots cells
slots_entry cells = go (has_come cells) refl
  where
    go : (b : Bool) → has_come cells ≡ b → slots_or (length cells) (if b then Some (slots cells) else None) ≡ slots cells
    go true e = refl
    go false e = sym (slots_none cells e)

at_self : (u : Under) (key : Key) → key_of u.message ≡ Some key → is_at u.message.addressee key u ≡ true
at_self u key e = let a = eq-eqb u.message.addressee u.message.addressee refl in let b : is_key key (key_of u.message) ≡ true = ap (λ o. is_key key o) e ∙ key_self key in grind arith

-- a message without bytes has one piece
one_piece : (place : ℕ) (cells : List Cell) (part : List ℕ) → parts_of cells ≡ part ∷ [] → is_missing place (slots cells) ≡ true → is_complete (slots (comes_at place cells)) ≡ true
one_piece place [] part e m = cc
one_piece zero (c ∷ []) part e m = refl
one_piece (suc place) (c ∷ []) part e m = go place m
  where
    go : (i : ℕ) → is_missing i [] ≡ true → is_complete (slots (comes_at (suc i) (c ∷ []))) ≡ true
    go zero m = cc
    go (suc i) m = cc
one_piece place (c ∷ d ∷ cells) part e m = cc

-- the piece at a place of a message under way
pub record Places (us others : List Under) (u : Under) (place : ℕ) (rest : List Piece) : Type 0 where
  pub took : Took u us others
  pub missing : is_missing place (slots u.cells) ≡ true
  pub moves : Moves (left_of (record { message = u.message; cells = comes_at place u.cells }) ++ lefts others) rest

abbrev the_piece : Under → ℕ → Piece
the_piece u place = piece_of u.message (length u.cells) (0 + place) (part_at place (parts_of u.cells))

cut_none : cut [] ≡ [] ∷ []
unfolding cut
cut_none = refl

piece_plain : (us others : List Under) (boxes rest : List Piece) (gathered : ℕ → PartsGathered) (u : Under) (place : ℕ) → IsFlight us boxes gathered → Places us others u place rest → key_of u.message ≡ None
    → PieceComes us rest gathered (the_piece u place)
piece_plain us others boxes rest gathered u place f x none =
    plain u others x.took (key_kept u.message.sender part u.message.kind ∙ none) (ap (λ k. record { sender = u.message.sender; addressee = u.message.addressee; kind = k }) same.1) (record {
      boxed = subst (λ l. Moves (l ++ lefts others) rest) gone x.moves;
      each = parts.1;
      came = λ i k. f.came i k ∙ entry_else i k x.took (not_at i k);
    })
  where
    part : List ℕ
    part = part_at place (parts_of u.cells)

    same : (load_of u.message.kind ≡ []) × (with_load part u.message.kind ≡ u.message.kind)
    same = plain_same u.message.sender part u.message.kind none

    parts : IsUnder u × AllByRecursion IsUnder others
    parts = all_took IsUnder x.took f.each

    gone : left_of (record { message = u.message; cells = comes_at place u.cells }) ≡ []
    gone = complete_left _ 0 (comes_at place u.cells) (one_piece place u.cells [] (parts.0.0 ∙ ap cut same.0 ∙ cut_none) x.missing)

    not_at : (i : ℕ) (k : Key) → is_at i k u ≡ false
    not_at i k = let e : is_key k (key_of u.message) ≡ false = ap (λ o. is_key k o) none in grind arith

piece_last : (us others : List Under) (boxes rest : List Piece) (gathered : ℕ → PartsGathered) (u : Under) (place : ℕ) (key : Key) → IsFlight us boxes gathered → Places us others u place rest
    → NotAt u.message.addressee key others → key_of u.message ≡ Some key → (b : Bool) → is_complete (slots (comes_at place u.cells)) ≡ b → PieceComes us rest gathered (the_piece u place)
piece_last us others boxes rest gathered u place key f x alone e = go
  where
    p : Piece
    p = the_piece u place

    part : List ℕ
    part = part_at place (parts_of u.cells)

    v : Under
    v = record { message = u.message; cells = comes_at place u.cells }

    parts : IsUnder u × AllByRecursion IsUnder others
    parts = all_took IsUnder x.took f.each

    index : 0 + place ≡ place
    index = omega arith

    -- what is gathered before, and with the piece
    before : slots_or p.pieces (gathered p.message.addressee key) ≡ slots u.cells
    before = ap (λ o. slots_or (length u.cells) o) (f.came u.message.addressee key ∙ entry_took u.message.addressee key x.took (at_self u key e) alone) ∙ slots_entry u.cells

    after : slots_with p (gathered p.message.addressee key) ≡ slots v.cells
    after = ap (λ l. with_piece (0 + place) l (slots_or p.pieces (gathered p.message.addressee key))) (load_is u.message.sender part u.message.kind key e)
        ∙ ap (λ j. with_piece j part (slots_or p.pieces (gathered p.message.addressee key))) index ∙ ap (λ s. with_piece place part s) before ∙ sym (slots_came place u.cells)

    size : ℕ
    size = length (load_of u.message.kind)

    many : length u.cells ≡ count size
    many = sym (length_cells u.cells) ∙ ap (λ (l : List (List ℕ)). length l) parts.0.0 ∙ length_cut (load_of u.message.kind)

    long : length (load_of p.message.kind) ≡ piece_size size (0 + place)
    long = ap (λ (l : List ℕ). length l) (load_is u.message.sender part u.message.kind key e) ∙ size_at size 0 place u.cells (subst (λ l. HaveSizes size 0 l) (sym parts.0.0) (cut_sizes (load_of u.message.kind))) x.missing

    next : IsNext us gathered p key u others
    next = record {
      took = x.took;
      of_key = key_kept u.message.sender part u.message.kind ∙ e;
      of_message = e;
      sender = refl;
      addressee = refl;
      fits = let a = eq-eqb p.pieces (count size) many in let b = eq-eqb (length (load_of p.message.kind)) (piece_size size (0 + place)) long in ap (λ y. y && (length (load_of p.message.kind) == piece_size size (0 + place))) a ∙ b;
      missing = ap (λ j. is_missing j (slots_or p.pieces (gathered p.message.addressee key))) index ∙ ap (λ s. is_missing place s) before ∙ x.missing;
    }

    -- of other keys and other nodes as before
    same_at : (i : ℕ) (k : Key) → is_at i k u ≡ (u.message.addressee == i) && key_eq k key
    same_at i k = ap (λ o. (u.message.addressee == i) && is_key k o) e

    stays : (i : ℕ) (k : Key) → (u.message.addressee == i) && key_eq k key ≡ false → gathered i k ≡ entry_in i k others
    stays i k w = f.came i k ∙ entry_else i k x.took (same_at i k ∙ w)

    alone_at : (i : ℕ) (k : Key) → (u.message.addressee == i) && key_eq k key ≡ true → NotAt i k others
    alone_at i k w = let h = and_parts (u.message.addressee == i) (key_eq k key) w in
        subst (λ j. NotAt j k others) (eqb-true u.message.addressee i h.0) (subst (λ l. NotAt u.message.addressee l others) (sym (key_same k key h.1)) alone)

    cleared : (i : ℕ) (k : Key) → put_at gathered u.message.addressee key None i k ≡ entry_in i k others
    cleared i k = cond_both ((u.message.addressee == i) && key_eq k key) None (gathered i k) (λ o. o ≡ entry_in i k others)
        (λ w. sym (entry_not i k others (alone_at i k w)))
        (λ w. stays i k w)

    put : Placed v u us others
    put = placed v x.took

    kept : (i : ℕ) (k : Key) → put_at gathered u.message.addressee key (Some (slots v.cells)) i k ≡ entry_in i k put.after
    kept i k = cond_both ((u.message.addressee == i) && key_eq k key) (Some (slots v.cells)) (gathered i k) (λ o. o ≡ entry_in i k put.after)
        (λ w. sym (entry_took i k put.took (same_at i k ∙ w) (alone_at i k w) ∙ cond-true (has_come v.cells) (Some (slots v.cells)) None (came_one place u.cells x.missing)))
        (λ w. stays i k w ∙ sym (entry_else i k put.took (same_at i k ∙ w)))

    whole : is_complete (slots v.cells) ≡ true → with_load (joined (slots_with p (gathered p.message.addressee key))) p.message.kind ≡ u.message.kind
    whole full =
        ap (λ s. with_load (joined s) p.message.kind) after
        ∙ ap (λ l. with_load l p.message.kind) (complete_joins v.cells full ∙ ap join (parts_came place u.cells ∙ parts.0.0) ∙ join_cut (load_of u.message.kind)) ∙ whole_again part u.message.kind

    go : (b : Bool) → is_complete (slots v.cells) ≡ b → PieceComes us rest gathered p
    go true full = last key u others next (ap is_complete after ∙ full) (whole full) (record {
      boxed = subst (λ l. Moves (l ++ lefts others) rest) (complete_left _ 0 v.cells full) x.moves;
      each = parts.1;
      came = cleared;
    })
    go false less = gathers key u others put.after next (ap is_complete after ∙ less) (put.messages refl) (record {
      boxed = moves_then (lefts_took put.took) x.moves;
      each = all_put IsUnder put.took (parts_came place u.cells ∙ parts.0.0, λ none. let full = left_complete (piece_of v.message (length v.cells)) 0 v.cells none in cc) parts.1;
      came = λ i k. ap (λ s. put_at gathered u.message.addressee key (Some s) i k) after ∙ kept i k;
    })

piece_comes : (us others : List Under) (boxes rest : List Piece) (gathered : ℕ → PartsGathered) (u : Under) (place : ℕ) → IsFlight us boxes gathered → Alone us → Places us others u place rest
    → PieceComes us rest gathered (the_piece u place)
piece_comes us others boxes rest gathered u place f alone x = go (key_of u.message) refl
  where
    go : (o : Option Key) → key_of u.message ≡ o → PieceComes us rest gathered (the_piece u place)
    go None e = piece_plain us others boxes rest gathered u place f x e
    go (Some key) e = piece_last us others boxes rest gathered u place key f x (alone u others x.took key e) e (is_complete (slots (comes_at place u.cells))) refl

pub comes : (us : List Under) (boxes rest : List Piece) (gathered : ℕ → PartsGathered) (p : Piece) → IsFlight us boxes gathered → Alone us → Took p boxes rest → PieceComes us rest gathered p
comes us boxes rest gathered p f alone t =
    let e = took_moved f.boxed p rest t in
    let d = finds us p e.left e.took in
    let a = arrived (piece_of d.under.message (length d.under.cells)) 0 d.under.cells p d.left d.took_piece in
    let same = a.left ∙ ap (λ n. left_from (piece_of d.under.message n) 0 (comes_at a.place d.under.cells)) (sym (length_came a.place d.under.cells)) in
    subst (λ q. PieceComes us rest gathered q) (sym a.is)
    (piece_comes us d.others boxes rest gathered d.under a.place f alone
    (record { took = d.took; missing = a.missing; moves = moves_then (subst (λ l. Moves (l ++ lefts d.others) e.left) same d.moves) e.moves }))

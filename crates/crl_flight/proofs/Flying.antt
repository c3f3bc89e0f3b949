-- What is under way, as pieces are posted, carried and handled.
use Rattle.std.proofs.Common.{◌≡◌, ℕ, suc, ◌+◌, false, None, List, [], ◌∷◌, ◌++◌, length, map, if◌then◌else◌, refl, ap, sym, ◌∙◌, subst, arith, append_assoc}
use Rattle.std.specs.List.{AllByRecursion}
use Rattle.std.proofs.lemmas.Bool.{cond_both, cond-false}
use Rattle.crl_model.specs.declared.message.Message.{Message}
use Rattle.crl_protocol.specs.Places.{Took, here, there}
use Rattle.crl_pieces.specs.Pieces.{cut, nothing_came, is_complete, fresh, left_from, has_come}
use Rattle.crl_pieces.proofs.Laws.{length_cut}
use Rattle.crl_pieces.proofs.Laws.{parts_fresh, slots_fresh, fresh_came, left_complete}
use Rattle.crl_protocol.specs.Parcels.{Piece, load_of, piece_of, pieces_of, pieces_in, Key, PartsGathered}
use Rattle.crl_flight.specs.Flight.{Moves, still, Under, posted, left_of, lefts, entry_of, is_at, entry_in, IsUnder, IsFlight, messages_of}
use Rattle.crl_flight.proofs.Orders.{moves_then, moves_behind, moves_before, moves_round, moves_none, OfTwo, in_first, in_second, of_two}
use Rattle.crl_deeds.proofs.Laws.{all_append}

-- a piece that is left is one of a message
pub record Found (us : List Under) (p : Piece) (rest : List Piece) : Type 0 where
  pub under : Under
  pub others : List Under
  pub took : Took under us others
  pub left : List Piece
  pub took_piece : Took p (left_of under) left
  pub moves : Moves (left ++ lefts others) rest

found_in : (u : Under) (us : List Under) (p : Piece) (rest left : List Piece) → rest ≡ left_of u ++ left → Found us p left → Found (u ∷ us) p rest
found_in u us p rest left e f = record {
  under = f.under;
  others = u ∷ f.others;
  took = there f.took;
  left = f.left;
  took_piece = f.took_piece;
  moves = subst (λ l. Moves (f.left ++ (left_of u ++ lefts f.others)) l) (sym e) (moves_then (moves_round f.left (left_of u) (lefts f.others)) (moves_behind (left_of u) f.moves));
}

pub finds : (us : List Under) (p : Piece) (rest : List Piece) → Took p (lefts us) rest → Found us p rest
finds [] p rest t = elim t [ ]
finds (u ∷ us) p rest t = go (of_two (left_of u) (lefts us) rest t) (λ l v. finds us p l v)
  where
    go : OfTwo p (left_of u) (lefts us) rest → ((l : List Piece) → Took p (lefts us) l → Found us p l) → Found (u ∷ us) p rest
    go (in_first left v e) more = record { under = u; others = us; took = here; left = left; took_piece = v; moves = subst (λ l. Moves (left ++ lefts us) l) (sym e) still }
    go (in_second left v e) more = found_in u us p rest left e (more left v)

-- Messages are posted.
lefts_append : (us vs : List Under) → lefts (us ++ vs) ≡ lefts us ++ lefts vs
lefts_append [] vs = refl
lefts_append (u ∷ us) vs = ap (λ l. left_of u ++ l) (lefts_append us vs) ∙ sym (append_assoc (left_of u) (lefts us) (lefts vs))

length_fresh : (parts : List (List ℕ)) → length (fresh parts) ≡ length parts
length_fresh [] = refl
length_fresh (part ∷ parts) = ap suc (length_fresh parts)

left_posted : (m : Message) → left_of (posted m) ≡ pieces_of m
left_posted m = ap (λ n. left_from (piece_of m n) 0 (fresh (cut (load_of m.kind)))) (length_fresh (cut (load_of m.kind)) ∙ length_cut (load_of m.kind))

pub lefts_posted : (ms : List Message) → lefts (map posted ms) ≡ pieces_in ms
lefts_posted [] = refl
lefts_posted (m ∷ ms) = ap (λ l. l ++ lefts (map posted ms)) (left_posted m) ∙ ap (λ l. pieces_of m ++ l) (lefts_posted ms)

some_missing : (n : ℕ) (parts : List (List ℕ)) → length parts ≡ n + 1 → is_complete (nothing_came (length parts)) ≡ false
some_missing n [] e = absurd (omega arith)
some_missing n (part ∷ parts) e = refl

pub under_posted : (m : Message) → IsUnder (posted m)
under_posted m = (parts_fresh parts, λ e. let full = left_complete (piece_of m (length (fresh parts))) 0 (fresh parts) e in let missing = some_missing _ parts (length_cut (load_of m.kind)) in let same = ap is_complete (slots_fresh parts) in cc)
  where
    parts : List (List ℕ)
    parts = cut (load_of m.kind)

all_posted : (ms : List Message) → AllByRecursion IsUnder (map posted ms)
all_posted [] = tt
all_posted (m ∷ ms) = (under_posted m, all_posted ms)

entry_posted : (i : ℕ) (k : Key) (m : Message) → entry_of (posted m).cells ≡ None
entry_posted i k m = cond-false (has_come (fresh (cut (load_of m.kind)))) _ _ (fresh_came (cut (load_of m.kind)))

entries_posted : (i : ℕ) (k : Key) (ms : List Message) → entry_in i k (map posted ms) ≡ None
entries_posted i k [] = refl
entries_posted i k (m ∷ ms) =
    let rest = entries_posted i k ms in cond_both (is_at i k (posted m)) _ _ (λ x. x ≡ None) (λ w. entry_posted i k m) (λ w. rest)

entry_more : (i : ℕ) (k : Key) (us : List Under) (ms : List Message) → entry_in i k us ≡ entry_in i k (us ++ map posted ms)
entry_more i k [] ms = sym (entries_posted i k ms)
entry_more i k (u ∷ us) ms = ap (λ x. if is_at i k u then entry_of u.cells else x) (entry_more i k us ms)

pub posts_fly : (us : List Under) (boxes after : List Piece) (gathered : ℕ → PartsGathered) (ms : List Message) → IsFlight us boxes gathered → Moves (boxes ++ pieces_in ms) after
    → IsFlight (us ++ map posted ms) after gathered
posts_fly us boxes after gathered ms f m = record {
  boxed = subst (λ l. Moves l after) (sym (lefts_append us (map posted ms) ∙ ap (λ l. lefts us ++ l) (lefts_posted ms))) (moves_then (moves_before (pieces_in ms) f.boxed) m);
  each = all_append IsUnder us (map posted ms) f.each (all_posted ms);
  came = λ i k. f.came i k ∙ entry_more i k us ms;
}

pub messages_posted : (us : List Under) (ms : List Message) → messages_of (us ++ map posted ms) ≡ messages_of us ++ ms
messages_posted [] [] = refl
messages_posted [] (m ∷ ms) = ap (λ l. m ∷ l) (messages_posted [] ms)
messages_posted (u ∷ us) ms = ap (λ l. u.message ∷ l) (messages_posted us ms)

-- the gatherings said otherwise
pub flight_as : (us : List Under) (boxes : List Piece) (gathered as_now : ℕ → PartsGathered) → ((i : ℕ) (k : Key) → as_now i k ≡ gathered i k) → IsFlight us boxes gathered → IsFlight us boxes as_now
flight_as us boxes gathered as_now e f = record { boxed = f.boxed; each = f.each; came = λ i k. e i k ∙ f.came i k }

-- Pieces are carried.
pub carried_fly : (us : List Under) (boxes after : List Piece) (gathered : ℕ → PartsGathered) → IsFlight us boxes gathered → Moves boxes after → IsFlight us after gathered
carried_fly us boxes after gathered f m = record { boxed = moves_then f.boxed m; each = f.each; came = f.came }

-- Nothing is under way exactly where no piece is in a box.
pub none_boxed : (us : List Under) (gathered : ℕ → PartsGathered) → IsFlight us [] gathered → us ≡ []
none_boxed us gathered f = go us f.each (moves_none f.boxed refl)
  where
    first_none : {A : Type 0} (xs ys : List A) → xs ++ ys ≡ [] → xs ≡ []
    first_none [] ys e = refl
    first_none (x ∷ xs) ys e = cc

    go : (vs : List Under) → AllByRecursion IsUnder vs → lefts vs ≡ [] → vs ≡ []
    go [] h e = refl
    go (v ∷ vs) h e = absurd (h.0.1 (first_none (left_of v) (lefts vs) e))

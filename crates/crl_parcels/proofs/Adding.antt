-- A piece is added to what came of its message.
use Rattle.std.proofs.Common.{◌≡◌, ℕ, zero, suc, ◌<◌, ◌≤◌, Bool, true, false, Option, None, Some, List, [], ◌∷◌, append-nil, if◌then◌else◌, nat_lt, refl, sym, ap, ◌∙◌, arith, inl, inr}
use Rattle.std.specs.Option.{option_or, is_some, MatchOption}
use Rattle.std.proofs.lemmas.Bool.{cases_lt, lt-ltb, le-ltb}
use Rattle.crl_pieces.specs.Gathering.{Gathering}
use Rattle.crl_pieces.specs.Pieces.{count, nothing_came, is_missing, with_piece, is_complete, joined}
use Rattle.crl_protocol.specs.Parcels.{Key, key_eq, PartsGathered, slots_or, at_key}
use Rattle.crl_parcels.specs.declared.parcel.Parcel.{Parcel}
use Rattle.crl_parcels.specs.ParcelsState.{gathering_in, slots_gathered, size_gathered}
use Rattle.crl_parcels.specs.PieceComes.{IsChangedAt, IsFoundAt, IsReadyFor, IsOfSize, kept_of, size_kept, gathering_kept}
use Rattle.crl_parcels.proofs.Keys.{key_same}

missing_of : (i n : ℕ) → i < n → is_missing i (nothing_came n) ≡ true
missing_of i zero l = absurd (omega arith)
missing_of zero (suc n) l = refl
missing_of (suc i) (suc n) l = missing_of i n (omega arith)

missing_past : (i n : ℕ) → n ≤ i → is_missing i (nothing_came n) ≡ false
missing_past i zero l = refl
missing_past zero (suc n) l = absurd (omega arith)
missing_past (suc i) (suc n) l = missing_past i n (omega arith)

-- none of so many pieces came
pub fresh_missing : (i n : ℕ) → nat_lt i n ≡ is_missing i (nothing_came n)
fresh_missing i n =
    elim (cases_lt i n) [
      | inl lt ↦ lt-ltb i n lt ∙ sym (missing_of i n lt)
      | inr le ↦ le-ltb i n le ∙ sym (missing_past i n le)
    ]

-- the place of a key says whether something came of its message
pub place_says : (key : Key) (list : List Parcel) (place : Option ℕ) → MatchOption place (gathering_in key list ≡ None) (IsFoundAt key list) → is_some place ≡ is_some (slots_gathered (gathering_in key list))
place_says key list None h = ap (λ o. is_some (slots_gathered o)) (sym h)
place_says key [] (Some place) h = let within = h.within in absurd (omega arith)
place_says key (p ∷ ps) (Some place) h = ap (λ o. is_some (slots_gathered o)) (sym (h.value p))

-- what isn't whole is kept
pub kept_some : (size : ℕ) (slots : List (Option (List ℕ))) → is_complete slots ≡ false → Some (record { size = size; slots = slots }) ≡ gathering_kept size slots
kept_some size slots e = rw e refl

-- what came so far, or else the blank
pub chosen : (o blank : Option Gathering) (gather : Gathering) (size room : ℕ) → IsReadyFor size (slots_gathered o) blank room → IsOfSize size (size_gathered o)
    → option_or o blank ≡ Some gather → (gather.slots ≡ slots_or (count size) (slots_gathered o)) × (gather.size ≡ size)
chosen None blank gather size room ready known e = let is = ready.0 in (cc, cc)
chosen (Some g) blank gather size room ready known e = (cc, cc)

-- what is taken out and then put back is put in its place
twice : {X : Type 0} (b : Bool) (x y z : X) → (if b then x else (if b then y else z)) ≡ (if b then x else z)
twice true x y z = refl
twice false x y z = refl

changed_twice : (key : Key) (g : Option Gathering) (old mid new : List Parcel) → IsChangedAt key None old mid → IsChangedAt key g mid new → IsChangedAt key g old new
changed_twice key g old mid new first second k =
    second k ∙ ap (λ o. if key_eq k key then g else o) (first k) ∙ twice (key_eq k key) g None (gathering_in k old)

slots_either : (b c : Bool) (g : Gathering) (o : Option Gathering) → slots_gathered (if b then (if c then None else Some g) else o) ≡ (if b then (if c then None else Some g.slots) else slots_gathered o)
slots_either true true g o = refl
slots_either true false g o = refl
slots_either false c g o = refl

size_either : (b c : Bool) (g : Gathering) (o : Option Gathering) → size_gathered (if b then (if c then None else Some g) else o) ≡ (if b then (if c then None else Some g.size) else size_gathered o)
size_either true true g o = refl
size_either true false g o = refl
size_either false c g o = refl

module _ (key : Key) (size : ℕ) (slots : List (Option (List ℕ))) (old mid new : List Parcel) (first : IsChangedAt key None old mid) (second : IsChangedAt key (gathering_kept size slots) mid new) where
  changed : IsChangedAt key (gathering_kept size slots) old new
  changed = changed_twice key (gathering_kept size slots) old mid new first second

  pub slots_changed : (k : Key) → slots_gathered (gathering_in k new) ≡ (if key_eq k key then kept_of slots else slots_gathered (gathering_in k old))
  slots_changed k =
      ap slots_gathered (changed k) ∙ slots_either (key_eq k key) (is_complete slots) (record { size = size; slots = slots }) (gathering_in k old)

  pub size_changed : (k : Key) → size_gathered (gathering_in k new) ≡ (if key_eq k key then size_kept size slots else size_gathered (gathering_in k old))
  size_changed k =
      ap size_gathered (changed k) ∙ size_either (key_eq k key) (is_complete slots) (record { size = size; slots = slots }) (gathering_in k old)

-- ---- a message of one piece

pub one_piece_whole : (part : List ℕ) → joined (with_piece 0 part (nothing_came 1)) ≡ part
one_piece_whole part = append-nil part

pub one_piece_complete : (part : List ℕ) → is_complete (with_piece 0 part (nothing_came 1)) ≡ true
one_piece_complete part = refl

nothing_there : (b : Bool) (o : Option (List (Option (List ℕ)))) → (b ≡ true → o ≡ None) → (if b then None else o) ≡ o
nothing_there true o h = sym (h refl)
nothing_there false o h = refl

-- a message of which nothing is kept is forgotten
pub none_at_key : (g : PartsGathered) (key : Key) → g key ≡ None → at_key g key None ≡ g
none_at_key g key e = λ i k. nothing_there (key_eq k key) (g k) (λ w. ap g (key_same k key w) ∙ e) i

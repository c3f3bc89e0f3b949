-- The calls for the copies of a list, one after the other.
use Rattle.std.proofs.Common.{◌≡◌, ℕ, ◌+◌, ◌<◌, List, [], ◌∷◌, ◌++◌, Bool, true, false, if◌then◌else◌, refl, sym, ap, ◌∙◌, append_assoc, append-nil, arith, length, take, drop, slice_index_or, slice_set}
use Rattle.std.proofs.lemmas.List.{drop_more, drop-set-lt, take_more_set}
use Rattle.std.specs.declared.option.Option.{Option}
use Rattle.std.specs.declared.option.Option.TheVariants.{None, Some}
use Rattle.crl_model.specs.declared.name.Name.{Name}
use Rattle.crl_model.specs.declared.directory.Listing.{Listing}
use Rattle.crl_model.specs.declared.directory.Asked.{Asked}
use Rattle.crl_protocol.specs.Mail.{Letter}
use Rattle.crl_protocol.specs.Home.{with_marks, recalls_and_yields, recall_or_yield, is_to_mark}
use Rattle.crl_protocol.specs.Parcels.{pieces_of}
use Rattle.crl_home.specs.Posts.{letter_message, letter_pieces, mark_at, call_at}

pub one_letter : (me : ℕ) (name : Name) (l : Letter) → letter_pieces me name (l ∷ []) ≡ pieces_of (letter_message me name l)
one_letter me name l = append-nil (pieces_of (letter_message me name l))

pub more_letters : (me : ℕ) (name : Name) (ls ks : List Letter) → letter_pieces me name (ls ++ ks) ≡ letter_pieces me name ls ++ letter_pieces me name ks
more_letters me name [] ks = refl
more_letters me name (l ∷ ls) ks =
    ap (λ r. pieces_of (letter_message me name l) ++ r) (more_letters me name ls ks)
    ∙ sym (append_assoc (pieces_of (letter_message me name l)) (letter_pieces me name ls) (letter_pieces me name ks))

by_call : (b : Bool) (l : Letter) (ls : List Letter) → (if b then l ∷ ls else ls) ≡ (if b then l ∷ [] else []) ++ ls
by_call true l ls = refl
by_call false l ls = refl

pub marks_first : (m : ℕ) (c : Option Listing) (l : List (Option Listing)) (a : Asked) → with_marks m (c ∷ l) a ≡ mark_at m c a ∷ with_marks (m + 1) l a
marks_first m None l a = refl
marks_first m (Some c) l a = refl

pub calls_first : (m : ℕ) (c : Option Listing) (l : List (Option Listing)) (a : Asked) → recalls_and_yields m (c ∷ l) a ≡ call_at m c a ++ recalls_and_yields (m + 1) l a
calls_first m None l a = refl
calls_first m (Some c) l a = by_call (is_to_mark m c a) (recall_or_yield a c.version m) (recalls_and_yields (m + 1) l a)

-- one place further, the copy there with its mark
pub next_marks : (i : ℕ) (l : List (Option Listing)) (r : Option Listing) (a : Asked) → i < length l → r ≡ mark_at i (slice_index_or l i None) a
    → take (i + 1) (slice_set l i r) ++ with_marks (i + 1) (drop (i + 1) (slice_set l i r)) a ≡ take i l ++ with_marks i (drop i l) a
next_marks i l r a lt e =
    ap (λ t. t ++ with_marks (i + 1) (drop (i + 1) (slice_set l i r)) a) (take_more_set l i r lt)
    ∙ (ap (λ t. (take i l ++ r ∷ []) ++ with_marks (i + 1) t a) (drop-set-lt (i + 1) l i r (omega arith))
    ∙ (append_assoc (take i l) (r ∷ []) (with_marks (i + 1) (drop (i + 1) l) a)
    ∙ ap (λ t. take i l ++ t) (ap (λ k. k ∷ with_marks (i + 1) (drop (i + 1) l) a) e ∙ (sym (marks_first i (slice_index_or l i None) (drop (i + 1) l) a) ∙ ap (λ t. with_marks i t a) (sym (drop_more l i None lt))))))

pub next_calls : (me : ℕ) (name : Name) (i : ℕ) (l : List (Option Listing)) (a : Asked) → i < length l
    → letter_pieces me name (recalls_and_yields i (drop i l) a) ≡ letter_pieces me name (call_at i (slice_index_or l i None) a) ++ letter_pieces me name (recalls_and_yields (i + 1) (drop (i + 1) l) a)
next_calls me name i l a lt =
    ap (λ t. letter_pieces me name (recalls_and_yields i t a)) (drop_more l i None lt)
    ∙ (ap (λ t. letter_pieces me name t) (calls_first i (slice_index_or l i None) (drop (i + 1) l) a)
    ∙ more_letters me name (call_at i (slice_index_or l i None) a) (recalls_and_yields (i + 1) (drop (i + 1) l) a))

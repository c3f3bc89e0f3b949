-- Lists of lists.
use Rattle.std.proofs.Common.{◌≡◌, ℕ, zero, suc, ◌+◌, ◌<◌, List, [], ◌∷◌, ◌++◌, length, map, set, get_or, drop, Some, sym, ap, ◌∙◌, append_assoc, add-one}
use Rattle.std.specs.Prelude.{slice_get}
use Rattle.crl_model.specs.declared.statement.Statement.{Statement}
use Rattle.crl_script.specs.Canonical.{node_text, blocks_text}
use Rattle.std.proofs.lemmas.List.{map-set, get_or-map}

-- one of the lists gets an item more
pub put_at : {A B : Type 0} (f : A → List B) (xs : List A) (k : ℕ) (old new : A) (s : B)
    → k < length xs → old ≡ get_or xs k old → f new ≡ f old ++ s ∷ []
    → map f (set xs k new) ≡ set (map f xs) k (get_or (map f xs) k [] ++ s ∷ [])
put_at f xs k old new s within is more =
    map-set f xs k new ∙ ap (set (map f xs) k) (more ∙ ap (λ ys. ys ++ s ∷ []) (ap f is ∙ sym (get_or-map f xs k old [] within)))

-- the list from an item on
drop_some : {A : Type 0} (xs : List A) (k : ℕ) (x : A) → slice_get xs k ≡ Some x → drop k xs ≡ x ∷ drop (suc k) xs
drop_some [] k x h = cc h
drop_some (y ∷ ys) zero x h = let same : y ≡ x = cc h in ap (λ z. z ∷ ys) same
drop_some (y ∷ ys) (suc k) x h = drop_some ys k x h

-- a block more is printed
pub blocks_step : (front next : List ℕ) (node : ℕ) (blocks : List (List Statement)) (block : List Statement)
    → slice_get blocks node ≡ Some block → next ≡ front ++ node_text node block
    → next ++ blocks_text (node + 1) (drop (node + 1) blocks) ≡ front ++ blocks_text node (drop node blocks)
blocks_step front next node blocks block there more =
    let rest : drop node blocks ≡ block ∷ drop (node + 1) blocks = rw add-one (drop_some blocks node block there) in
    ap (λ (xs : List ℕ). xs ++ blocks_text (node + 1) (drop (node + 1) blocks)) more
    ∙ append_assoc front (node_text node block) (blocks_text (node + 1) (drop (node + 1) blocks))
    ∙ ap (λ (bs : List (List Statement)). front ++ blocks_text node bs) (sym rest)

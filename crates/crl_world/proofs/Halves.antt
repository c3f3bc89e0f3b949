-- A list that was taken apart, with one element changed in each part; and a piece that was carried between them.
use Rattle.std.proofs.Common.{◌≡◌, ℕ, zero, suc, ◌+◌, ◌<◌, List, [], ◌∷◌, ◌++◌, length, get_or, set, take, drop, map, refl, ap, ap₂, sym, ◌∙◌, subst, arith, Result, Ok, Err, OnOk, OnErr, get_or-take, get_or-drop}
use Rattle.std.proofs.lemmas.List.{set_comm, map-set, get_or-map, set-get_or}
use Rattle.crl_protocol.specs.Node.{Node}
use Rattle.crl_member.specs.Members.{CarryIsDone}
use Rattle.crl_world.specs.Seen.{node_at}
use Rattle.crl_world.specs.Stepping.{nodes_after_carry}

second_put : {A : Type 0} (j : ℕ) (xs : List A) (b : A) → j < length xs → take j xs ++ set (drop j xs) 0 b ≡ set xs j b
second_put j [] b lt = absurd (omega arith)
second_put zero (x ∷ xs) b lt = refl
second_put (suc j) (x ∷ xs) b lt = ap (λ l. x ∷ l) (second_put j xs b (omega arith))

both_put : {A : Type 0} (i j : ℕ) (xs : List A) (a b : A) → i < j → j < length xs → set (take j xs) i a ++ set (drop j xs) 0 b ≡ set (set xs i a) j b
both_put i j [] a b lt below = absurd (omega arith)
both_put i zero (x ∷ xs) a b lt below = absurd (omega arith)
both_put zero (suc j) (x ∷ xs) a b lt below = ap (λ l. a ∷ l) (second_put j xs b (omega arith))
both_put (suc i) (suc j) (x ∷ xs) a b lt below = ap (λ l. x ∷ l) (both_put i j xs a b (omega arith) (omega arith))

on_ok : {A E : Type 0} {P Q : Type 0} (r : Result A E) → (P → Q) → OnOk r P → OnOk r Q
on_ok (Ok a) f h = f h
on_ok (Err e) f h = h

on_err : {A E : Type 0} {P Q : Type 0} (r : Result A E) → (P → Q) → OnErr r P → OnErr r Q
on_err (Ok a) f h = h
on_err (Err e) f h = f h

module _ {N : Type 0} (state : N → Node) (at i j place : ℕ) (xs : List N) (a b : N) where
  abbrev pub nodes : List Node
  nodes = map state xs

  put_both : (ys : List N) → ys ≡ set (set xs i a) j b → map state ys ≡ set (set nodes i (state a)) j (state b)
  put_both ys is = ap (map state) is ∙ map-set state (set xs i a) j b ∙ ap (λ l. set l j (state b)) (map-set state xs i a)

  carried : (ys : List N) (m n : Node) → ys ≡ set (set xs i a) j b → m ≡ node_at i nodes → n ≡ node_at j nodes → CarryIsDone at place m n (state a) (state b) → map state ys ≡ nodes_after_carry at i j place nodes
  carried ys m n is from to done =
      let d = subst (λ k. CarryIsDone at place (node_at i nodes) k (state a) (state b)) to (subst (λ k. CarryIsDone at place k n (state a) (state b)) from done) in
      put_both ys is ∙ ap₂ (λ k l. set (set nodes i k) j l) d.sender d.addressee

  -- as it was
  same_put : (ys : List N) (m n : Node) → ys ≡ set (set xs i a) j b → m ≡ node_at i nodes → n ≡ node_at j nodes → state a ≡ m → state b ≡ n → map state ys ≡ nodes
  same_put ys m n is from to sa sb =
      put_both ys is ∙ ap₂ (λ k l. set (set nodes i k) j l) (sa ∙ from) (sb ∙ to)
      ∙ ap (λ l. set l j (node_at j nodes)) (set-get_or nodes i _) ∙ set-get_or nodes j _

  -- what stands in the parts
  in_front : (k mid : ℕ) (part : List N) (d : N) → k < mid → mid < length xs → part ≡ take mid xs → state (get_or part k d) ≡ node_at k nodes
  in_front k mid part d lt below is = ap (λ l. state (get_or l k d)) is ∙ ap state (get_or-take mid xs k d lt) ∙ sym (get_or-map state xs k d _ (omega arith))

  in_back : (mid : ℕ) (part : List N) (d : N) → mid < length xs → part ≡ drop mid xs → state (get_or part 0 d) ≡ node_at mid nodes
  in_back mid part d below is =
      let same : mid + 0 ≡ mid = omega arith in
      ap (λ l. state (get_or l 0 d)) is ∙ ap state (get_or-drop mid xs 0 d) ∙ ap (λ k. state (get_or xs k d)) same ∙ sym (get_or-map state xs mid d _ below)

  -- the sender stands before the addressee
  module _ (front back : List N) (d e : N) (lt : i < j) (below : j < length xs) (front_is : front ≡ take j xs) (back_is : back ≡ drop j xs) where
    up_list : set front i a ++ set back 0 b ≡ set (set xs i a) j b
    up_list = ap₂ (λ f k. set f i a ++ set k 0 b) front_is back_is ∙ both_put i j xs a b lt below

    pub up_done : {A E : Type 0} (r : Result A E) → OnOk r (CarryIsDone at place (state (get_or front i d)) (state (get_or back 0 e)) (state a) (state b)) → OnOk r (map state (set front i a ++ set back 0 b) ≡ nodes_after_carry at i j place nodes)
    up_done r done = on_ok r (carried (set front i a ++ set back 0 b) _ _ up_list (in_front i j front d lt below front_is) (in_back j back e below back_is)) done

    pub up_same : {A E : Type 0} (r : Result A E) → OnErr r ((state a ≡ state (get_or front i d)) × (state b ≡ state (get_or back 0 e))) → OnErr r (map state (set front i a ++ set back 0 b) ≡ nodes)
    up_same r same = on_err r (λ h. same_put (set front i a ++ set back 0 b) _ _ up_list (in_front i j front d lt below front_is) (in_back j back e below back_is) h.0 h.1) same

  -- the addressee stands before the sender
  module _ (front back : List N) (d e : N) (lt : j < i) (below : i < length xs) (front_is : front ≡ take i xs) (back_is : back ≡ drop i xs) where
    down_list : set front j b ++ set back 0 a ≡ set (set xs i a) j b
    down_list = ap₂ (λ f k. set f j b ++ set k 0 a) front_is back_is ∙ both_put j i xs b a lt below ∙ set_comm xs j i b a (omega arith)

    pub down_done : {A E : Type 0} (r : Result A E) → OnOk r (CarryIsDone at place (state (get_or back 0 d)) (state (get_or front j e)) (state a) (state b)) → OnOk r (map state (set front j b ++ set back 0 a) ≡ nodes_after_carry at i j place nodes)
    down_done r done = on_ok r (carried (set front j b ++ set back 0 a) _ _ down_list (in_back i back d below back_is) (in_front j i front e lt below front_is)) done

    pub down_same : {A E : Type 0} (r : Result A E) → OnErr r ((state a ≡ state (get_or back 0 d)) × (state b ≡ state (get_or front j e))) → OnErr r (map state (set front j b ++ set back 0 a) ≡ nodes)
    down_same r same = on_err r (λ h. same_put (set front j b ++ set back 0 a) _ _ down_list (in_back i back d below back_is) (in_front j i front e lt below front_is) h.0 h.1) same

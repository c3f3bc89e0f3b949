-- What a change of one place does to the table.
use Rattle.std.proofs.Common.{◌≡◌, Bool, true, false, cond, List, [], ◌∷◌, refl, sym, ap, ◌∙◌, arith, if◌then◌else◌, is_eq}
use Rattle.std.specs.Map.{lookup, set_value}
use Rattle.std.specs.BTreeMap.{is_at}
use Rattle.std.specs.Option.{option_map_or, OnSome, IfSome}
use Rattle.std.specs.declared.option.Option.{Option}
use Rattle.std.specs.declared.option.Option.TheVariants.{None, Some}
use Rattle.crl_model.specs.declared.name.Name.{Name}
use Rattle.crl_model.specs.Names.{name_cmp, name_eq, at_name}
use Rattle.crl_table.specs.Tables.{table_of, has_place, HasPlace, IsUpdate, IsPut}
use Rattle.crl_model.proofs.Laws.{name_eq_is}
use Rattle.crl_table.proofs.Names.{at_name_same, at_name_here}
use Rattle.crl_table.proofs.Weights.{set_weight}

-- read by a function of the place
updated : {A X : Type 0} (f : A → X) (d : X) (b : Bool) (v : A) (old : Option A) → option_map_or f (cond b (Some v) old) d ≡ (if b then f v else option_map_or f old d)
updated f d true v old = refl
updated f d false v old = refl

read_after : {A X : Type 0} (f : Option A → X) (d : X) (name : Name) (v : Option A) (old new : List (Name × Option A)) → IsUpdate name v old new → (q : Name) →
    option_map_or f (lookup (is_at (name_cmp q)) new) d ≡ (if name_eq name q then f v else option_map_or f (lookup (is_at (name_cmp q)) old) d)
read_after f d name v old new u q =
    ap (λ x. option_map_or f x d) (u q) ∙ updated f d (is_eq (name_cmp name q)) v (lookup (is_at (name_cmp q)) old)
    ∙ ap (λ b. if b then f v else option_map_or f (lookup (is_at (name_cmp q)) old) d) (name_eq_is name q)

pub rows_after : {A : Type 0} (name : Name) (v : Option A) (old new : List (Name × Option A)) → IsUpdate name v old new → table_of new ≡ at_name (table_of old) name v
unfolding table_of
rows_after name v old new u = λ i q. read_after (λ row. row) None name v old new u q i

pub places_after : {A : Type 0} (name : Name) (v : Option A) (old new : List (Name × Option A)) → IsUpdate name v old new → has_place new ≡ at_name (has_place old) name true
unfolding has_place
places_after name v old new u = λ i q. read_after (λ row. true) false name v old new u q i

pub places_same : {A : Type 0} (name : Name) (v : Option A) (old new : List (Name × Option A)) → IsUpdate name v old new → HasPlace name old → has_place new ≡ has_place old
places_same name v old new u h = places_after name v old new u ∙ at_name_same (has_place old) name true h

pub here_after : {A : Type 0} (name : Name) (v : Option A) (old new : List (Name × Option A)) → IsUpdate name v old new → table_of new name ≡ v
here_after name v old new u = ap (λ f. f name) (rows_after name v old new u) ∙ at_name_here (table_of old) name v

pub place_after : {A : Type 0} (name : Name) (v : Option A) (old new : List (Name × Option A)) → IsUpdate name v old new → HasPlace name new
place_after name v old new u = ap (λ f. f name) (places_after name v old new u) ∙ at_name_here (has_place old) name true

pub rows_same : {A : Type 0} (name : Name) (old new : List (Name × Option A)) → IsUpdate name None old new → table_of old name ≡ None → table_of new ≡ table_of old
rows_same name old new u h = rows_after name None old new u ∙ at_name_same (table_of old) name None h

-- a name without a place has no row
no_row_in : {A : Type 0} (place : Option (Option A)) → option_map_or (λ row. true) place false ≡ false → option_map_or (λ row. row) place None ≡ None
no_row_in None h = refl
no_row_in (Some row) h = grind arith

pub no_row : {A : Type 0} (name : Name) (places : List (Name × Option A)) → has_place places name ≡ false → table_of places name ≡ None
unfolding table_of has_place
no_row name places h = no_row_in (lookup (is_at (name_cmp name)) places) h

some_is : {A : Type 0} (x y : A) → Some x ≡ Some y → x ≡ y
some_is x y e = grind arith

-- a place that is found is there, and written as it is it changes nothing
pub found_place : {A : Type 0} (name : Name) (place : Option A) (places : List (Name × Option A)) → lookup (is_at (name_cmp name)) places ≡ Some place → HasPlace name places
unfolding has_place
found_place name place places h = ap (λ x. option_map_or (λ row. true) x false) h

pub set_same : {A : Type 0} (test : Name → Bool) (place : A) (places : List (Name × A)) → lookup test places ≡ Some place → set_value test places place ≡ places
set_same test place [] h = refl
set_same {A} test place (p ∷ ps) h = go (test p.0) h (λ k. set_same test place ps k)
  where
    go : (b : Bool) → cond b (Some p.1) (lookup test ps) ≡ Some place → (lookup test ps ≡ Some place → set_value test ps place ≡ ps) → cond b ((p.0, place) ∷ ps) (p ∷ set_value test ps place) ≡ p ∷ ps
    go true e later = let w = some_is p.1 place e in ap (λ v. (p.0, v) ∷ ps) (sym w)
    go false e later = ap (λ qs. p ∷ qs) (later e)

pub put_from : {A : Type 0} (name : Name) (row : A) (old new : List (Name × Option A)) → HasPlace name old → new ≡ set_value (is_at (name_cmp name)) old (Some row) → IsUpdate name (Some row) old new → IsPut name row old new
put_from name row old new h e u = record {
  rows = rows_after name (Some row) old new u;
  here = here_after name (Some row) old new u;
  places = places_same name (Some row) old new u h;
  place = place_after name (Some row) old new u;
  weight = λ w. rw e (set_weight w name (Some row) old h);
}

pub on_some : {X P : Type 0} (r : Option X) → P → OnSome r P
on_some None p = tt {0}
on_some (Some x) p = p

pub if_some : {X P : Type 0} (r : Option X) → P → IfSome r (λ x. P)
if_some None p = tt {0}
if_some (Some x) p = p

-- a name with a row has a place
row_in : {A : Type 0} (row : A) (place : Option (Option A)) → option_map_or (λ row. row) place None ≡ Some row → option_map_or (λ row. true) place false ≡ true
row_in row None h = grind arith
row_in row (Some found) h = refl

pub row_place : {A : Type 0} (name : Name) (row : A) (places : List (Name × Option A)) → table_of places name ≡ Some row → HasPlace name places
unfolding table_of has_place
row_place name row places h = row_in row (lookup (is_at (name_cmp name)) places) h

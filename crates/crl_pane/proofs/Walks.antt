-- What the walks of `block` share. Assumes `Logic`.
--     word_had, word_made, mark_had, mark_made      a value of one pointer, and one of no bytes
--     one_more      a value behind the values
--     all_room      values, and the room behind them, are room
use mathlib.Core.Path.{◌≡◌, refl, subst}
use Prim.Native.Nat.{ℕ, suc, ◌+◌, ◌*◌}
use native.Mathlib.Omega.{arith}
use native.Mathlib.Nat.{zero-mul, suc-mul}
use mathlib.Core.List.{List, [], ◌∷◌, ◌++◌}
use lib.ListN.{length}
use seplogic.Ra.Ura.{Ura}
use base.Fraction.{full_share}
use mir.Syntax.{ty_array, Ty}
use mir.Val.{Val, vstruct, vcons, vnil, of_list}
use base.Logic.{ent, sep, emp}
use base.Fml.{ftrue, fat, froom}
use types.Logic.{Logic, sem}
use types.SemTy.{cells}
use types.Kit.{Item, Goal, Seq, Step, step, ‵, some, given, ◌⊛◌, ◌$◌, ◌∵◌, !, qed, by, move, keep, drop as skip, use1, use2, pick, learn, split, fsplit, fjoin, fpick, fpack, feq_i, feq_l, rewrite, done}
use denote.RattleType.{RattleType, Valss}
use denote.Laws.{Typed, Is, shows}
use denote.Param.{param, layout}
use denote.Param.Laws.{Laws, param_laws}
use denote.Memory.{part_at, mem}
use denote.RawPtr.{Ptr, RawPtr, ptr_val}
use denote.Shadow.{makes_shadow}
use denote.Steps.{nothing, peeks}
use denote.Struct.Struct.{Shape, Struct, within}
use denote.Struct.Owning.{shape}
use denote.Struct.Declared as Declared
use denote.Struct.Tuple.{Tuple, tuple_type}
use Rattle.std.specs.Mem.{type_size}
use Rattle.core.proofs.mem.Param.{El, R, el_x, elτ, Good as IsOne}
use Rattle.core.proofs.slice.Rows.{el_out}
use Rattle.std_alloc.proofs.RcSteps.{Good, word}
use Rattle.crl_pane.specs.contracts.block.Row as Row-type
use Rattle.crl_pane.specs.contracts.block.Start as Start-type

module _ (E : El) where
  abbrev pub Rw : RattleType
  Rw = Row-type.the_row (R E)

  abbrev pub St : RattleType
  St = Start-type.the_row (R E)

  -- the one field of `Row`, which takes no bytes
  abbrev pub Mark : RattleType
  Mark = Struct (shape (Row-type.the_type (R E)))

  abbrev pub sz : ℕ
  sz = type_size (R E)

abbrev one_field : Shape
one_field = record { name = []; args = []; types = []; fields = RawPtr ∷ [] }

abbrev Word : RattleType
Word = Struct one_field

abbrev pub mark : Val
mark = vstruct (vcons (vstruct vnil) vnil)

pub mark_made : (E : El) {M : Type 1} {𝓤 : Ura M} (𝓛 : Logic 𝓤) → ent 𝓤 (emp 𝓤) (sem 𝓛 ((Mark E).own_val (tt, tt) (mark ∷ [])))
mark_made E 𝓛 = makes_shadow 𝓛 ((Mark E).own_val (tt, tt) (mark ∷ [])) (λ vss. (tt, ((λ uss. (tt, tt)), tt))) ((vstruct vnil ∷ [], tt), (refl, ((tt, (refl, tt)), tt)))

module _ {M : Type 1} {𝓤 : Ura M} {𝓛 : Logic 𝓤} {K : Type 0} {Γ : List (Item 𝓤)} {G : Goal 𝓤 𝓛.H} where
  pub word_had : K → (c : Ptr) (vs : List Val) → (vs ≡ word c ∷ [] → Seq K 𝓛 Γ G) → Seq K 𝓛 (‵ (Word.own_val (c, tt) vs) ∷ Γ) G
  word_had t c vs k = fpick t (λ vss. fsplit t $ feq_l t (λ ev. fsplit t $ feq_l t (λ e. skip t $ k (subst (λ (ws : List Val). vs ≡ vstruct (of_list (ws ++ [])) ∷ []) e ev))))

  pub word_made : K → (c : Ptr) → Step K 𝓛 (‵ (Word.own_val (c, tt) (word c ∷ [])) ∷ Γ) G Γ G
  word_made t c = step (λ s.
      nothing t $ feq_i t (List Val) (ptr_val c ∷ []) (ptr_val c ∷ []) refl $ fjoin t $ feq_i t (List Val) (word c ∷ []) (word c ∷ []) refl $ fjoin t $
      fpack t (Valss (RawPtr ∷ [])) (within one_field (c, tt) (word c ∷ [])) (ptr_val c ∷ [], tt) $ s)

  pub mark_had : K → (E : El) (vs : List Val) → (vs ≡ mark ∷ [] → Seq K 𝓛 Γ G) → Seq K 𝓛 (‵ ((Mark E).own_val (tt, tt) vs) ∷ Γ) G
  mark_had t E vs k = fpick t (λ vss. fsplit t $ feq_l t (λ ev. fsplit t $ fpick t (λ uss. fsplit t $ feq_l t (λ e. skip t $ skip t $
      k (subst (λ (ws : List Val). vs ≡ vstruct (of_list (ws ++ [])) ∷ []) e ev)))))

abbrev pub three_val : Val → Val → Val → Val
three_val u v w = vstruct (vcons u (vcons v (vcons w vnil)))

pub three_of : {M : Type 1} {𝓤 : Ura M} (𝓛 : Logic 𝓤) (R S T : RattleType) (x : R.Denot) (y : S.Denot) (z : T.Denot) (u v w : Val)
    → ent 𝓤 (sep 𝓤 (sem 𝓛 (R.own_val x (u ∷ []))) (sep 𝓤 (sem 𝓛 (S.own_val y (v ∷ []))) (sem 𝓛 (T.own_val z (w ∷ []))))) (sem 𝓛 ((Tuple (R ∷ S ∷ T ∷ [])).own_val (x, y, z) (three_val u v w ∷ [])))
three_of 𝓛 R S T x y z u v w =
    qed 𝓛 (‵ (R.own_val x (u ∷ [])) ∷ ‵ (S.own_val y (v ∷ [])) ∷ ‵ (T.own_val z (w ∷ [])) ∷ []) ∵ nothing ! $ move ! (3 ∷ 0 ∷ []) $ fjoin ! $ move ! (2 ∷ 0 ∷ []) $ fjoin ! $ move ! (1 ∷ 0 ∷ []) $ fjoin ! $
    feq_i ! (List Val) (three_val u v w ∷ []) (three_val u v w ∷ []) refl $ fjoin ! $
    fpack ! (Valss (R ∷ S ∷ T ∷ [])) (within (Declared.shape (tuple_type (R ∷ S ∷ T ∷ []))) (x, (y, (z, tt))) (three_val u v w ∷ [])) (u ∷ [], (v ∷ [], (w ∷ [], tt))) $ done !

alone : (τ : Ty) (vs : List Val) → Typed (τ ∷ []) vs → (v : Val) × ((vs ≡ v ∷ []) × Good τ v)
alone τ [] t = absurd t
alone τ (v ∷ []) t = (v, (refl, t.0))
alone τ (v ∷ w ∷ vs) t = absurd t.1

module _ (Y : RattleType) (L : Laws Y) {M : Type 1} {𝓤 : Ura M} {𝓛 : Logic 𝓤} {K : Type 0} {Γ : List (Item 𝓤)} {G : Goal 𝓤 𝓛.H} where
  -- what is owned of a value is one machine value, of its type
  pub tells : K → (x : Y.Denot) (vs : List Val) → ((v : Val) → vs ≡ v ∷ [] → Good (layout Y) v → Seq K 𝓛 (‵ (Y.own_val x (v ∷ [])) ∷ Γ) G) → Seq K 𝓛 (‵ (Y.own_val x vs) ∷ Γ) G
  tells t x vs k =
      peeks t (param 0 Y) (Is (param 0 Y)) (shows 𝓛 (param 0 Y)) x vs (λ is.
      let one = alone (layout Y) vs (((param_laws 0 Y L).lawful 𝓛).typed x vs is) in
      rewrite t 0 (λ (us : List Val). ‵ (Y.own_val x us)) one.1.0 refl $ k one.0 one.1.0 one.1.1)

module _ (E : El) {M : Type 1} {𝓤 : Ura M} (𝓛 : Logic 𝓤) (b : ℕ) where
  open 𝓛 use {H}

  abbrev s : ℕ
  s = sz E

  -- the next value, past the last
  pub one_more : (xs : List (el_x E)) (x : el_x E) (o at : ℕ) → at ≡ length xs * s + o
      → ent 𝓤 (sep 𝓤 (sem 𝓛 (part_at (R E) full_share x b at)) (sem 𝓛 (cells (mem (R E)) xs b o))) (sem 𝓛 (cells (mem (R E)) (xs ++ x ∷ []) b o))
  one_more [] x o at e = qed 𝓛 (‵ (part_at (R E) full_share x b at) ∷ ‵ ftrue ∷ []) ∵
      rewrite ! 0 (λ (k : ℕ). ‵ (part_at (R E) full_share x b k)) {x = o} (omega (arith, zero-mul s)) refl $ done !
  one_more (y ∷ ys) x o at e = let more : at ≡ suc (length ys) * s + o = e in
      qed 𝓛 (‵ (part_at (R E) full_share x b at) ∷ ‵ (cells (mem (R E)) (y ∷ ys) b o) ∷ []) ∵ move ! (1 ∷ []) $ fsplit ! $ move ! (2 ∷ 1 ∷ 0 ∷ []) $
      use2 𝓛 (‵ (cells (mem (R E)) (ys ++ x ∷ []) b (o + s))) (one_more ys x (o + s) at (omega (arith, suc-mul (length ys) s))) $ move ! (1 ∷ 0 ∷ []) $ fjoin ! $ done !

  room_of : (x : el_x E) (o : ℕ) → ent 𝓤 (sem 𝓛 (part_at (R E) full_share x b o)) (H.room (elτ E) b o)
  room_of x o = qed 𝓛 (‵ (part_at (R E) full_share x b o) ∷ []) ∵
      use1 𝓛 (some (λ (v : Val). given (IsOne E v) (‵ (fat full_share (elτ E) b o v) ⊛ ‵ (E.row.own_val x (v ∷ []))))) (el_out E 𝓛 b x o) $ pick ! (λ v. learn ! (λ tv. split ! $
      keep ! (0 ∷ []) $ by ! (𝓛.laws.at_room (elτ E) b o v)))

  pub all_room : (xs : List (el_x E)) (left o at : ℕ) → at ≡ length xs * s + o
      → ent 𝓤 (sep 𝓤 (sem 𝓛 (cells (mem (R E)) xs b o)) (H.room (ty_array (elτ E) left) b at)) (H.room (ty_array (elτ E) (length xs + left)) b o)
  all_room [] left o at e = let none : left ≡ 0 + left = omega arith in let here : at ≡ o = omega (arith, zero-mul s) in
      qed 𝓛 (‵ ftrue ∷ ‵ (froom (ty_array (elτ E) left) b at) ∷ []) ∵ skip ! $
      rewrite ! 0 (λ (p : ℕ × ℕ). ‵ (froom (ty_array (elτ E) p.0) b p.1)) {x = (0 + left, o)} (λ i. (none i, here i)) refl $ done !
  all_room (x ∷ xs) left o at e = let more : at ≡ suc (length xs) * s + o = e in
      qed 𝓛 (‵ (cells (mem (R E)) (x ∷ xs) b o) ∷ ‵ (froom (ty_array (elτ E) left) b at) ∷ []) ∵ fsplit ! $ use1 𝓛 (‵ (froom (elτ E) b o)) (room_of x o) $ move ! (1 ∷ 2 ∷ []) $
      use2 𝓛 (‵ (froom (ty_array (elτ E) (length xs + left)) b (o + s))) (all_room xs left (o + s) at (omega (arith, suc-mul (length xs) s))) $ move ! (1 ∷ 0 ∷ []) $
      use2 𝓛 (‵ (froom (ty_array (elτ E) (suc (length xs + left))) b o)) (𝓛.laws.room_cons (elτ E) (length xs + left) b o) $
      rewrite ! 0 (λ (k : ℕ). ‵ (froom (ty_array (elτ E) k) b o)) {x = suc (length xs) + left} (omega arith) refl $ done !

-- `slice_mut` lends the values of a row, and the row follows it. Assumes `Logic`.
use mathlib.Core.Path.{◌≡◌, refl, sym, ap, subst, ◌∙◌}
use Prim.Native.Nat.{ℕ, ◌+◌, ◌*◌, ◌<◌, ◌^◌}
use native.Mathlib.Omega.{arith}
use mathlib.Core.List.{List, [], ◌∷◌, ◌++◌}
use seplogic.Ra.Ura.{Ura}
use base.Fraction.{full_share}
use mir.Syntax.{Fn, named, w64}
use mir.MapTy.{inst_fn}
use mir.Val.{Val, vptr, vint}
use base.Logic.{SProp, ent, sep, never, id⊢}
use base.Fml.{Lft, GName, Share, Fml, ftrue, fsep, fat, flft, fobs, fbor}
use prog.Wp.{Env, Calls, Loops, WpFn, Tables}
use types.Logic.{Logic, sem}
use contract.Monad.{fact}
use contract.Running.{tables, tables_of}
use sound.WpLaws.{WpFn-mono}
use types.Kit.{Item, ⋆, ‵, raw, ◌⊛◌, some, later, await, pick, at_ret, ◌$◌, ◌∵◌, !, qed, by, move, keep, use1, split, join, group, rewrite, fsplit, fsplit3, fjoin, fjoin3, fpack, feq_l, suffices, frame, done}
use types.Part.{whole, sub, agg}
use types.Run.{stop, fld, of_opd, and_then, no_more, first, blocks, exec, returns, enter}
use types.ByLocal.{alloc_all, pass_all, free_all, look_at, get, get_in, sets, sets_last, env}
use types.SemTy.{Body as Borrowed}
use denote.Exit.{no}
use denote.RattleType.{owns}
use denote.Memory.{mem, cell_at, part_of}
use denote.Param.{layout}
use denote.RawPtr.{Ptr, block_ptr, in_a_block}
use denote.Ref.{MutBor, MutRef}
use denote.Builtin.{RefMutOf}
use denote.Signature.{plain, mut_ref_to}
use denote.Steps.{nothing, opens}
use denote.Triple.Carry.{spared}
use denote.Triple.Clauses.{Clauses, Ended, closing}
use denote.Triple.Entry.{on_entry}
use denote.Triple.Spec.{Meets, triple_of}
use denote.Triple.Table.{entered, run_framed}
use denote.Triple.Walked.{says, needs, Stays, stay_dropped, walk_of, ends_at, Goes-dropped, Goes-spent_ref, walk_Meets}
use Rattle.std_alloc.proofs.VecSteps.Shapes.{after}
use Rattle.std_alloc.proofs.RcSteps.{word, word-Good}
use lib.ListN.{length}
use lib.ListN.{drop as drop_l}
use base.Fml.{froom}
use mir.Syntax.{ty_array}
use mir.Raw.{raw as bare}
use denote.Memory.{lone}
use types.Kit.{flt_l, flt_i}
use types.ByLocal.{take_at, give_at}
use denote.Builtin.{usize, SliceRefMutOf}
use Rattle.core.proofs.mem.Param.{El, R, args, el_x}
use Rattle.core.proofs.ptr.Rows.{times_below}
use Rattle.crl_pane.specs.Blocks.{row_owns}
use Rattle.crl_pane.proofs.Walks.{Rw, St, Mark, sz, word_had}
use types.SemTy.{cells}
use denote.Array.{Array}
use denote.Slice.{MutSlice, slice_val}
use denote.Follow.{follows}
use denote.FollowSlice.{Elements, lends_Elements}
use lib.Seq.{take_at as take_front}
use Rattle.std.specs.List.{refill}
use Rattle.crl_pane.specs.RowLends.{after_writes}
use Rattle.crl_pane.specs.contracts.block.Row.slice_mut.Key.{name as #self}
use Rattle.crl_pane.proofs.block.Row.slice_mut.Statement as stated
use Rattle.crl_pane.proofs.block.Row.slice_mut.Code as code

module _ (E : El) where
  abbrev function : Fn
  function = inst_fn (args E) code.function

  abbrev ended : Ended
  ended = record { signature = record { lifetimes = 1; outlives = []; params = RefMutOf (0 ∷ []) tt (plain (λ _. Rw E)) (λ _. tt) ∷ plain (λ _. St E) ∷ plain (λ _. usize) ∷ []; result = SliceRefMutOf (0 ∷ []) tt (plain (λ _. R E)) (λ _. tt) }; kept = (no, (no, (no, tt))) }

  abbrev stayed : Stays ended.signature.params ended.kept
  stayed = (stay_dropped (mut_ref_to (0 ∷ []) tt (plain (λ _. Rw E))) no, (stay_dropped (plain (λ _. St E)) no, (stay_dropped (plain (λ _. usize)) no, tt)))

  abbrev Asks : (Rw E).Denot → (St E).Denot → ℕ → Type 0
  Asks d start len = (start.ptr ≡ d.at) × (len ≡ length d.items)

  abbrev Gives0 : (Rw E).Denot → (St E).Denot → ℕ → MutBor (List (el_x E)) → Type 0
  Gives0 d start len r = r.now ≡ d.items

  abbrev spec : {M : Type 1} {𝓤 : Ura M} (𝓛 : Logic 𝓤) → Clauses 𝓤 ended
  spec {𝓤 = 𝓤} 𝓛 κs a = record { ghost = Unit {0}; requires = λ _. fact 𝓤 (Asks a.0.now a.1.0 a.1.1.0); ensures = λ _ r w. sep 𝓤 (sem 𝓛 (follows (Rw E) (Array (R E) 0) a.0.ghost_name r.ghost_name (after_writes a.0.now))) (fact 𝓤 (Gives0 a.0.now a.1.0 a.1.1.0 r)) }

module _ (E : El) {M : Type 1} {𝓤 : Ura M} (𝓛 : Logic 𝓤) (C : Calls 𝓤 𝓛.H) (Λ : Loops 𝓤 𝓛.H) (κ : Lft) (q : Share) (rb ro : ℕ) (γ : GName) (d : (Rw E).Denot) (start : (St E).Denot) (len : ℕ) (us0 us1 us2 : List Val) where
  open 𝓛 use {H, A}

  abbrev self : MutBor (Rw E).Denot
  self = record { ref_ptr = (rb, ro); ghost_name = γ; now = d }

  abbrev bound : (walk_of 𝓛 (ended E) (stayed E) (spec E 𝓛)).Ghost
  bound = (((κ, tt), (q, tt), tt, (self, (start, (len, tt))), (us0, (us1, (us2, tt)))), tt)

  abbrev Post : Val → SProp 𝓤
  Post = (walk_of 𝓛 (ended E) (stayed E) (spec E 𝓛)).post bound

  abbrev new : List (el_x E) → (Rw E).Denot
  new = after_writes d

  module _ (vs : List Val) (b o : ℕ) where
    abbrev space : Fml
    space = froom (bare (ty_array (lone (R E).mir) d.left)) b (length d.items * sz E + o)

    -- all but the values
    abbrev Rest : Fml
    Rest = fsep space (fsep ((Mark E).own_val (tt, tt) vs) (cell_at full_share (Rw E).mir vs rb ro))

    back : d.at ≡ block_ptr b o → (length d.items + d.left) * sz E < 2 ^ 63 → (ws : List (el_x E)) → length ws ≡ length d.items
        → ent 𝓤 (sep 𝓤 (sem 𝓛 (cells (mem (R E)) ws b o)) (sem 𝓛 Rest)) (sem 𝓛 ((mem (Rw E)).own_at (new ws) rb ro))
    unfolding part_of
    back e small ws same =
        let all : refill (length d.items) d.items ws ≡ ws = take_front ws (drop_l (length ws) d.items) (length d.items) same in
        let long : length (new ws).items ≡ length d.items = ap length all ∙ same in
        qed 𝓛 (‵ (cells (mem (R E)) ws b o) ∷ ‵ Rest ∷ []) ∵
        rewrite ! 0 (λ (l : List (el_x E)). ‵ (cells (mem (R E)) l b o)) (sym all) refl $ move ! (1 ∷ []) $ fsplit3 ! $
        rewrite ! 0 (λ (k : ℕ). ‵ (froom (bare (ty_array (lone (R E).mir) d.left)) b (k * sz E + o))) (sym long) refl $ move ! (3 ∷ 0 ∷ []) $ fjoin ! $
        flt_i ! ((length (new ws).items + d.left) * sz E) (2 ^ 63) (subst (λ k. (k + d.left) * sz E < 2 ^ 63) (sym long) small) $ fjoin ! $
        rewrite ! 0 (λ (p : Ptr). ‵ (row_owns (R E) p (new ws).items d.left)) (sym e) refl $ move ! (1 ∷ 0 ∷ []) $ fjoin ! $ move ! (1 ∷ 0 ∷ []) $ fjoin ! $
        fpack ! (List Val) (λ us. fsep (cell_at full_share (Rw E).mir us rb ro) ((Rw E).own_val (new ws) us)) vs $ done !

  exits : (v : Val) (r : MutBor (List (el_x E))) → Gives0 E d start len r
      → ent 𝓤 (sep 𝓤 (sem 𝓛 ((MutSlice (named 0) κ (R E)).own_val r (v ∷ []))) (sep 𝓤 (A.lft κ q) (sem 𝓛 (follows (Rw E) (Array (R E) 0) γ r.ghost_name new)))) (Post v)
  exits v r e =
      qed 𝓛 (‵ ((MutSlice (named 0) κ (R E)).own_val r (v ∷ [])) ∷ ‵ (flft κ q) ∷ ‵ (follows (Rw E) (Array (R E) 0) γ r.ghost_name new) ∷ []) ∵
      suffices ! _ (ends_at 𝓛 (ended E) (stayed E) (spec E 𝓛) bound v r (tt, (tt, (tt, tt))) (tt, (tt, (tt, tt)))) $
      nothing ! $ nothing ! $ fjoin ! $ nothing ! $ fjoin ! $ nothing ! $ fjoin ! $ join ! $ nothing ! $ move ! (2 ∷ 0 ∷ []) $ join ! $ join ! $ frame ! $ says ! e $ done !

  abbrev Had : List (Item 𝓤)
  Had = ‵ (fobs γ ((Rw E).coded.code d)) ∷ ‵ (fbor κ (Borrowed (mem (Rw E)) rb ro γ)) ∷ ‵ (flft κ q) ∷ []

  walk : Asks E d start len → len < 2 ^ 64 → ent 𝓤 (⋆ 𝓛 Had) (WpFn 𝓤 H C Λ (function E) (vptr rb ro ∷ word start.ptr ∷ vint w64 len ∷ []) Post)
  walk asked fits_len =
      let xs = d.items in let long : length xs ≡ len = sym asked.1 in
      let code = (Rw E).coded.code d in
      qed 𝓛 Had ∵ enter ! C Λ (function E) (vptr rb ro ∷ word start.ptr ∷ vint w64 len ∷ []) _ $ alloc_all ! (λ l. pass_all ! refl ((tt, tt), (word-Good [] start.ptr, ((tt, record { fits = fits_len }), tt))) $
      let En : Env 𝓤 H = env (function E).locals l in
      opens ! tt (Rw E) {h = d} rb ro (λ vs. move ! (1 ∷ []) $ fsplit ! $ move ! (1 ∷ []) $
      in_a_block ! d.at (λ p. row_owns (R E) p xs d.left) (id⊢ 𝓤 (never 𝓤)) (λ b o e. fsplit ! $ flt_l ! (λ small.
      take_at ! 2 $ rewrite ! 0 (λ (p : Ptr). ‵ (fat full_share (layout (St E)) (l 2) 0 (word p))) (asked.0 ∙ e) refl $ give_at ! 2 $ first ! $ blocks ! $
      let way = back vs b o e small in
      let roomy : length xs < 2 ^ 64 = subst (λ (k : ℕ). k < 2 ^ 64) asked.1 fits_len in
      let fitting = times_below (length xs) (length xs + d.left) (sz E) (2 ^ 63) (omega arith) small in
      fsplit ! $
      sets_last ! (agg ! (and_then ! (get_in ! (fld ! refl (stop !)) (sub ! 0 refl (whole !))) (and_then ! (get ! refl) (no_more !)))) refl (tt, (tt, (record { fits = fits_len }, tt))) $
      exec ! C Λ En (after 1 (function E).body) (at_ret En Post) $ sets ! (of_opd ! (get ! refl)) refl (tt, (tt, (record { fits = fits_len }, tt))) $
      move ! (1 ∷ 2 ∷ 3 ∷ []) $ fjoin3 ! $ move ! (2 ∷ 3 ∷ 4 ∷ 1 ∷ 0 ∷ []) $ group ! 5 $
      use1 𝓛 (later (some (λ (δ : GName). raw (Elements 𝓛 (Rw E) (R E) new (named 0) κ q rb ro b o γ xs (roomy, fitting) (sem 𝓛 (Rest vs b o)) way δ))))
      (lends_Elements 𝓛 (Rw E) (R E) new (named 0) κ q rb ro b o γ xs (roomy, fitting) (sem 𝓛 (Rest vs b o)) way code code) $ await ! tt $ pick ! (λ δ.
      let r : MutBor (List (el_x E)) = record { ref_ptr = (b, o); ghost_name = δ; now = xs } in
      returns ! (look_at ! 0 refl) $ free_all ! refl $ keep ! (0 ∷ []) $
      by ! (subst (λ (k : ℕ). ent 𝓤 (Elements 𝓛 (Rw E) (R E) new (named 0) κ q rb ro b o γ xs (roomy, fitting) (sem 𝓛 (Rest vs b o)) way δ) (Post (slice_val (b, o) k))) long
      (exits (slice_val (b, o) (length xs)) r refl)))))))

  entry : Asks E d start len → ent 𝓤 (on_entry 𝓛 (ended E).signature (κ, tt) (q, tt) (self, (start, (len, tt))) (us0, (us1, (us2, tt)))) (WpFn 𝓤 H C Λ (function E) (us0 ++ (us1 ++ (us2 ++ []))) Post)
  entry asked =
      qed 𝓛 ((‵ (flft κ q) ⊛ ‵ ftrue) ∷ ‵ (owns (MutRef (named 0) κ (Rw E) ∷ St E ∷ usize ∷ []) (self, (start, (len, tt))) (us0, (us1, (us2, tt)))) ∷ []) ∵
      split ! $ move ! (2 ∷ []) $
      fsplit ! $
      fsplit3 ! $ feq_l ! (λ e0.
      move ! (2 ∷ []) $
      fsplit ! $
      word_had ! start.ptr us1 (λ e1.
      fsplit ! $
      fsplit ! $ feq_l ! (λ e2. flt_l ! (λ fits_len.
      keep ! (1 ∷ 2 ∷ 3 ∷ []) $
      by ! (subst (λ (ws : List Val × List Val × List Val). ent 𝓤 (⋆ 𝓛 Had) (WpFn 𝓤 H C Λ (function E) (ws.0 ++ (ws.1 ++ (ws.2 ++ []))) Post)) (λ j. (sym e0 j, sym e1 j, sym e2 j)) (walk asked fits_len))))))

meets : (E : El) {M : Type 1} {𝓤 : Ura M} (𝓛 : Logic 𝓤) (𝓣 : Tables 𝓤 𝓛.H)
    → Meets 𝓛 (ended E).signature (WpFn 𝓤 𝓛.H 𝓣.C 𝓣.Λ (function E)) (closing 𝓛 (ended E) (spec E 𝓛))
meets E {𝓤 = 𝓤} 𝓛 𝓣 =
    walk_Meets 𝓛 (ended E) (stayed E) (Goes-spent_ref 𝓛 1 (0 ∷ []) tt (plain (λ _. Rw E)), (Goes-dropped 𝓛 1 (plain (λ _. St E)) no (λ κs x f. refl), (Goes-dropped 𝓛 1 (plain (λ _. usize)) no (λ κs x f. refl), tt))) (spec E 𝓛) (WpFn 𝓤 𝓛.H 𝓣.C 𝓣.Λ (function E)) (WpFn-mono 𝓤 𝓛.H 𝓛.laws 𝓣 (function E))
    (λ z. needs 𝓤 (Asks E z.0.3.0.now z.0.3.1.0 z.0.3.1.1.0) _ (entry E 𝓛 𝓣.C 𝓣.Λ z.0.0.0 z.0.1.0 z.0.3.0.ref_ptr.0 z.0.3.0.ref_ptr.1 z.0.3.0.ghost_name z.0.3.0.now z.0.3.1.0 z.0.3.1.1.0 z.0.4.0 z.0.4.1.0 z.0.4.1.1.0))

pub slice_mut_spec : {M : Type 1} → stated.statement M
unfolding tables_of
slice_mut_spec 𝓤 𝓛 𝓜 𝓡 wired X LX y =
    let E : El = record { row = X; laws = LX } in
    let 𝓣 : Tables 𝓤 𝓛.H = tables_of 𝓤 𝓛.H 𝓜 (tables 𝓤 𝓛.H 𝓜 𝓡 𝓡.env) in
    let k = #self (args E) in
    spared 𝓛 (ended E).signature (𝓡.run (𝓡.env k)) (run_framed 𝓤 𝓛.H 𝓜 𝓡 (𝓡.env k)) 1 (X.lives, tt) (closing 𝓛 (ended E) (spec E 𝓛))
    (entered 𝓤 𝓛.H (triple_of 𝓛 (ended E).signature (closing 𝓛 (ended E) (spec E 𝓛))) 𝓣.C 𝓣.Λ k (function E) (code.unfolded 𝓤 𝓛.H 𝓜 𝓡 wired (X, tt)) (meets E 𝓛 𝓣))
    ((y.0.0, y.0.1, tt, y.0.3, y.0.4), y.1)

-- What is read of the nodes of a run that is over, node by node.
use Rattle.std.proofs.Common.{◌≡◌, ◌∙◌, sym, ap, ap₂, refl, ◌+◌, ◌-◌, ◌<◌, Bool, true, if◌then◌else◌, ◌&&◌, ℕ, zero, suc, List, [], ◌++◌, append_assoc, zero-add, length, arith}
use Rattle.std.specs.Prelude.{not}
use Rattle.crl_model.specs.declared.blocked.Blocked.{Blocked}
use Rattle.crl_model.specs.declared.statement.Statement.{Statement}
use Rattle.crl_protocol.specs.Home.{is_empty}
use Rattle.crl_protocol.specs.World.{World, is_free}
use Rattle.crl_protocol.specs.Chosen.{Running}
use Rattle.crl_protocol.specs.Ends.{is_finished, all_finished, blocked_from, blocked_line, blocked_at, is_stuck}
use Rattle.crl_run.specs.PlayerState.{PlayerState}
use Rattle.crl_run.specs.Playing.{StandsFor}
use Rattle.crl_run.specs.Reporting.{running_seen}

pub finished_more : (whole : Bool) (i n : ℕ) (r : Running) → i < n → is_finished i r ≡ true → whole ≡ all_finished i (n - i) r → whole ≡ all_finished (i + 1) (n - (i + 1)) r
finished_more whole i n r lt done so_far =
    let next : n - i ≡ suc (n - (i + 1)) = omega arith in
    so_far ∙ ap (λ k. all_finished i k r) next ∙ ap (λ b. b && all_finished (i + 1) (n - (i + 1)) r) done

pub blocked_more : (list new whole : List Blocked) (i n : ℕ) (r : Running) → i < n → list ++ blocked_from i (n - i) r ≡ whole → new ≡ list ++ (if is_finished i r then [] else blocked_line (blocked_at i r.world)) → new ++ blocked_from (i + 1) (n - (i + 1)) r ≡ whole
blocked_more list new whole i n r lt so_far is =
    let next : suc (n - (i + 1)) ≡ n - i = omega arith in
    ap (λ l. l ++ blocked_from (i + 1) (n - (i + 1)) r) is ∙ append_assoc list (if is_finished i r then [] else blocked_line (blocked_at i r.world)) (blocked_from (i + 1) (n - (i + 1)) r)
    ∙ ap (λ k. list ++ blocked_from i k r) next ∙ so_far

-- what is seen of a run is the run's
module _ (capacity : ℕ) (blocks : List (List Statement)) (r : Running) (w : World) (players : List PlayerState) (stands : StandsFor capacity blocks r w players) (many : w.count ≡ length players) where
  abbrev seen : Running
  seen = running_seen blocks w players

  same_finished : (i : ℕ) → i < length players → is_finished i seen ≡ is_finished i r
  same_finished i lt = ap₂ (λ (x : World) l. is_free (x.nodes i).activity && is_empty l) stands.world (sym (stands.all i lt).actor.left)

  all_same : (i k : ℕ) → i + k ≡ length players → all_finished i k seen ≡ all_finished i k r
  all_same i zero e = refl
  all_same i (suc k) e = ap₂ (λ a b. a && b) (same_finished i (omega arith)) (all_same (i + 1) k (omega arith))

  counts : r.world.count ≡ w.count
  counts = ap (λ (x : World). x.count) (sym stands.world)

  pub stuck_same : is_stuck seen ≡ is_stuck r
  stuck_same = ap not (all_same 0 w.count (zero-add w.count ∙ many) ∙ ap (λ n. all_finished 0 n r) (sym counts))

  blocked_each : (i k : ℕ) → i + k ≡ length players → blocked_from i k seen ≡ blocked_from i k r
  blocked_each i zero e = refl
  blocked_each i (suc k) e =
      ap₂ (λ a b. a ++ b) (ap₂ (λ b (x : World). if b then [] else blocked_line (blocked_at i x)) (same_finished i (omega arith)) stands.world) (blocked_each (i + 1) k (omega arith))

  pub blocked_same : blocked_from 0 w.count seen ≡ blocked_from 0 r.world.count r
  blocked_same = blocked_each 0 w.count (zero-add w.count ∙ many) ∙ ap (λ n. blocked_from 0 n r) (sym counts)

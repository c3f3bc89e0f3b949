-- The report names one cause for each unfinished node.
use Rattle.std.proofs.Common.{◌≡◌, ℕ, zero, suc, ◌+◌, ◌<◌, Bool, true, false, not, List, [], ◌∷◌, ◌++◌, map, if◌then◌else◌, refl, ap, sym, ◌∙◌, subst, arith}
use Rattle.std.specs.List.{AllByRecursion}
use Rattle.std.proofs.lemmas.Bool.{and_parts, and_from}
use Rattle.std.proofs.lemmas.List.Elements.{All-from_recursion}
use Rattle.crl_model.specs.declared.blocked.Blocked.{Blocked}
use Rattle.crl_protocol.specs.Chosen.{Running}
use Rattle.crl_protocol.specs.Ends.{blocked_line, blocked_at, blocked_from, is_finished, all_finished, report}
use Rattle.crl_stuck.specs.Stuck.{stuck_node, IsCause, IsBlocked, EndsStuck, unfinished_from, unfinished, ReportNamesStuck}

-- the lines of the nodes from i on
record Named (end : Running) (i k : ℕ) : Type 0 where
  nodes : map stuck_node (blocked_from i k end) ≡ unfinished_from i k end
  causes : AllByRecursion (IsCause end.world) (blocked_from i k end)

named : (end : Running) (i k count : ℕ) → i + k ≡ count → ((j : ℕ) → j < count → is_finished j end ≡ false → IsBlocked end.world j) → Named end i k
named end i zero count e h = record { nodes = refl; causes = tt }
named end i (suc k) count e h = go (named end (i + 1) k count (omega arith) h) (is_finished i end) refl
  where
    line : Bool → List Blocked
    line b = (if b then [] else blocked_line (blocked_at i end.world)) ++ blocked_from (i + 1) k end

    number : Bool → List ℕ
    number b = (if b then [] else i ∷ []) ++ unfinished_from (i + 1) k end

    at_line : (b : Bool) → map stuck_node (line b) ≡ number b → AllByRecursion (IsCause end.world) (line b) → is_finished i end ≡ b → Named end i (suc k)
    at_line b n c x = record {
      nodes = ap (λ y. map stuck_node (line y)) x ∙ (n ∙ sym (ap number x));
      causes = subst (λ y. AllByRecursion (IsCause end.world) (line y)) (sym x) c;
    }

    go : Named end (i + 1) k → (b : Bool) → is_finished i end ≡ b → Named end i (suc k)
    go rest true x = at_line true rest.nodes rest.causes x
    go rest false x =
        let b = h i (omega arith) x in
        let one : line false ≡ b.cause ∷ blocked_from (i + 1) k end = ap (λ o. blocked_line o ++ blocked_from (i + 1) k end) b.named in
        at_line false (ap (map stuck_node) one ∙ (ap (λ j. j ∷ map stuck_node (blocked_from (i + 1) k end)) b.own ∙ ap (λ l. i ∷ l) rest.nodes))
        (subst (AllByRecursion (IsCause end.world)) (sym one) (b.stands, rest.causes)) x

-- all finished
finished_parts : (end : Running) (i k : ℕ) → all_finished i k end ≡ true → unfinished_from i k end ≡ []
finished_parts end i zero e = refl
finished_parts end i (suc k) e =
    let parts = and_parts (is_finished i end) (all_finished (i + 1) k end) e in
    ap (λ b. (if b then [] else i ∷ []) ++ unfinished_from (i + 1) k end) parts.0 ∙ finished_parts end (i + 1) k parts.1

all_finish : (end : Running) (i k count : ℕ) → i + k ≡ count → ((j : ℕ) → j < count → is_finished j end ≡ true) → all_finished i k end ≡ true
all_finish end i zero count e h = refl
all_finish end i (suc k) count e h = and_from _ _ (h i (omega arith)) (all_finish end (i + 1) k count (omega arith) h)

pub names_stuck : (end : Running) → EndsStuck end → ReportNamesStuck end
names_stuck end h = record {
  nodes = (go (all_finished 0 end.world.count end) refl).0;
  causes = All-from_recursion (IsCause end.world) (report end).blocked (go (all_finished 0 end.world.count end) refl).1;
  none = λ f. shown true (all_finish end 0 end.world.count end.world.count (omega arith) f);
}
  where
    lines : List Blocked
    lines = blocked_from 0 end.world.count end

    shown : (b : Bool) → all_finished 0 end.world.count end ≡ b → (report end).blocked ≡ (if not b then lines else [])
    shown b x = ap (λ y. if not y then lines else []) x

    all : Named end 0 end.world.count
    all = named end 0 end.world.count end.world.count (omega arith) (λ j l f. let a = h.waits j l f in h.waiters.blocked j a.0 l a.1)

    go : (b : Bool) → all_finished 0 end.world.count end ≡ b → (map stuck_node (report end).blocked ≡ unfinished end) × AllByRecursion (IsCause end.world) (report end).blocked
    go true x = (ap (map stuck_node) (shown true x) ∙ sym (finished_parts end 0 end.world.count x), subst (AllByRecursion (IsCause end.world)) (sym (shown true x)) tt)
    go false x = (ap (map stuck_node) (shown false x) ∙ all.nodes, subst (AllByRecursion (IsCause end.world)) (sym (shown false x)) all.causes)

-- The least node of which a test holds.
use Rattle.std.proofs.Common.{◌≡◌, ℕ, zero, suc, ◌+◌, ◌<◌, ◌≤◌, Bool, true, false, Some, refl, sym, ◌∙◌, subst, arith}
use Rattle.std.proofs.Math.Logic.{◌⊎◌, inl, inr}
use Rattle.std.proofs.lemmas.Bool.{cases_eq, cond-true, cond-false}
use Rattle.crl_protocol.specs.Node.{Node}
use Rattle.crl_protocol.specs.World.{World}
use Rattle.crl_protocol.specs.Ends.{least_node_from}

pub record Least (test : ℕ → Node → Bool) (a k : ℕ) (nodes : ℕ → Node) : Type 0 where
  pub node : ℕ
  pub found : least_node_from test a k nodes ≡ Some node
  pub above : a ≤ node
  pub below : node < a + k
  pub holds : test node (nodes node) ≡ true
  pub lesser : (m : ℕ) → a ≤ m → m < node → test m (nodes m) ≡ false

least_from : (test : ℕ → Node → Bool) (a k : ℕ) (nodes : ℕ → Node) (j : ℕ) → a ≤ j → j < a + k → test j (nodes j) ≡ true → Least test a k nodes
least_from test a zero nodes j l h e = absurd (omega arith)
least_from test a (suc k) nodes j l h e = go (test a (nodes a)) refl (λ lower. least_from test (a + 1) k nodes j lower (omega arith) e)
  where
    here : (c : Bool) → test a (nodes a) ≡ c → (m : ℕ) → a ≤ m → (a ≡ m) ⊎ (a ≡ m → ⊥) → c ≡ false → ((a + 1 ≤ m) → test m (nodes m) ≡ false) → test m (nodes m) ≡ false
    here c f m g (inl same) z rest = subst (λ x. test x (nodes x) ≡ false) same (f ∙ z)
    here c f m g (inr other) z rest = rest (omega arith)

    go : (c : Bool) → test a (nodes a) ≡ c → (a + 1 ≤ j → Least test (a + 1) k nodes) → Least test a (suc k) nodes
    go true f later = record { node = a; found = cond-true (test a (nodes a)) _ _ f; above = omega arith; below = omega arith; holds = f; lesser = λ m g s. absurd (omega arith) }
    go false f later =
        let apart : a ≡ j → ⊥ = (λ same. let t = subst (λ x. test x (nodes x) ≡ true) (sym same) e in let u = sym f ∙ t in cc) in
        let rest = later (omega arith) in
        let g = rest.above in let s = rest.below in
        record {
          node = rest.node;
          found = cond-false (test a (nodes a)) _ _ f ∙ rest.found;
          above = omega arith;
          below = omega arith;
          holds = rest.holds;
          lesser = λ m g s. here false f m g (cases_eq a m) refl (λ b. rest.lesser m b s);
        }

pub least_is : (test : ℕ → Node → Bool) (w : World) (j : ℕ) → j < w.count → test j (w.nodes j) ≡ true → Least test 0 w.count w.nodes
least_is test w j h e = least_from test 0 w.count w.nodes j (omega arith) (omega arith) e

-- Bits of numbers, as members of sets.
use Rattle.std.proofs.Common.{◌≡◌, ◌≢◌, ℕ, zero, suc, ◌+◌, ◌*◌, ◌/◌, ◌%◌, ◌^◌, ◌<◌, ◌≤◌, Bool, true, false, ◌==◌, [], ◌∷◌, refl, sym, ap, subst, ◌∙◌, arith, bit_or}
use Rattle.std.specs.Prelude.{bit_xor, IsTrue}
use Rattle.std.specs.Int.{bit_at}
use Rattle.std.proofs.lemmas.Bool.{cond-true, cond-false, eqb-true, eqb-false, eq-eqb}
use Rattle.std.proofs.Math.Nat.{pow-succ'}
use Rattle.std.proofs.lemmas.Nat.{one_shl, or_lt, xor_lt, pow_below, shr-shr}
use Rattle.std.proofs.lemmas.Nat.Bits.{bit_at-zero, bit_at-lt, bit_at-pow_same, bit_at-pow_other, bit_at_or, bit_at_xor, bit_at_above}
use Rattle.crl_model.specs.Names.{at_node}
use Rattle.crl_protocol.specs.Lifetimes.{nobody, members_from, members}
use Rattle.crl_stages.specs.NodeSets.{has_node}
use Rattle.crl_stages.proofs.Nodes.{is_at_node}

pub nobody_there : has_node 0 ≡ nobody
nobody_there = λ i n. ap (λ b. b == 1) (bit_at-zero n) i

-- one node more or less, where only its bit changes
changed : (a b n : ℕ) (v : Bool) → has_node b n ≡ v → ((i : ℕ) → i ≢ n → bit_at b i ≡ bit_at a i) → has_node b ≡ at_node (has_node a) n v
changed a b n v here others = is_at_node (has_node a) (has_node b) n v here (λ i w. ap (λ x. x == 1) (others i w))

one_bit : (n : ℕ) → n < 64 → 1 * 2 ^ n % 2 ^ 64 ≡ 2 ^ n
one_bit n h = one_shl n 64 h

put_same : (a n : ℕ) → bit_at (bit_or a (2 ^ n)) n ≡ 1
put_same a n = let x = bit_at_or a (2 ^ n) n in let y = bit_at-pow_same n in let z = bit_at-lt a n in omega arith

put_other : (a n i : ℕ) → i ≢ n → bit_at (bit_or a (2 ^ n)) i ≡ bit_at a i
put_other a n i h = let x = bit_at_or a (2 ^ n) i in let y = bit_at-pow_other n i h in omega arith

removed_same : (a n : ℕ) → bit_at a n ≡ 1 → bit_at (bit_xor a (2 ^ n)) n ≡ 0
removed_same a n h = let x = bit_at_xor a (2 ^ n) n in let y = bit_at-pow_same n in omega arith

removed_other : (a n i : ℕ) → i ≢ n → bit_at (bit_xor a (2 ^ n)) i ≡ bit_at a i
removed_other a n i h = let x = bit_at_xor a (2 ^ n) i in let y = bit_at-pow_other n i h in let z = bit_at-lt a i in omega arith

pub members_put : (a n : ℕ) → n < 64 → has_node (bit_or a (1 * 2 ^ n % 2 ^ 64)) ≡ at_node (has_node a) n true
members_put a n h = subst (λ m. has_node (bit_or a m) ≡ at_node (has_node a) n true) (sym (one_bit n h))
    (changed a (bit_or a (2 ^ n)) n true (eq-eqb _ 1 (put_same a n)) (put_other a n))

pub below_put : (a n : ℕ) → n < 64 → (nodes : ℕ) → n < nodes → a < 2 ^ nodes → bit_or a (1 * 2 ^ n % 2 ^ 64) < 2 ^ nodes
below_put a n h nodes k l = or_lt nodes a (1 * 2 ^ n % 2 ^ 64) l (subst (λ m. m < 2 ^ nodes) (sym (one_bit n h)) (pow_below n nodes k))

pub members_removed : (a n : ℕ) → n < 64 → IsTrue (has_node a n) → has_node (bit_xor a (1 * 2 ^ n % 2 ^ 64)) ≡ at_node (has_node a) n false
members_removed a n h there = subst (λ m. has_node (bit_xor a m) ≡ at_node (has_node a) n false) (sym (one_bit n h))
    (changed a (bit_xor a (2 ^ n)) n false (ap (λ b. b == 1) (removed_same a n (eqb-true (bit_at a n) 1 there))) (removed_other a n))

pub below_removed : (a n : ℕ) → n < 64 → (nodes : ℕ) → n < nodes → a < 2 ^ nodes → bit_xor a (1 * 2 ^ n % 2 ^ 64) < 2 ^ nodes
below_removed a n h nodes k l = xor_lt nodes a (1 * 2 ^ n % 2 ^ 64) l (subst (λ m. m < 2 ^ nodes) (sym (one_bit n h)) (pow_below n nodes k))

-- a number without bits is 0
odd_or_even : (set m : ℕ) → has_node set m ≡ false → set / 2 ^ m % 2 ≡ 0
odd_or_even set m e = let x = bit_at-lt set m in let y = eqb-false (bit_at set m) 1 e in omega arith

halved : (q p : ℕ) → q < 2 * p → q / 2 < p
halved q p h = omega arith

no_half : (q : ℕ) → q / 2 ≡ 0 → q % 2 ≡ 0 → q ≡ 0
no_half q h e = omega arith

none_from : (set m k : ℕ) → members_from m k (has_node set) ≡ [] → set / 2 ^ m < 2 ^ k → set / 2 ^ m ≡ 0
none_from set m zero e h = omega arith
none_from set m (suc k) e h = go (has_node set m) refl (none_from set (m + 1) k)
  where
    go : (b : Bool) → has_node set m ≡ b → (members_from (m + 1) k (has_node set) ≡ [] → set / 2 ^ (m + 1) < 2 ^ k → set / 2 ^ (m + 1) ≡ 0) → set / 2 ^ m ≡ 0
    go true x next = let f : m ∷ members_from (m + 1) k (has_node set) ≡ [] = sym (cond-true (has_node set m) _ _ x) ∙ e in cc
    go false x next =
        let f : members_from (m + 1) k (has_node set) ≡ [] = sym (cond-false (has_node set m) _ _ x) ∙ e in
        let half : set / 2 ^ m / 2 ≡ set / 2 ^ (m + 1) = shr-shr set m 1 in
        let even : set / 2 ^ m % 2 ≡ 0 = odd_or_even set m x in
        let less : set / 2 ^ (m + 1) < 2 ^ k = subst (λ q. q < 2 ^ k) half (halved (set / 2 ^ m) (2 ^ k) (subst (λ q. set / 2 ^ m < q) (pow-succ' 2 k) h)) in
        let rest : set / 2 ^ (m + 1) ≡ 0 = next f less in
        no_half (set / 2 ^ m) (half ∙ rest) even

pub no_bits : (nodes set : ℕ) → members nodes (has_node set) ≡ [] → set < 2 ^ nodes → set ≡ 0
no_bits nodes set e h = let x = none_from set 0 nodes e (omega arith) in omega arith

nobody_from : (m k : ℕ) → members_from m k nobody ≡ []
nobody_from m zero = refl
nobody_from m (suc k) = nobody_from (m + 1) k

pub no_members : (nodes : ℕ) → members nodes (has_node 0) ≡ []
no_members nodes = ap (members nodes) nobody_there ∙ nobody_from 0 nodes

-- a member is one of the nodes
pub member_below : (nodes set n : ℕ) → set < 2 ^ nodes → has_node set n ≡ true → n < nodes
member_below nodes set n h e =
    let one : bit_at set n ≡ 1 = eqb-true (bit_at set n) 1 e in
    let past : nodes ≤ n → bit_at set n ≡ 0 = bit_at_above set nodes n h in
    grind (arith, past, one)

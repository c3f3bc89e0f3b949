-- What all regions of a home owe, and what stays true of their tables.
use Rattle.std.proofs.Common.{◌≡◌, ℕ, zero, suc, ◌+◌, ◌<◌, List, [], ◌∷◌, ◌++◌, refl, arith, ap, length, replicate}
use Rattle.std.proofs.lemmas.List.{length-replicate}
use Rattle.std.specs.Prelude.{IsSome}
use Rattle.std.specs.declared.option.Option.{Option}
use Rattle.std.specs.declared.option.Option.TheVariants.{None, Some}
use Rattle.crl_protocol.specs.Places.{at}
use Rattle.crl_protocol.specs.Home.{Home, new_home}
use Rattle.crl_home.specs.Debts.{owed, owed_to_copies}
use Rattle.crl_home.specs.HomesState.{owed_in, owed_of, HasNodes, HaveNodes}
use Rattle.crl_home.specs.Keeping.{TakeKeeps, PutKeeps}

take_place : (n nodes : ℕ) (x : Option Home) (hs : List (Option Home)) → TakeKeeps n nodes hs → HasNodes nodes x → TakeKeeps (suc n) nodes (x ∷ hs)
take_place n nodes x hs k h = record {
  owes = let o = k.owes in omega (arith, o);
  copies = (h, k.copies);
  table = k.table;
  len = ap suc k.len;
  within = let p = k.within in omega (arith, p);
  gone = k.gone;
}

pub take_keeps : (n nodes : ℕ) (hs : List (Option Home)) → IsSome (at n hs) → HaveNodes nodes hs → TakeKeeps n nodes hs
take_keeps n nodes [] i h = grind arith
take_keeps zero nodes (None ∷ hs) i h = grind arith
take_keeps zero nodes (Some t ∷ hs) i h = record { owes = omega arith; copies = (_, h.1); table = h.0; len = refl; within = omega arith; gone = refl }
take_keeps (suc n) nodes (x ∷ hs) i h = take_place n nodes x hs (take_keeps n nodes hs i h.1) h.0

put_place : (n nodes : ℕ) (home : Home) (x : Option Home) (hs : List (Option Home)) → PutKeeps n nodes home hs → HasNodes nodes x → PutKeeps (suc n) nodes home (x ∷ hs)
put_place n nodes home x hs k h = record {
  owes = let o = k.owes in omega (arith, o);
  copies = (h, k.copies);
  len = ap suc k.len;
}

pub put_keeps : (n nodes : ℕ) (home : Home) (hs : List (Option Home)) → n < length hs → at n hs ≡ None → HaveNodes nodes hs → length home.listed ≡ nodes → PutKeeps n nodes home hs
put_keeps n nodes home [] i e h l = grind arith
put_keeps zero nodes home (None ∷ hs) i e h l = record { owes = omega arith; copies = (l, h.1); len = refl }
put_keeps zero nodes home (Some t ∷ hs) i e h l = grind arith
put_keeps (suc n) nodes home (x ∷ hs) i e h l = put_place n nodes home x hs (put_keeps n nodes home hs (omega arith) e h.1 l) h.0

pub owed_push : (h : Option Home) (hs : List (Option Home)) → owed_in (hs ++ h ∷ []) ≡ owed_in hs + owed_of h
owed_push h [] = omega arith
owed_push h (x ∷ hs) = let i = owed_push h hs in omega (arith, i)

pub nodes_push : (nodes : ℕ) (h : Option Home) (hs : List (Option Home)) → HaveNodes nodes hs → HasNodes nodes h → HaveNodes nodes (hs ++ h ∷ [])
nodes_push nodes h [] k n = (n, _)
nodes_push nodes h (x ∷ hs) k n = (k.0, nodes_push nodes h hs k.1 n)

none_owed : (n : ℕ) → owed_to_copies (replicate n None) ≡ 0
none_owed zero = refl
none_owed (suc n) = let i = none_owed n in omega (arith, i)

-- a new region owes nothing, and has a place for a copy of each node
pub new_owes : (h : Home) (nodes size : ℕ) → h ≡ new_home nodes size → owed h ≡ 0
new_owes h nodes size e = let i = none_owed nodes in rw e (omega (arith, i))

pub new_nodes : (h : Home) (nodes size : ℕ) → h ≡ new_home nodes size → length h.listed ≡ nodes
new_nodes h nodes size e = rw e (length-replicate nodes None)

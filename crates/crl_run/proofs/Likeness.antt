-- Guards that are those that were given.
use Rattle.std.proofs.Common.{◌≡◌, ◌∙◌, sym, ap, refl, Bool, true, false, if◌then◌else◌, Option, Some, None, ℕ, List, [], ◌∷◌, ◌++◌, length, subst}
use Rattle.crl_model.specs.declared.name.Name.{Name}
use Rattle.crl_model.specs.Names.{name_eq}
use Rattle.crl_model.proofs.Laws.{same_name}
use Rattle.crl_protocol.specs.Node.{Answer, Reading, Writing}
use Rattle.crl_protocol.specs.Talk.{Heard}
use Rattle.crl_talk.specs.Guards.{Given, given_of, without_newest, held_after, guards_held}
use Rattle.crl_run.specs.Holding.{with_bytes_in}
use Rattle.crl_run.specs.Players.{newest, guards_given, guards_without, guards_with}
use Rattle.crl_run.specs.Actors.{guards_of}
use Rattle.crl_run.specs.Hearing.{IsLike, AreLike}

pub like_self : (g : Given) → IsLike g g
like_self g = record { write = refl; node = refl; name = refl; number = refl; size = refl; read = λ w. refl }

pub all_like_self : (gs : List Given) → AreLike gs gs
all_like_self [] = tt
all_like_self (g ∷ gs) = (like_self g, all_like_self gs)

pub like_join : (ls bs cs ds : List Given) → AreLike ls bs → AreLike cs ds → AreLike (ls ++ cs) (bs ++ ds)
like_join [] [] cs ds h k = k
like_join (a ∷ ls) (b ∷ bs) cs ds h k = (h.0, like_join ls bs cs ds h.1 k)
like_join [] (b ∷ bs) cs ds h k = absurd h
like_join (a ∷ ls) [] cs ds h k = absurd h

pub like_rest : (gs hs : List Given) → AreLike gs hs → AreLike (without_newest gs) (without_newest hs)
like_rest [] [] h = tt
like_rest (g ∷ gs) (x ∷ hs) h = h.1
like_rest [] (x ∷ hs) h = absurd h
like_rest (g ∷ gs) [] h = absurd h

-- What an answer gives, of one region.
pub given_here : (q : Name) (answer : Answer) → guards_of q (guards_given answer) ≡ given_of q answer
given_here q (Reading guard) = refl
given_here q (Writing guard) = refl
given_here q _ = refl

pub guards_join : (q : Name) (xs ys : List Given) → guards_of q (xs ++ ys) ≡ guards_of q xs ++ guards_of q ys
guards_join q [] ys = refl
guards_join q (x ∷ xs) ys = go (name_eq x.guard.name q) (guards_join q xs ys)
  where
    go : (b : Bool) → guards_of q (xs ++ ys) ≡ guards_of q xs ++ guards_of q ys
        → (if b then x ∷ guards_of q (xs ++ ys) else guards_of q (xs ++ ys)) ≡ (if b then x ∷ guards_of q xs else guards_of q xs) ++ guards_of q ys
    go true more = ap (λ gs. x ∷ gs) more
    go false more = more

-- the newest of a region's guards
abbrev pub first_of : List Given → Option Given
first_of [] = None
first_of (g ∷ gs) = Some g

pub newest_first : (q : Name) (gs : List Given) → newest q gs ≡ first_of (guards_of q gs)
newest_first q [] = refl
newest_first q (g ∷ gs) = go (name_eq g.guard.name q) (newest_first q gs)
  where
    go : (b : Bool) → newest q gs ≡ first_of (guards_of q gs) → (if b then Some g else newest q gs) ≡ first_of (if b then g ∷ guards_of q gs else guards_of q gs)
    go true more = refl
    go false more = more

-- Without the newest of a region.
own : (p : Name) (xs : List Given) → guards_of p (guards_without p xs) ≡ without_newest (guards_of p xs)
own p [] = refl
own p (x ∷ xs) = over (name_eq x.guard.name p) refl (own p xs)
  where
    over : (b : Bool) → name_eq x.guard.name p ≡ b → guards_of p (guards_without p xs) ≡ without_newest (guards_of p xs)
        → guards_of p (if b then xs else x ∷ guards_without p xs) ≡ without_newest (if b then x ∷ guards_of p xs else guards_of p xs)
    over true w more = refl
    over false w more = rw w more

module _ (name : Name) where
  without_there : (q : Name) → name_eq name q ≡ false → (gs : List Given) → guards_of q (guards_without name gs) ≡ guards_of q gs
  without_there q other [] = refl
  without_there q other (g ∷ gs) = go (name_eq g.guard.name name) refl (without_there q other gs)
    where
      go : (b : Bool) → name_eq g.guard.name name ≡ b → guards_of q (guards_without name gs) ≡ guards_of q gs → guards_of q (if b then gs else g ∷ guards_without name gs) ≡ guards_of q (g ∷ gs)
      go true e more = (let skip : name_eq g.guard.name q ≡ false = subst (λ x. name_eq x q ≡ false) (sym (same_name g.guard.name name e)) other in rw skip refl)
      go false e more = ap (λ xs. if name_eq g.guard.name q then g ∷ xs else xs) more

  pub without_of : (q : Name) (gs : List Given) → guards_of q (guards_without name gs) ≡ (if name_eq name q then without_newest (guards_of q gs) else guards_of q gs)
  without_of q gs = go (name_eq name q) refl
    where
      go : (b : Bool) → name_eq name q ≡ b → guards_of q (guards_without name gs) ≡ (if b then without_newest (guards_of q gs) else guards_of q gs)
      go true e = subst (λ (p : Name). guards_of q (guards_without p gs) ≡ without_newest (guards_of q gs)) (sym (same_name name q e)) (own q gs)
      go false e = without_there q e gs

-- With other bytes, as many, in the newest of a region, which is of a write section.
abbrev pub KeepsSize : (List ℕ → List ℕ) → Option Given → Type 0
KeepsSize f None = Unit {0}
KeepsSize f (Some g) = (g.write ≡ true) × (length (f g.guard.bytes) ≡ length g.guard.bytes)

changed_like : (f : List ℕ → List ℕ) (g : Given) → KeepsSize f (Some g) → IsLike (with_bytes_in g (f g.guard.bytes)) g
changed_like f g k = record { write = refl; node = refl; name = refl; number = refl; size = k.1; read = λ w. cc (k.0, w) }

pub with_of : (name : Name) (f : List ℕ → List ℕ) (q : Name) (gs : List Given) → KeepsSize f (newest name gs) → AreLike (guards_of q (guards_with name f gs)) (guards_of q gs)
with_of name f q [] k = tt
with_of name f q (g ∷ gs) k = go (name_eq g.guard.name name) k (with_of name f q gs)
  where
    both : (b : Bool) (x : Given) (xs ys : List Given) → IsLike x g → AreLike xs ys → AreLike (if b then x ∷ xs else xs) (if b then g ∷ ys else ys)
    both true x xs ys h k = (h, k)
    both false x xs ys h k = k

    go : (b : Bool) → KeepsSize f (if b then Some g else newest name gs) → (KeepsSize f (newest name gs) → AreLike (guards_of q (guards_with name f gs)) (guards_of q gs))
        → AreLike (guards_of q (if b then with_bytes_in g (f g.guard.bytes) ∷ gs else g ∷ guards_with name f gs)) (guards_of q (g ∷ gs))
    go true k more = both (name_eq g.guard.name q) (with_bytes_in g (f g.guard.bytes)) (guards_of q gs) (guards_of q gs) (changed_like f g k) (all_like_self (guards_of q gs))
    go false k more = both (name_eq g.guard.name q) g (guards_of q (guards_with name f gs)) (guards_of q gs) (like_self g) (more k)

pub like_chain : (ls bs cs : List Given) → AreLike ls bs → AreLike bs cs → AreLike ls cs
like_chain [] [] [] h k = tt
like_chain (a ∷ ls) (b ∷ bs) (c ∷ cs) h k = (joined a b c h.0 k.0, like_chain ls bs cs h.1 k.1)
  where
    joined : (a b c : Given) → IsLike a b → IsLike b c → IsLike a c
    joined a b c h k = record {
      write = h.write ∙ k.write;
      node = h.node ∙ k.node;
      name = h.name ∙ k.name;
      number = h.number ∙ k.number;
      size = h.size ∙ k.size;
      read = λ w. h.read w ∙ k.read (sym h.write ∙ w);
    }
like_chain [] (b ∷ bs) cs h k = absurd h
like_chain (a ∷ ls) [] cs h k = absurd h
like_chain [] [] (c ∷ cs) h k = absurd k
like_chain (a ∷ ls) (b ∷ bs) [] h k = absurd k

-- One thing more is heard.
pub held_more : (q : Name) (gs : List Given) (heard : List Heard) (h : Heard) → guards_held q gs (heard ++ h ∷ []) ≡ held_after q h (guards_held q gs heard)
held_more q gs [] h = refl
held_more q gs (x ∷ heard) h = held_more q (held_after q x gs) heard h

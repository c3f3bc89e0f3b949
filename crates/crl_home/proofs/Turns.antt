-- One turn of the service of a queue.
use Rattle.std.proofs.Common.{◌||◌, Some, ◌≡◌, ℕ, ◌+◌, List, [], ◌∷◌, Bool, true, false, refl, arith, length}
use Rattle.crl_model.specs.declared.directory.Asked.{Asked}
use Rattle.crl_protocol.specs.Home.{Home, serve, is_servable, open_own, grant_next, grant_for, posts_first, opens_own_section}
use Rattle.crl_home.specs.Starts.{IsHead, head_of, behind_head}

-- Serve doesn't read the queue of the table, but the one that it is given
pub serve_queue : (me : ℕ) (h : Home) (q r : List Asked) → serve me (record h { queue = r }) q ≡ serve me h q
serve_queue me h [] r = refl
serve_queue me h (a ∷ q) r = rw (serve_queue me (open_own h a) q r, serve_queue me (grant_next h a) q r) refl

pub own_turn : (me : ℕ) (h : Home) (a : Asked) (q : List Asked) → IsHead a q → is_servable h a ≡ true → a.node ≡ me → serve me h q ≡ opens_own_section (serve me (record (open_own h a) { queue = behind_head q }) (behind_head q))
own_turn me h a [] i s e = elim i [ ]
own_turn me h a (x ∷ q) i s e = rw (serve_queue me (open_own h a) q q) (grind arith)

pub grant_turn : (me : ℕ) (h : Home) (a : Asked) (q : List Asked) → IsHead a q → is_servable h a ≡ true → (a.node ≡ me → ⊥) → serve me h q ≡ posts_first (grant_for h a) (serve me (record (grant_next h a) { queue = behind_head q }) (behind_head q))
grant_turn me h a [] i s e = elim i [ ]
grant_turn me h a (x ∷ q) i s e = rw (serve_queue me (grant_next h a) q q) (grind arith)

pub first_head : (a : Asked) (q : List Asked) → Some a ≡ head_of q → IsHead a q
first_head a [] e = grind arith
first_head a (x ∷ q) e = cc

pub one_fewer : (a : Asked) (q : List Asked) → IsHead a q → length q ≡ length (behind_head q) + 1
one_fewer a [] i = elim i [ ]
one_fewer a (x ∷ q) i = omega arith

pub or_true : (b : Bool) → (b || true) ≡ true
or_true true = refl
or_true false = refl

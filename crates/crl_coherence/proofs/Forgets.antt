-- A name that is forgotten: its copy goes back, and what is left says no more than a blank record.
use Rattle.std.proofs.Common.{◌≡◌, ◌≢◌, ℕ, ◌==◌, Bool, true, false, if◌then◌else◌, List, refl, arith, subst, sym}
use Rattle.std.specs.declared.option.Option.{Option}
use Rattle.std.specs.declared.option.Option.TheVariants.{None, Some}
use Rattle.crl_model.specs.declared.directory.Listing.{Listing}
use Rattle.crl_model.specs.declared.directory.Section.TheVariants.{Closed}
use Rattle.crl_model.specs.Names.{at_node}
use Rattle.crl_protocol.specs.Remote.{Copy, Remote, new_remote, remote_flushes, flushes_over}
use Rattle.crl_coherence.specs.Region.{Region, at_remote, IsBlank}
use Rattle.crl_coherence.specs.Pairs.{HomeAndNode, PairHolds, LeavingFits, GivenFits, pair_of}
use Rattle.crl_coherence.specs.Coherent.{IsCoherent}
use Rattle.crl_coherence.proofs.RemoteEvents.{flush_event, appears_event}

-- nothing leaves and nothing is lowered where no section is open
unmarked : (o : Option Listing) (r : Remote) → r.here ≡ Closed → LeavingFits o r → (r.leaving ≡ false) × (r.lowering ≡ false)
unmarked None r closed h = h
unmarked (Some l) r closed h = (grind arith, grind arith)

blank_after : (last : ℕ) (array : List ℕ) (p : HomeAndNode) → p.remote.here ≡ Closed → p.remote.asking ≡ None → PairHolds last array p → IsBlank (remote_flushes p.remote).remote
unfolding remote_flushes
blank_after last array p closed free h = go p.remote.copy refl h.given
  where
    marks : (p.remote.leaving ≡ false) × (p.remote.lowering ≡ false)
    marks = unmarked p.listed p.remote closed h.leaving

    due : p.remote.due ≡ None
    due = h.idle free

    go : (o : Option Copy) → p.remote.copy ≡ o → GivenFits o p.remote.given → IsBlank (flushes_over o p.remote).remote
    go None copy given = λ i. record { size = p.remote.size; copy = copy i; given = given i; here = closed i; leaving = marks.0 i; lowering = marks.1 i; asking = free i; due = due i }
    go (Some c) copy given = λ i. record { size = p.remote.size; copy = None; given = false; here = closed i; leaving = false; lowering = false; asking = free i; due = due i }

-- of two records put at a node the second stands
twice : (b : Bool) (x y r : Remote) → (if b then y else (if b then x else r)) ≡ (if b then y else r)
twice true x y r = refl
twice false x y r = refl

put_twice : (f : ℕ → Remote) (n : ℕ) (x y : Remote) → at_node (at_node f n x) n y ≡ at_node f n y
put_twice f n x y = λ i m. twice (n == m) x y (f m) i

here_put : (f : ℕ → Remote) (n : ℕ) (x : Remote) → at_node f n x n ≡ x
here_put f n x = grind arith

pub forget_event : (me : ℕ) (g : Region) (n size : ℕ) → n ≢ me → (g.remotes n).here ≡ Closed → (g.remotes n).asking ≡ None → IsCoherent me g
    → IsCoherent me (record (at_remote n (remote_flushes (g.remotes n)) g.flight g) { remotes = at_node g.remotes n (new_remote size) })
forget_event me g n size other closed free k =
    let f : Region = at_remote n (remote_flushes (g.remotes n)) g.flight g in
    let blank : IsBlank (remote_flushes (g.remotes n)).remote = blank_after g.home.last g.array (pair_of g.home.listed g.home.queue g.remotes g.flight n) closed free (k.loose.pairs n other) in
    let here : IsBlank (f.remotes n) = subst IsBlank (sym (here_put g.remotes n (remote_flushes (g.remotes n)).remote)) blank in
    subst (λ x. IsCoherent me (record f { remotes = x })) (put_twice g.remotes n (remote_flushes (g.remotes n)).remote (new_remote size))
    (appears_event me f n size other here (flush_event me g n other closed free k))

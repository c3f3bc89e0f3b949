-- Events at a node that isn't the home keep what holds of the two: a yield and a grant that come.
use Rattle.std.proofs.Common.{ℕ, List, [], ◌∷◌, Bool, true, false, ◌&&◌, ◌≡◌, ◌≢◌, ◌==◌, ◌≤◌, ◌⊎◌, refl, arith, inl, inr, append-nil}
use Rattle.std.specs.declared.option.Option.{Option}
use Rattle.std.specs.declared.option.Option.TheVariants.{None, Some}
use Rattle.crl_model.specs.declared.directory.Section.{Section}
use Rattle.crl_model.specs.declared.directory.Section.TheVariants.{Closed, Reading, Writing}
use Rattle.crl_model.specs.declared.directory.Listing.{Listing}
use Rattle.crl_protocol.specs.Places.{Took}
use Rattle.crl_protocol.specs.Remote.{Copy, Remote, lowers, yield_in, yield_over, remote_takes_yield, remote_takes_grant}
use Rattle.crl_coherence.specs.Pairs.{In, Given, HomeAndNode, PairHolds, Places, SectionFits, RecallFits, StandsFreed, limit}
use Rattle.crl_coherence.proofs.Remote.{moved, took_in, took_self, took_other, freed_moves, quiet_moved, release_moved}
use Rattle.crl_coherence.proofs.RemoteLowers.{once_took, lower_kept}

-- the pair after a yield of version v is taken out and handled
abbrev pub yielded : ℕ → ℕ → List ℕ → HomeAndNode → HomeAndNode
yielded n v rest p = moved n (remote_takes_yield v p.remote) (record p { yields = rest })

-- a yield that lowers nothing
abbrev noted : ℕ → List ℕ → HomeAndNode → HomeAndNode
noted v rest p = record p { yields = rest; remote = (yield_over v p.remote.copy p.remote).remote }

noted_kept : (last v : ℕ) (array : List ℕ) (p : HomeAndNode) (rest : List ℕ) → Took v p.yields rest → (yield_over v p.remote.copy p.remote).posts ≡ [] → PairHolds last array p → PairHolds last array (noted v rest p)
noted_kept last v array p rest took none h =
    record {
      places = let k = i in grind arith;
      kind = let k = i in grind arith;
      older = grind arith;
      ask = grind arith;
      section = grind arith;
      due_limit = let k = j in grind arith;
      recall_limit = h.recall_limit;
      yield_limit = λ w k. h.yield_limit w (took_in w took k);
      release_limit = h.release_limit;
      recall = go p.listed refl h.recall;
      once = (once_took took h.once).0;
      distinct = h.distinct;
      idle = grind arith;
      due = grind arith;
      leaving = let k = i in grind arith;
      given = grind arith;
      have = let k = i in grind arith;
      asks_size = grind arith;
      sized = h.sized;
    }
  where
    i : In v p.yields
    i = took_self took

    j : v ≤ limit last p.listed
    j = h.yield_limit v i

    moves : (l : Listing) → p.listed ≡ Some l → StandsFreed array l.version p.remote.copy p.remote.given p.returns → StandsFreed array l.version (noted v rest p).remote.copy (noted v rest p).remote.given p.returns
    moves = λ l e s. grind arith

    go : (o : Option Listing) → p.listed ≡ o → RecallFits last array o p.recalls p.yields p.returns p.releases p.remote
        → RecallFits last array o p.recalls rest p.returns p.releases (noted v rest p).remote
    go None e m = tt
    go (Some l) e m = record {
      least = m.least;
      most = m.most;
      unrecalled = λ n. (let ii = i in let jj = j in grind arith, (m.unrecalled n).1);
      unyielding = λ n. (let ii = i in let jj = j in grind arith, λ k. (m.unyielding n).1 (took_in l.version took k));
      recalled = λ n. let ii = i in let jj = j in grind arith;
      yielding = λ n. let ii = i in let jj = j in grind (arith, took_other);
      released = λ n. let ii = i in let jj = j in let o = once_took took h.once in let f = took_in l.version took in grind arith;
      came = λ n. let ii = i in let jj = j in let o = once_took took h.once in let f = took_in l.version took in grind arith;
      freed = freed_moves array l p.remote.copy (noted v rest p).remote.copy p.remote.given (noted v rest p).remote.given p.returns p.returns p.releases (moves l e) m.freed;
    }

-- a yield finds the exclusive copy of its version, with no write section open
abbrev pub Lowers : ℕ → Remote → Type 0
Lowers v r = (c : Copy) × (r.copy ≡ Some c) × (c.exclusive ≡ true) × (c.version ≡ v) × (r.here ≢ Writing) × (yield_over v r.copy r ≡ lowers c r)

in_section : (v : ℕ) (c : Copy) (r : Remote) (s : Section) → r.here ≡ s → ((yield_in s c r).posts ≡ []) ⊎ ((r.here ≢ Writing) × (yield_in s c r ≡ lowers c r))
in_section v c r Closed e = inr (λ w. grind arith, refl)
in_section v c r (Reading k) e = inr (λ w. grind arith, refl)
in_section v c r Writing e = inl refl

pub either : (v : ℕ) (r : Remote) → ((yield_over v r.copy r).posts ≡ []) ⊎ Lowers v r
either v r = go r.copy refl
  where
    here_is : (c : Copy) (b : Bool) → ((v == c.version) && c.exclusive) ≡ b → r.copy ≡ Some c → ((yield_over v (Some c) r).posts ≡ []) ⊎ ((c.exclusive ≡ true) × (c.version ≡ v) × (r.here ≢ Writing) × (yield_over v (Some c) r ≡ lowers c r))
    here_is c true e is = elim (in_section v c r r.here refl) [ inl n ↦ inl (rw e n) | inr n ↦ inr (grind arith, grind arith, n.0, rw e n.1) ]
    here_is c false e is = inl (rw e refl)

    go : (o : Option Copy) → r.copy ≡ o → ((yield_over v o r).posts ≡ []) ⊎ ((c : Copy) × (o ≡ Some c) × (c.exclusive ≡ true) × (c.version ≡ v) × (r.here ≢ Writing) × (yield_over v o r ≡ lowers c r))
    go None is = inl refl
    go (Some c) is = elim (here_is c ((v == c.version) && c.exclusive) refl is) [ inl n ↦ inl n | inr n ↦ inr (c, refl, n.0, n.1, n.2, n.3) ]

pub yield_kept : (last n v : ℕ) (array : List ℕ) (p : HomeAndNode) (rest : List ℕ) → Took v p.yields rest → PairHolds last array p → PairHolds last array (yielded n v rest p)
unfolding remote_takes_yield
yield_kept last n v array p rest took h = elim (either v p.remote) [ inl none ↦ quiet none | inr w ↦ lowered_now w.0 w.1 w.2 w.3 w.4 w.5 ]
  where
    quiet : (yield_over v p.remote.copy p.remote).posts ≡ [] → PairHolds last array (moved n (yield_over v p.remote.copy p.remote) (record p { yields = rest }))
    quiet none = rw none (simp append-nil (noted_kept last v array p rest took none h))

    fits : {c : Copy} → p.remote.copy ≡ Some c → p.remote.here ≢ Writing → SectionFits p.remote.here (Some (record c { exclusive = false })) p.remote.asking
    fits copy reading = let k = h.section in grind arith

    lowered_now : (c : Copy) → p.remote.copy ≡ Some c → c.exclusive ≡ true → c.version ≡ v → p.remote.here ≢ Writing → yield_over v p.remote.copy p.remote ≡ lowers c p.remote
        → PairHolds last array (moved n (yield_over v p.remote.copy p.remote) (record p { yields = rest }))
    lowered_now c copy exclusive version reading same =
        let o = once_took took h.once in
        rw same (release_moved last n c.version array (record p { yields = rest }) (lowers c p.remote).remote c.bytes false
        (lower_kept last array p c p.remote.here rest copy exclusive (fits copy reading) o.0 (inl (rw version (took_self took))) (λ w k. took_in w took k) (rw version o.1) h))

-- a grant is taken out and handled
abbrev pub granted : ℕ → Given → HomeAndNode → HomeAndNode
granted n g p = moved n (record { remote = remote_takes_grant g.version g.what p.remote; posts = []; opened = true }) (record p { grants = [] })

granted_moves : (array : List ℕ) (p : HomeAndNode) (g : Given) (l : Listing) → p.grants ≡ g ∷ [] → p.listed ≡ Some l → Places array p.listed p.remote.copy p.grants p.returns
    → StandsFreed array l.version p.remote.copy p.remote.given p.returns → StandsFreed array l.version (remote_takes_grant g.version g.what p.remote).copy false p.returns
unfolding remote_takes_grant
granted_moves array p g l eq e places s = grind arith

granted_fits : (last : ℕ) (array : List ℕ) (p : HomeAndNode) (g : Given) (o : Option Listing) → p.grants ≡ g ∷ [] → PairHolds last array p → p.listed ≡ o → RecallFits last array o p.recalls p.yields p.returns p.releases p.remote
    → RecallFits last array o p.recalls p.yields p.returns p.releases (remote_takes_grant g.version g.what p.remote)
unfolding remote_takes_grant
granted_fits last array p g None eq h e m = tt
granted_fits last array p g (Some l) eq h e m = record {
  least = m.least;
  most = m.most;
  unrecalled = λ n. (grind arith, (m.unrecalled n).1);
  unyielding = λ n. (grind arith, (m.unyielding n).1);
  recalled = λ n. grind arith;
  yielding = λ n. grind arith;
  released = λ n. grind arith;
  came = λ n. grind arith;
  freed = freed_moves array l p.remote.copy (remote_takes_grant g.version g.what p.remote).copy p.remote.given false p.returns p.returns p.releases (granted_moves array p g l eq e h.places) m.freed;
}

granted_kept : (last : ℕ) (array : List ℕ) (p : HomeAndNode) (g : Given) → p.grants ≡ g ∷ [] → PairHolds last array p → PairHolds last array (record p { grants = []; remote = remote_takes_grant g.version g.what p.remote })
unfolding remote_takes_grant
granted_kept last array p g eq h =
    record {
      places = grind arith;
      kind = grind arith;
      older = grind arith;
      ask = grind arith;
      section = grind arith;
      due_limit = grind arith;
      recall_limit = h.recall_limit;
      yield_limit = h.yield_limit;
      release_limit = h.release_limit;
      recall = granted_fits last array p g p.listed eq h refl h.recall;
      once = h.once;
      distinct = h.distinct;
      idle = grind arith;
      due = grind arith;
      leaving = grind arith;
      given = grind arith;
      have = grind arith;
      asks_size = grind arith;
      sized = h.sized;
    }

pub grant_kept : (last n : ℕ) (array : List ℕ) (p : HomeAndNode) (g : Given) → p.grants ≡ g ∷ [] → PairHolds last array p → PairHolds last array (granted n g p)
grant_kept last n array p g eq h = quiet_moved last n array (record p { grants = [] }) (remote_takes_grant g.version g.what p.remote) true (granted_kept last array p g eq h)

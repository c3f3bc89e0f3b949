-- Events at a node that isn't the home keep what holds of the two: a recall, a yield and a grant that come.
use Rattle.std.proofs.Common.{ℕ, List, ◌++◌, ◌≡◌, ◌≤◌, refl, arith}
use Rattle.std.specs.declared.option.Option.{Option}
use Rattle.std.specs.declared.option.Option.TheVariants.{None, Some}
use Rattle.crl_model.specs.declared.directory.Listing.{Listing}
use Rattle.crl_protocol.specs.Places.{Took, find_all}
use Rattle.crl_protocol.specs.Remote.{Copy, Remote, remote_takes_recall, recall_over}
use Rattle.crl_coherence.specs.Pairs.{In, HomeAndNode, PairHolds, returned_in, RecallFits, StandsFreed, limit}
use Rattle.crl_coherence.proofs.Remote.{OnlyReturns, moved, took_in, took_self, took_other, freed_moves, returns_moved}

-- the pair after a recall of version v is taken out and handled
abbrev pub recalled : ℕ → ℕ → List ℕ → HomeAndNode → HomeAndNode
recalled n v rest p = moved n (remote_takes_recall v p.remote) (record p { recalls = rest })

-- the same, with the return that it may post
abbrev called_back : ℕ → List ℕ → HomeAndNode → HomeAndNode
called_back v rest p = record p {
  recalls = rest;
  returns = p.returns ++ find_all returned_in (recall_over v p.remote.copy p.remote).posts;
  remote = (recall_over v p.remote.copy p.remote).remote;
}

called_back_kept : (last v : ℕ) (array : List ℕ) (p : HomeAndNode) (rest : List ℕ) → Took v p.recalls rest → PairHolds last array p → PairHolds last array (called_back v rest p)
called_back_kept last v array p rest took h =
    record {
      places = let k = i in grind arith;
      kind = grind arith;
      older = grind (arith, took_in);
      ask = grind arith;
      section = grind arith;
      due_limit = let k = j in grind arith;
      recall_limit = λ w k. h.recall_limit w (took_in w took k);
      yield_limit = h.yield_limit;
      release_limit = h.release_limit;
      recall = go p.listed refl h.recall;
      once = h.once;
      distinct = h.distinct;
      idle = grind arith;
      due = grind arith;
      leaving = let k = i in grind arith;
      given = grind arith;
      have = let k = i in grind arith;
      asks_size = grind arith;
      sized = h.sized;
    }
  where
    i : In v p.recalls
    i = took_self took

    j : v ≤ limit last p.listed
    j = h.recall_limit v i

    moves : (l : Listing) → p.listed ≡ Some l → StandsFreed array l.version p.remote.copy p.remote.given p.returns → StandsFreed array l.version (called_back v rest p).remote.copy (called_back v rest p).remote.given (called_back v rest p).returns
    moves = λ l e s. grind arith

    go : (o : Option Listing) → p.listed ≡ o → RecallFits last array o p.recalls p.yields p.returns p.releases p.remote
        → RecallFits last array o rest p.yields (called_back v rest p).returns p.releases (called_back v rest p).remote
    go None e m = tt
    go (Some l) e m = record {
      least = m.least;
      most = m.most;
      unrecalled = λ n. (let ii = i in let jj = j in grind arith, λ k. (m.unrecalled n).1 (took_in l.version took k));
      unyielding = λ n. (let ii = i in let jj = j in grind arith, (m.unyielding n).1);
      recalled = λ n. let ii = i in let jj = j in grind (arith, took_other);
      yielding = λ n. let ii = i in let jj = j in grind arith;
      released = λ n. let ii = i in let jj = j in grind arith;
      came = λ n. let ii = i in let jj = j in grind arith;
      freed = freed_moves array l p.remote.copy (called_back v rest p).remote.copy p.remote.given (called_back v rest p).remote.given p.returns (called_back v rest p).returns p.releases (moves l e) m.freed;
    }

pub only_returns : (v : ℕ) (c : Option Copy) (r : Remote) → OnlyReturns (recall_over v c r).posts
only_returns v None r = tt
only_returns v (Some c) r = grind arith

pub recall_kept : (last n v : ℕ) (array : List ℕ) (p : HomeAndNode) (rest : List ℕ) → Took v p.recalls rest → PairHolds last array p → PairHolds last array (recalled n v rest p)
unfolding remote_takes_recall
recall_kept last n v array p rest took h =
    let s = recall_over v p.remote.copy p.remote in
    returns_moved last n array (record p { recalls = rest }) s.remote s.posts s.opened (only_returns v p.remote.copy p.remote) (called_back_kept last v array p rest took h)

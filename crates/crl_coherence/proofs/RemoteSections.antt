-- Events at a node that isn't the home keep what holds of the two: its sections start and end, its copy is
-- flushed, and it maps the region anew.
use Rattle.std.proofs.Common.{ℕ, List, [], ◌∷◌, ◌++◌, Bool, true, false, ◌&&◌, if◌then◌else◌, ◌+◌, ◌≡◌, ◌≢◌, length, refl, arith, inr, sym, subst, ◌∙◌}
use Rattle.std.specs.declared.option.Option.{Option}
use Rattle.std.specs.declared.option.Option.TheVariants.{None, Some}
use Rattle.crl_model.specs.declared.directory.Section.{Section}
use Rattle.crl_model.specs.declared.directory.Section.TheVariants.{Closed, Reading, Writing}
use Rattle.crl_model.specs.declared.directory.Listing.{Listing}
use Rattle.crl_protocol.specs.Home.{one_section_more, one_section_less}
use Rattle.crl_protocol.specs.Remote.{Copy, sends_nothing, new_remote, gives_back, lowers, opens_here, asks_home, starts_over, leaves_over, lowers_over, flushes_over, is_closed, with_written, remote_starts, remote_ends_read, remote_ends_write, remote_flushes}
use Rattle.crl_coherence.specs.Region.{IsBlank, MayStart}
use Rattle.crl_coherence.specs.Pairs.{In, HomeAndNode, PairHolds, SectionFits, RecallFits, LeavingFits}
use Rattle.crl_coherence.proofs.Remote.{moved, freed_array, quiet_moved, return_moved, release_moved, ask_moved}
use Rattle.crl_coherence.proofs.RemoteLowers.{lower_kept, give_kept}

-- a section opens or ends, and nothing else changes
pub section_kept : (last : ℕ) (array : List ℕ) (p : HomeAndNode) (s : Section) → SectionFits s p.remote.copy p.remote.asking → (p.remote.lowering ≡ true → s ≡ Writing) → (p.remote.leaving ≡ true → s ≢ Closed) → PairHolds last array p
    → PairHolds last array (record p { remote = record p.remote { here = s } })
section_kept last array p s section lowering leaving h =
    record {
      places = h.places;
      kind = h.kind;
      older = h.older;
      ask = h.ask;
      section = section;
      due_limit = h.due_limit;
      recall_limit = h.recall_limit;
      yield_limit = h.yield_limit;
      release_limit = h.release_limit;
      recall = go p.listed h.recall;
      once = h.once;
      distinct = h.distinct;
      idle = h.idle;
      due = h.due;
      leaving = grind arith;
      given = h.given;
      have = h.have;
      asks_size = h.asks_size;
      sized = h.sized;
    }
  where
    go : (o : Option Listing) → RecallFits last array o p.recalls p.yields p.returns p.releases p.remote → RecallFits last array o p.recalls p.yields p.returns p.releases (record p.remote { here = s })
    go None m = tt
    go (Some l) m = record { least = m.least; most = m.most; unrecalled = m.unrecalled; unyielding = m.unyielding; recalled = m.recalled; yielding = m.yielding; released = m.released; came = m.came; freed = m.freed }

-- a read section opens
pub read_kept : (last : ℕ) (array : List ℕ) (p : HomeAndNode) (c : Copy) → p.remote.copy ≡ Some c → p.remote.asking ≡ None → p.remote.here ≢ Writing → PairHolds last array p
    → PairHolds last array (record p { remote = record p.remote { here = one_section_more p.remote.here } })
read_kept last array p c copy free reading h = section_kept last array p (one_section_more p.remote.here) (grind arith) (λ e. grind arith) (λ e. λ k. grind arith) h

-- a write section opens
pub write_kept : (last : ℕ) (array : List ℕ) (p : HomeAndNode) (c : Copy) → p.remote.copy ≡ Some c → c.exclusive ≡ true → p.remote.asking ≡ None → p.remote.here ≡ Closed → PairHolds last array p
    → PairHolds last array (record p { remote = record p.remote { here = Writing } })
write_kept last array p c copy exclusive free closed h = section_kept last array p Writing (grind arith) (λ e. refl) (λ e. λ k. cc) h

-- the version of the copy that a node has when it asks
abbrev pub have_of : Option Copy → ℕ
have_of None = 0
have_of (Some c) = c.version

-- the node asks
pub ask_kept : (last n : ℕ) (array : List ℕ) (p : HomeAndNode) (w : Bool) (o : Option Copy) → p.remote.copy ≡ o → p.remote.asking ≡ None → p.remote.here ≡ Closed → (w ≡ false → o ≡ None) → ((c : Copy) → o ≡ Some c → c.exclusive ≡ false)
    → p.remote.size ≡ length array → PairHolds last array p
    → PairHolds last array (record p { pending = p.pending ++ record { node = n; write = w; have = have_of o } ∷ []; remote = record p.remote { asking = Some w; due = None } })
ask_kept last n array p w o copy free closed none shared size h =
    record {
      places = grind arith;
      kind = grind arith;
      older = grind arith;
      ask = grind arith;
      section = grind arith;
      due_limit = grind arith;
      recall_limit = h.recall_limit;
      yield_limit = h.yield_limit;
      release_limit = h.release_limit;
      recall = go p.listed refl h.recall;
      once = h.once;
      distinct = h.distinct;
      idle = grind arith;
      due = grind arith;
      leaving = grind arith;
      given = grind arith;
      have = grind arith;
      asks_size = λ e. size;
      sized = h.sized;
    }
  where
    go : (o : Option Listing) → p.listed ≡ o → RecallFits last array o p.recalls p.yields p.returns p.releases p.remote
        → RecallFits last array o p.recalls p.yields p.returns p.releases (record p.remote { asking = Some w; due = None })
    go None e m = tt
    go (Some l) e m = record {
      least = m.least;
      most = m.most;
      unrecalled = λ n. (refl, (m.unrecalled n).1);
      unyielding = λ n. (refl, (m.unyielding n).1);
      recalled = λ n. grind arith;
      yielding = λ n. grind arith;
      released = λ n. grind arith;
      came = λ n. grind arith;
      freed = m.freed;
    }

started : (last n : ℕ) (array : List ℕ) (p : HomeAndNode) (w : Bool) (o : Option Copy) → p.remote.copy ≡ o → MayStart w p.remote.here → p.remote.asking ≡ None → p.remote.size ≡ length array → PairHolds last array p
    → PairHolds last array (moved n (starts_over w o p.remote) p)
started last n array p w None copy may free size h =
    ask_moved last n 0 array p (record p.remote { asking = Some w; due = None }) w false (ask_kept last n array p w None copy free (grind arith) (λ e. refl) (λ c e. cc) size h)
started last n array p false (Some c) copy may free size h =
    quiet_moved last n array p (record p.remote { here = one_section_more p.remote.here }) true (read_kept last array p c copy free (λ e. grind arith) h)
started last n array p true (Some c) copy may free size h = go c.exclusive refl
  where
    closed : p.remote.here ≡ Closed
    closed = grind arith

    go : (b : Bool) → c.exclusive ≡ b → PairHolds last array (moved n (if b then opens_here Writing p.remote else asks_home true c.version p.remote) p)
    go true e = quiet_moved last n array p (record p.remote { here = Writing }) true (write_kept last array p c copy e free closed h)
    go false e = ask_moved last n c.version array p (record p.remote { asking = Some true; due = None }) true false (ask_kept last n array p true (Some c) copy free closed (λ k. cc) (λ d k. grind arith) size h)

-- a start of a section, which opens or asks
pub start_kept : (last n : ℕ) (array : List ℕ) (p : HomeAndNode) (write : Bool) → MayStart write p.remote.here → p.remote.asking ≡ None → p.remote.size ≡ length array → PairHolds last array p
    → PairHolds last array (moved n (remote_starts write p.remote) p)
unfolding remote_starts
start_kept last n array p write may free size h = started last n array p write p.remote.copy refl may free size h

-- the copy goes back, where no section is left
give_moved : (last n : ℕ) (array : List ℕ) (p : HomeAndNode) (c : Copy) (s : Section) → s ≡ Closed → p.remote.copy ≡ Some c → p.remote.asking ≡ None → PairHolds last array p
    → PairHolds last array (moved n (gives_back c (record p.remote { here = s })) p)
give_moved last n array p c s closed copy free h = rw closed (return_moved last n c.version array p (gives_back c (record p.remote { here = Closed })).remote _ false (give_kept last array p c copy free h))

leave_moved : (last n : ℕ) (array : List ℕ) (p : HomeAndNode) (o : Option Copy) (s : Section) → s ≡ Closed → p.remote.copy ≡ o → o ≢ None → p.remote.asking ≡ None → PairHolds last array p
    → PairHolds last array (moved n (leaves_over o (record p.remote { here = s })) p)
leave_moved last n array p None s closed copy some free h = absurd (some refl)
leave_moved last n array p (Some c) s closed copy some free h = give_moved last n array p c s closed copy free h

-- a flush
pub flush_kept : (last n : ℕ) (array : List ℕ) (p : HomeAndNode) → p.remote.here ≡ Closed → p.remote.asking ≡ None → PairHolds last array p → PairHolds last array (moved n (remote_flushes p.remote) p)
unfolding remote_flushes
flush_kept last n array p closed free h = go p.remote.copy refl
  where
    go : (o : Option Copy) → p.remote.copy ≡ o → PairHolds last array (moved n (flushes_over o p.remote) p)
    go None copy = quiet_moved last n array p p.remote false h
    go (Some c) copy = give_moved last n array p c p.remote.here closed copy free h

-- a read section ends
pub end_read_kept : (last n count : ℕ) (array : List ℕ) (p : HomeAndNode) → p.remote.here ≡ Reading (count + 1) → PairHolds last array p → PairHolds last array (moved n (remote_ends_read p.remote) p)
unfolding remote_ends_read
end_read_kept last n count array p reading h = go (is_closed (one_section_less p.remote.here) && p.remote.leaving) refl
  where
    free : p.remote.asking ≡ None
    free = let k = h.section in grind arith

    copied : p.remote.copy ≢ None
    copied = λ e. let k = h.section in grind arith

    go : (b : Bool) → (is_closed (one_section_less p.remote.here) && p.remote.leaving) ≡ b
        → PairHolds last array (moved n (if b then leaves_over p.remote.copy (record p.remote { here = one_section_less p.remote.here }) else sends_nothing (record p.remote { here = one_section_less p.remote.here })) p)
    go true e = leave_moved last n array p p.remote.copy (one_section_less p.remote.here) (grind arith) refl copied free h
    go false e = quiet_moved last n array p (record p.remote { here = one_section_less p.remote.here }) false
        (section_kept last array p (one_section_less p.remote.here) (let k = h.section in grind arith) (λ k. let j = h.leaving in grind arith) (λ k. λ j. grind arith) h)

-- The bytes are written, and the section is still open.
pub written_kept : (last : ℕ) (array bytes : List ℕ) (p : HomeAndNode) → p.remote.here ≡ Writing → length bytes ≡ length array → PairHolds last array p → PairHolds last bytes (record p { remote = record p.remote { copy = with_written bytes p.remote.copy } })
written_kept last array bytes p writing size h =
    record {
      places = grind arith;
      kind = grind arith;
      older = grind arith;
      ask = h.ask;
      section = grind arith;
      due_limit = h.due_limit;
      recall_limit = h.recall_limit;
      yield_limit = h.yield_limit;
      release_limit = h.release_limit;
      recall = go p.listed refl h.recall;
      once = h.once;
      distinct = h.distinct;
      idle = h.idle;
      due = grind arith;
      leaving = grind arith;
      given = grind arith;
      have = grind arith;
      asks_size = λ e. h.asks_size e ∙ sym size;
      sized = rw size h.sized;
    }
  where
    go : (o : Option Listing) → p.listed ≡ o → RecallFits last array o p.recalls p.yields p.returns p.releases p.remote
        → RecallFits last bytes o p.recalls p.yields p.returns p.releases (record p.remote { copy = with_written bytes p.remote.copy })
    go None e m = tt
    go (Some l) e m = record {
      least = m.least;
      most = m.most;
      unrecalled = m.unrecalled;
      unyielding = m.unyielding;
      recalled = m.recalled;
      yielding = λ n. grind arith;
      released = m.released;
      came = m.came;
      freed = freed_array array bytes l p.remote.copy (with_written bytes p.remote.copy) p.remote.given p.remote.given p.returns p.returns p.releases (λ s. grind arith) m.freed;
    }

-- a write section ends, over a copy that has its bytes
ended : (last n : ℕ) (array : List ℕ) (p : HomeAndNode) (leaving lowering : Bool) (o : Option Copy) → p.remote.here ≡ Writing → p.remote.leaving ≡ leaving → p.remote.lowering ≡ lowering → p.remote.copy ≡ o → PairHolds last array p
    → PairHolds last array (moved n (if leaving then leaves_over o (record p.remote { here = Closed }) else if lowering then lowers_over o (record p.remote { here = Closed }) else sends_nothing (record p.remote { here = Closed })) p)
ended last n array p leaving lowering None writing leaves lower copy h = let k = h.section in absurd (grind arith)
ended last n array p true lowering (Some c) writing leaves lower copy h = let k = h.section in give_moved last n array p c Closed refl copy (grind arith) h
ended last n array p false true (Some c) writing leaves lower copy h =
    release_moved last n c.version array p (lowers c (record p.remote { here = Closed })).remote c.bytes false
    (lower_kept last array p c Closed p.yields copy (let k = h.section in grind arith) tt h.once (inr lower) (λ w k. k) (λ i. none p.listed refl h.recall i) h)
  where
    none : (o : Option Listing) → p.listed ≡ o → RecallFits last array o p.recalls p.yields p.returns p.releases p.remote → In c.version p.yields → ⊥
    none None e m i = let k = h.places in grind arith
    none (Some l) e m i = let k = h.places in let j = m.came (inr lower) in grind arith
ended last n array p false false (Some c) writing leaves lower copy h =
    quiet_moved last n array p (record p.remote { here = Closed }) false (section_kept last array p Closed tt (λ e. cc) (λ e. cc) h)

-- a write section ends, and its bytes are the array's
pub end_write_kept : (last n : ℕ) (array bytes : List ℕ) (p : HomeAndNode) → p.remote.here ≡ Writing → length bytes ≡ length array → PairHolds last array p → PairHolds last bytes (moved n (remote_ends_write bytes p.remote) p)
unfolding remote_ends_write
end_write_kept last n array bytes p writing size h =
    ended last n bytes (record p { remote = record p.remote { copy = with_written bytes p.remote.copy } }) p.remote.leaving p.remote.lowering (with_written bytes p.remote.copy) writing refl refl refl (written_kept last array bytes p writing size h)

-- the region is mapped anew, maybe in another size
pub appears_kept : (last size : ℕ) (array : List ℕ) (p : HomeAndNode) → IsBlank p.remote → PairHolds last array p → PairHolds last array (record p { remote = new_remote size })
appears_kept last size array p blank h =
    let k : PairHolds last array (record p { remote = new_remote p.remote.size }) = subst (λ r. PairHolds last array (record p { remote = r })) blank h in
    record {
      places = k.places;
      kind = k.kind;
      older = k.older;
      ask = k.ask;
      section = tt;
      due_limit = k.due_limit;
      recall_limit = k.recall_limit;
      yield_limit = k.yield_limit;
      release_limit = k.release_limit;
      recall = go p.listed k.recall;
      once = k.once;
      distinct = k.distinct;
      idle = k.idle;
      due = k.due;
      leaving = go_leaving p.listed k.leaving;
      given = k.given;
      have = k.have;
      asks_size = λ e. absurd (e refl);
      sized = k.sized;
    }
  where
    go : (o : Option Listing) → RecallFits last array o p.recalls p.yields p.returns p.releases (new_remote p.remote.size) → RecallFits last array o p.recalls p.yields p.returns p.releases (new_remote size)
    go None m = tt
    go (Some l) m = record { least = m.least; most = m.most; unrecalled = m.unrecalled; unyielding = m.unyielding; recalled = m.recalled; yielding = m.yielding; released = m.released; came = m.came; freed = m.freed }

    go_leaving : (o : Option Listing) → LeavingFits o (new_remote p.remote.size) → LeavingFits o (new_remote size)
    go_leaving None m = m
    go_leaving (Some l) m = m

-- the array changes while nothing of the node is listed
pub other_array : (last : ℕ) (array bytes : List ℕ) (p : HomeAndNode) → p.listed ≡ None → length bytes ≡ length array → PairHolds last array p → PairHolds last bytes p
other_array last array bytes p none size h =
    record {
      places = grind arith;
      kind = h.kind;
      older = h.older;
      ask = h.ask;
      section = h.section;
      due_limit = h.due_limit;
      recall_limit = h.recall_limit;
      yield_limit = h.yield_limit;
      release_limit = h.release_limit;
      recall = grind arith;
      once = h.once;
      distinct = h.distinct;
      idle = h.idle;
      due = h.due;
      leaving = h.leaving;
      given = h.given;
      have = h.have;
      asks_size = λ e. h.asks_size e ∙ sym size;
      sized = rw size h.sized;
    }

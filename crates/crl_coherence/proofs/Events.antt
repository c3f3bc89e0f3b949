-- Each event of a region keeps what holds of it, and so does each run.
use Rattle.std.proofs.Common.{◌≡◌, ℕ, zero, suc, List, [], replicate, refl, arith, inl, inr, sym, subst, ◌∙◌}
use Rattle.std.specs.declared.option.Option.{Option}
use Rattle.std.specs.declared.option.Option.TheVariants.{None, Some}
use Rattle.crl_model.specs.declared.directory.Listing.{Listing}
use Rattle.std.proofs.lemmas.List.{length-replicate}
use Rattle.crl_protocol.specs.Places.{at, find_all, Took}
use Rattle.crl_protocol.specs.Remote.{new_remote}
use Rattle.crl_coherence.specs.Region.{Flying, Region, flies, Happens, ask_comes, return_comes, release_comes, home_start, home_end_read, home_end_write, grant_comes, recall_comes, yield_comes, start, end_read, end_write, flush, forget, appears, carry, elsewhere, Run, done, next}
use Rattle.crl_coherence.specs.Pairs.{PairHolds, pair_of, queued_of, Owns, of_node, released_in}
use Rattle.crl_coherence.specs.Coherent.{IsCoherent, created}
use Rattle.crl_coherence.proofs.Lists.{same_or}
use Rattle.crl_coherence.proofs.Mails.{mails, pair_at, kept_to, kept_from, kept_at, took_mail, took_mail_other}
use Rattle.crl_coherence.proofs.PairsCarried.{carried_kept, picks_reordered, reordered_has}
use Rattle.crl_coherence.proofs.HomeEvents.{ask_event, return_event, release_event}
use Rattle.crl_coherence.proofs.OwnEvents.{home_start_event, home_end_read_event, home_end_write_event}
use Rattle.crl_coherence.proofs.Forgets.{forget_event}
use Rattle.crl_coherence.proofs.RemoteEvents.{recall_event, yield_event, grant_event, start_event, end_read_event, end_write_event, flush_event, appears_event}

-- a message goes to another place
carry_event : (me : ℕ) (g : Region) (f : Flying) (rest after : List Flying) → Took f g.flight rest → Took f after rest → IsCoherent me g → IsCoherent me (record g { flight = after })
carry_event me g f rest after took put k = record {
  loose = record {
    pairs = λ n other. kept_from g.home.last g.array g.home.listed g.home.queue g.remotes after n (carried n (kept_to g.home.last g.array g.home.listed g.home.queue g.remotes g.flight n (k.loose.pairs n other)));
    own = k.loose.own;
    own_ask = k.loose.own_ask;
    alone = k.loose.alone;
    distinct = λ v n m other more a b. k.loose.distinct v n m other more (before v n a) (before v m b);
    mine = k.loose.mine;
    bytes = k.loose.bytes;
    recalled = k.loose.recalled;
    size = k.loose.size;
  };
  head = k.head;
}
  where
    before : (v n : ℕ) → Owns v (pair_of g.home.listed g.home.queue g.remotes after n) → Owns v (pair_of g.home.listed g.home.queue g.remotes g.flight n)
    before v n (inl u) = inl u
    before v n (inr i) = inr (reordered_has v (picks_reordered (of_node n released_in) f after g.flight rest put took) i)

    carried : (n : ℕ) → PairHolds g.home.last g.array (pair_at n (at n g.home.listed) (find_all (queued_of n) g.home.queue) (mails n g.flight) (g.remotes n))
        → PairHolds g.home.last g.array (pair_at n (at n g.home.listed) (find_all (queued_of n) g.home.queue) (mails n after) (g.remotes n))
    carried n h = elim (same_or f.node n) [
      | inl e ↦ (let t : Took (flies n f.mail) g.flight rest = subst (λ x. Took (flies x f.mail) g.flight rest) e took in
          let u : Took (flies n f.mail) after rest = subst (λ x. Took (flies x f.mail) after rest) e put in
          carried_kept g.home.last n g.array (at n g.home.listed) (find_all (queued_of n) g.home.queue) (g.remotes n) f.mail (mails n g.flight) (mails n after) (mails n rest) (took_mail n f.mail g.flight rest t) (took_mail n f.mail after rest u) h)
      | inr ne ↦ kept_at g.home.last n g.array {q = find_all (queued_of n) g.home.queue} refl refl (took_mail_other n f.node f.mail g.flight rest took ne ∙ sym (took_mail_other n f.node f.mail after rest put ne)) refl h
    ]

pub happens_kept : (me : ℕ) (g h : Region) → Happens me g h → IsCoherent me g → IsCoherent me h
happens_kept me g h (ask_comes n write have rest other took) k = ask_event me g (record { node = n; write = write; have = have }) rest other took k
happens_kept me g h (return_comes n version bytes rest other took) k = return_event me g n version bytes rest other took k
happens_kept me g h (release_comes n version bytes rest other took) k = release_event me g n version bytes rest other took k
happens_kept me g h (home_start write may idle) k = home_start_event me g write may idle k
happens_kept me g h (home_end_read count reading idle) k = home_end_read_event me g idle k
happens_kept me g h (home_end_write bytes writing idle sized) k = home_end_write_event me g bytes writing idle sized k
happens_kept me g h (grant_comes n version granted rest other took) k = grant_event me g n version granted rest other took k
happens_kept me g h (recall_comes n version rest other took) k = recall_event me g n version rest other took k
happens_kept me g h (yield_comes n version rest other took) k = yield_event me g n version rest other took k
happens_kept me g h (start n write other may idle size) k = start_event me g n write other may idle size k
happens_kept me g h (end_read n count other reading) k = end_read_event me g n count other reading k
happens_kept me g h (end_write n bytes other writing sized) k = end_write_event me g n bytes other writing sized k
happens_kept me g h (flush n other closed idle) k = flush_event me g n other closed idle k
happens_kept me g h (forget n size other closed idle) k = forget_event me g n size other closed idle k
happens_kept me g h (appears n size other blank) k = appears_event me g n size other blank k
happens_kept me g h (carry f rest after took put) k = carry_event me g f rest after took put k
happens_kept me g h elsewhere k = k

pub runs_kept : (me : ℕ) (g h : Region) → Run me g h → IsCoherent me g → IsCoherent me h
runs_kept me g h done k = k
runs_kept me g h (next {h = between} s r) k = runs_kept me between h r (happens_kept me g between s k)

-- a region that was just created
blank_at : (n nodes : ℕ) → at n (replicate {A = Option Listing} nodes None) ≡ None
blank_at n zero = refl
blank_at zero (suc k) = refl
blank_at (suc n) (suc k) = blank_at n k

blank_pair : (size n : ℕ) (sizes : ℕ → ℕ) → PairHolds 0 (replicate size 0) (pair_of [] [] (λ m. new_remote (sizes m)) [] n)
blank_pair size n sizes = record {
  places = tt;
  kind = tt;
  older = tt;
  ask = tt;
  section = tt;
  due_limit = omega arith;
  recall_limit = λ v i. elim i [ ];
  yield_limit = λ v i. elim i [ ];
  release_limit = λ v i. elim i [ ];
  recall = tt;
  once = tt;
  distinct = tt;
  idle = λ e. refl;
  leaving = (refl, refl);
  given = refl;
  have = tt;
  asks_size = λ e. absurd (e refl);
  sized = tt;
  due = tt;
}

created_pair : (size nodes n : ℕ) (sizes : ℕ → ℕ) → PairHolds 0 (replicate size 0) (pair_of (replicate nodes None) [] (λ m. new_remote (sizes m)) [] n)
created_pair size nodes n sizes =
    subst (λ o. PairHolds 0 (replicate size 0) (record (pair_of [] [] (λ m. new_remote (sizes m)) [] n) { listed = o })) (sym (blank_at n nodes)) (blank_pair size n sizes)

nothing_listed : (n nodes : ℕ) (l : Listing) → at n (replicate nodes None) ≡ Some l → ⊥
nothing_listed n nodes l e = let b = blank_at n nodes in cc

pub created_kept : (me nodes size : ℕ) (sizes : ℕ → ℕ) → IsCoherent me (created nodes size sizes)
created_kept me nodes size sizes = record {
  loose = record {
    pairs = λ n other. created_pair size nodes n sizes;
    own = blank_at me nodes;
    own_ask = tt;
    alone = λ n m l j e x f. absurd (nothing_listed n nodes l e);
    distinct = λ v n m other more a b. elim a [ inl u ↦ absurd (nothing_listed n nodes u.0 u.1) | inr i ↦ elim i [ ] ];
    mine = λ n l e. absurd (nothing_listed n nodes l e);
    bytes = λ e. refl;
    recalled = λ n l e r. absurd (nothing_listed n nodes l e);
    size = length-replicate size 0;
  };
  head = tt;
}

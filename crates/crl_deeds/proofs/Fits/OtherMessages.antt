-- What holds of a node holds after it handles a message about maps, deletes and rounds.
use Rattle.std.proofs.Common.{◌≡◌, ℕ, ◌-◌, ◌==◌, Bool, true, false, ◌||◌, None, Some, Option, List, [], ◌∷◌, if◌then◌else◌, refl, ap, sym, ◌∙◌, subst}
use Rattle.std.specs.List.{AllByRecursion}
use Rattle.std.proofs.lemmas.Bool.{cond_both, cond-true, eqb-true}
use Rattle.std.proofs.Math.Logic.{◌⊎◌, inl, inr}
use Rattle.crl_model.specs.declared.name.Name.{Name}
use Rattle.crl_model.specs.declared.stage.Stage.{Stage}
use Rattle.crl_model.specs.declared.stage.Stage.TheVariants as stage
use Rattle.crl_model.specs.declared.collective.Part.{Part}
use Rattle.crl_model.specs.declared.collective.Fold.{Fold}
use Rattle.crl_model.specs.declared.call.CallKind.{CallKind}
use Rattle.crl_model.specs.declared.message.Told.{Told}
use Rattle.crl_model.specs.declared.message.Told.TheVariants as told
use Rattle.crl_model.specs.declared.message.DeleteTold.{DeleteTold}
use Rattle.crl_model.specs.declared.message.Kind.{Kind}
use Rattle.crl_model.specs.declared.message.Kind.TheVariants as kind
use Rattle.crl_model.specs.Names.{name_eq, at_node}
use Rattle.crl_protocol.specs.Remote.{Remote, new_remote, remote_takes_recall, remote_takes_yield}
use Rattle.crl_protocol.specs.Lifetimes.{Mapping, new_mapping, Cached, cached_size, cache_without, Lifetime, no_lifetime, lifetime_with_asker, lifetime_begins_delete, lifetime_takes_purged, members}
use Rattle.crl_protocol.specs.Gathering.{gathers, awaits}
use Rattle.crl_protocol.specs.Node.{Node, only, Answer, Mapped, Done, ForSection, ForMap, ForDelete, ForRound, Activity, Free, Waiting, Ready, is_mine, home_of, lifetime_of, with_lifetime, with_remote}
use Rattle.crl_protocol.specs.Calls.{is_gone, answer_of}
use Rattle.crl_protocol.specs.Handlers.{becomes_ready, takes_info_ask, after_info, takes_info, begins_delete, takes_delete_ask, delete_answer, takes_delete_told, purges_waiting, purge_over_cache, purge_over, takes_purge, delete_done_at, ends_delete_by, takes_purged, own_result, after_part_of, takes_part, takes_result, node_handles}
use Rattle.crl_deeds.specs.NodeFacts.{Seen, seen, OwnFits, LiveFits, MappedThere, RemoteFits, GoingFits, WaitFits, IsCached, SizeIs, FreshFits, IsAway, Leaves, Fits, Holds}
use Rattle.crl_deeds.proofs.Chosen.Lists.{all_append}
use Rattle.crl_deeds.proofs.Fits.CopyMessages.{fits_as, good_asked, good_returned, good_released, good_granted, good_called}
use Rattle.crl_deeds.proofs.Fits.Fields.{fits_turn, fits_leave, fits_mapping, fits_lifetime, fits_cache}
use Rattle.crl_deeds.proofs.Fits.LifetimeCalls.{no_record, other_new, fits_same_size}
use Rattle.crl_deeds.proofs.Fits.Names.{same_name, name_self, other_name, by_name, asking_calm, queue_calm, Apart}
use Rattle.crl_deeds.proofs.Fits.Parts.{Good, good_if, good_only, fits_rounds, other_way, results_leave, purges_leave, here_if, there_if, good_forgets, kept_dropped}
use Rattle.crl_deeds.proofs.Fits.TableRows.{lifetime_put}
use Rattle.crl_deeds.proofs.Fits.TableSteps.{recalled_goes, yields_goes}

-- InfoAsk
abbrev asked_in : ℕ → Lifetime → Stage → Lifetime
asked_in from lifetime s = elim s [ stage.Unknown ↦ lifetime | stage.Live ↦ record lifetime { asked = at_node lifetime.asked from true } | stage.Going deleter ↦ lifetime | stage.Gone ↦ lifetime ]

asked_stage : (from : ℕ) (lifetime : Lifetime) (s : Stage) → (asked_in from lifetime s).stage ≡ lifetime.stage
asked_stage from lifetime stage.Unknown = refl
asked_stage from lifetime stage.Live = refl
asked_stage from lifetime (stage.Going deleter) = refl
asked_stage from lifetime stage.Gone = refl

-- a lifetime of the same stage
fits_same_stage : (i : ℕ) (n : Node) (name : Name) (lifetime : Lifetime) → is_mine n name ≡ true → lifetime.stage ≡ (lifetime_of n name).stage
    → Fits i n → Fits i (with_lifetime name lifetime n)
fits_same_stage i n name lifetime mine same f =
    fits_lifetime i n name lifetime mine (subst (λ s. LiveFits s (home_of n name)) (sym same) (here_if i n name mine f).live)
    (subst (λ s. GoingFits n.me name s n.activity) (sym same) (f.each name).going) f

good_info_asked : (i : ℕ) (n : Node) (from : ℕ) (name : Name) → Fits i n → Good i (takes_info_ask from name n)
unfolding lifetime_with_asker
good_info_asked i n from name f = record {
  node = cond_both (is_mine n name) _ _ (λ m. Fits i m)
      (λ mine. fits_same_stage i n name (lifetime_with_asker from (lifetime_of n name)) mine (asked_stage from (lifetime_of n name) (lifetime_of n name).stage) f) (λ w. f);
  posts = (tt, tt);
}

-- InfoIs
map_apart : (p : Name) (takes_purged : Bool) (q : Name) → Apart q (Waiting (ForMap p takes_purged))
map_apart p takes_purged q = record { section = λ e. cc; delete = λ e. cc }

own_remote_new : (b : Bool) (v : Seen) (r : Remote) → b ≡ false → v.mapping ≡ None → RemoteFits (Some r) → OwnFits b v → OwnFits b (record v { remote = Some r })
own_remote_new true v r e none bytes own = cc
own_remote_new false v r e none bytes own = record { bytes = bytes; mapped = subst (λ x. MappedThere x (Some r)) (sym none) tt; nothing = own.nothing; unknown = own.unknown }

fits_remote_new : (i : ℕ) (n : Node) (name : Name) (size : ℕ) → is_mine n name ≡ false → n.maps name ≡ None
    → ((z : ℕ) → IsCached name z n.cache → ⊥) → Fits i n → Fits i (with_remote name (Some (new_remote size)) n)
fits_remote_new i n name size other none fresh f = record {
  me = f.me;
  each = by_name name (λ b p. Holds n.me p n.activity (record (seen n p) { remote = if b then Some (new_remote size) else n.remotes p })) (at_it (f.each name)) (λ p w. f.each p);
  cache = λ q z. by_name name (λ b p. IsCached p z n.cache → SizeIs (if b then Some (new_remote size) else n.remotes p) z) (λ w. absurd (fresh z w)) (λ p t. f.cache p z) q;
  fresh = f.fresh;
  inbox = f.inbox;
  outbox = f.outbox;
}
  where
    at_it : Holds n.me name n.activity (seen n name) → Holds n.me name n.activity (record (seen n name) { remote = Some (new_remote size) })
    at_it x = record {
      sections = x.sections;
      own = own_remote_new (is_mine n name) (seen n name) (new_remote size) other none tt x.own;
      queue = x.queue;
      asking = inl refl;
      going = x.going;
      waiting = x.waiting;
    }

fits_told : (i : ℕ) (n : Node) (name : Name) (takes_purged : Bool) (size : ℕ) → Fits i (record n { activity = Waiting (ForMap name takes_purged) })
    → Fits i (after_info name takes_purged (told.Live size) n)
fits_told i n name takes_purged size f =
    let new = (f.each name).waiting refl in
    let ready : Node = record n { activity = Ready (Mapped name size) } in
    let g = fits_turn i n (Waiting (ForMap name takes_purged)) (Ready (Mapped name size)) (map_apart name takes_purged) (λ q. tt) tt f in
    let sided = fits_remote_new i ready name size new.1 new.0 f.fresh g in
    let m : Node = with_remote name (Some (new_remote size)) ready in
    let there : m.remotes name ≡ Some (new_remote size) = cond-true (name_eq name name) _ _ (name_self name) in
    fits_mapping i m name (Some (new_mapping size takes_purged)) (no_record i m name _ new.0 sided)
    (other_new (is_mine n name) (seen m name) (new_mapping size takes_purged) new.1 (subst (λ x. MappedThere (Some (new_mapping size takes_purged)) x) (sym there) refl) (sided.each name).own) tt sided

good_told : (i : ℕ) (n : Node) (name : Name) (takes_purged : Bool) (t : Told)
    → Fits i (record n { activity = Waiting (ForMap name takes_purged) }) → Good i (only (after_info name takes_purged t n) Done)
good_told i n name takes_purged (told.Live size) f = record { node = fits_told i n name takes_purged size f; posts = tt }
good_told i n name takes_purged told.Unknown f = record { node = fits_turn i n (Waiting (ForMap name takes_purged)) (Ready _) (map_apart name takes_purged) (λ q. tt) tt f; posts = tt }
good_told i n name takes_purged told.Deleted f = record { node = fits_turn i n (Waiting (ForMap name takes_purged)) (Ready _) (map_apart name takes_purged) (λ q. tt) tt f; posts = tt }

good_info_is : (i : ℕ) (n : Node) (name : Name) (t : Told) (a : Activity) → n.activity ≡ a → Fits i n → Good i (takes_info name t a n)
good_info_is i n name t Free e f = good_only i n f
good_info_is i n name t (Ready answer) e f = good_only i n f
good_info_is i n name t (Waiting (ForSection p)) e f = good_only i n f
good_info_is i n name t (Waiting (ForDelete p)) e f = good_only i n f
good_info_is i n name t (Waiting (ForRound round k)) e f = good_only i n f
good_info_is i n name t (Waiting (ForMap p takes_purged)) e f =
    good_if i (name_eq p name) _ _
    (λ w. good_told i n name takes_purged t (fits_as i n (Waiting (ForMap name takes_purged)) (e ∙ ap (λ x. Waiting (ForMap x takes_purged)) (same_name p name w)) f)) (λ w. good_only i n f)

-- DeleteAsk
good_begun : (i : ℕ) (n : Node) (from : ℕ) (name : Name) (lifetime : Lifetime) (ms : List ℕ) → is_mine n name ≡ true
    → (from == n.me) ≡ false → (name.home == from) ≡ false → Fits i n
    → Good i (begins_delete from name (elim ms [ [] ↦ record lifetime { stage = stage.Gone } | m ∷ rest ↦ record lifetime { stage = stage.Going from; missing = lifetime.asked } ]) n)
good_begun i n from name lifetime [] mine other away f = record { node = fits_lifetime i n name (record lifetime { stage = stage.Gone }) mine tt tt f; posts = (away, tt) }
good_begun i n from name lifetime (m ∷ rest) mine other away f = record {
  node = fits_lifetime i n name (record lifetime { stage = stage.Going from; missing = lifetime.asked }) mine tt (inl other) f;
  posts = purges_leave n name (members n.nodes lifetime.asked);
}

live_mine : (i : ℕ) (n : Node) (name : Name) (b : Bool) → is_mine n name ≡ b → (lifetime_of n name).stage ≡ stage.Live → Fits i n → is_mine n name ≡ true
live_mine i n name true e live f = e
live_mine i n name false e live f = let w = (there_if i n name e f).unknown in cc

good_delete_asked : (i : ℕ) (n : Node) (from : ℕ) (name : Name) (s : Stage) → (lifetime_of n name).stage ≡ s → (from == n.me) ≡ false
    → (name.home == from) ≡ false → Fits i n → Good i (takes_delete_ask from name s n)
unfolding lifetime_begins_delete
good_delete_asked i n from name stage.Unknown e other away f = record { node = f; posts = (away, tt) }
good_delete_asked i n from name stage.Live e other away f =
    good_begun i n from name (lifetime_of n name) (members n.nodes (lifetime_of n name).asked) (live_mine i n name (is_mine n name) refl e f) other away f
good_delete_asked i n from name (stage.Going deleter) e other away f = record { node = f; posts = (away, tt) }
good_delete_asked i n from name stage.Gone e other away f = record { node = f; posts = (away, tt) }

-- A delete for which the node waits is done.
delete_apart : (name q : Name) → name_eq name q ≡ false → Apart q (Waiting (ForDelete name))
delete_apart name q e = record { section = λ w. cc; delete = λ w. other_name name q e (let k : name ≡ q = cc in k) }

fits_deleted : (i : ℕ) (n : Node) (name : Name) (answer : Answer) → GoingFits n.me name (lifetime_of n name).stage (Ready answer) → Fits i (record n { activity = Waiting (ForDelete name) })
    → Fits i (becomes_ready answer n)
fits_deleted i n name answer going f =
    fits_leave i n (Waiting (ForDelete name)) (Ready answer) name (delete_apart name) (λ q. tt) tt
    (queue_calm n.me name (home_of n name) (Waiting (ForDelete name)) (Ready answer) (λ w. cc) (f.each name).queue)
    (asking_calm name (n.remotes name) (Waiting (ForDelete name)) (Ready answer) (λ w. cc) (f.each name).asking) going f

-- DeleteIs
good_delete_is : (i : ℕ) (n : Node) (name : Name) (t : DeleteTold) (a : Activity) → n.activity ≡ a → (name.home == n.me) ≡ false
    → Fits i n → Good i (takes_delete_told name t a n)
good_delete_is i n name t Free e away f = good_only i n f
good_delete_is i n name t (Ready answer) e away f = good_only i n f
good_delete_is i n name t (Waiting (ForSection p)) e away f = good_only i n f
good_delete_is i n name t (Waiting (ForMap p takes_purged)) e away f = good_only i n f
good_delete_is i n name t (Waiting (ForRound round k)) e away f = good_only i n f
good_delete_is i n name t (Waiting (ForDelete p)) e away f =
    good_if i (name_eq p name) _ _
    (λ w. good_only i _ (fits_deleted i n name (delete_answer t)
    (subst (λ s. GoingFits n.me name s (Ready (delete_answer t))) (sym (there_if i n name away f).unknown) tt)
    (fits_as i n (Waiting (ForDelete name)) (e ∙ ap (λ x. Waiting (ForDelete x)) (same_name p name w)) f)))
    (λ w. good_only i n f)

-- Purge
wait_same : (q : Name) (a : Activity) (mine : Bool) (m k : Mapping) → WaitFits q a mine (Some m) → WaitFits q a mine (Some k)
wait_same q Free mine m k w = tt
wait_same q (Ready answer) mine m k w = tt
wait_same q (Waiting (ForSection p)) mine m k w = λ e. tt
wait_same q (Waiting (ForMap p takes_purged)) mine m k w = λ e. let h = (w e).0 in cc
wait_same q (Waiting (ForDelete p)) mine m k w = tt
wait_same q (Waiting (ForRound round c)) mine m k w = tt

fits_purges : (i : ℕ) (n : Node) (name : Name) (a : Activity) → Fits i (record n { activity = a }) → Fits i (record n { activity = purges_waiting name a })
fits_purges i n name Free f = f
fits_purges i n name (Ready answer) f = f
fits_purges i n name (Waiting (ForSection p)) f = f
fits_purges i n name (Waiting (ForMap p takes_purged)) f =
    fits_turn i n (Waiting (ForMap p takes_purged)) (Waiting (ForMap p (takes_purged || name_eq p name))) (map_apart p takes_purged) (λ q. (f.each q).waiting) f.fresh f
fits_purges i n name (Waiting (ForDelete p)) f = f
fits_purges i n name (Waiting (ForRound round c)) f = f

fresh_dropped : (name : Name) (a : Activity) (cache : List Cached) → FreshFits a cache → FreshFits a (cache_without name cache)
fresh_dropped name Free cache w = tt
fresh_dropped name (Ready answer) cache w = tt
fresh_dropped name (Waiting (ForSection p)) cache w = tt
fresh_dropped name (Waiting (ForMap p takes_purged)) cache w = λ size c. w size (kept_dropped name p size cache c)
fresh_dropped name (Waiting (ForDelete p)) cache w = tt
fresh_dropped name (Waiting (ForRound round c)) cache w = tt

good_purged_cached : (i : ℕ) (n : Node) (name : Name) (size : Option ℕ) → Fits i n → Good i (purge_over_cache name size n)
good_purged_cached i n name None f = good_only i _ (fits_purges i n name n.activity f)
good_purged_cached i n name (Some size) f =
    good_forgets i _ name (fits_cache i n (cache_without name n.cache) (λ q z c. f.cache q z (kept_dropped name q z n.cache c)) (fresh_dropped name n.activity n.cache f.fresh) f)

good_purged_over : (i : ℕ) (n : Node) (name : Name) (o : Option Mapping) → n.maps name ≡ o → Fits i n → Good i (purge_over name o n)
good_purged_over i n name (Some m) e f =
    good_only i _ (fits_same_size i n name m (record m { doomed = true }) e refl
    (wait_same name n.activity (is_mine n name) m (record m { doomed = true }) (subst (λ x. WaitFits name n.activity (is_mine n name) x) e (f.each name).waiting)) f)
good_purged_over i n name None e f = good_purged_cached i n name (cached_size name n.cache) f

good_purge : (i : ℕ) (n : Node) (from : ℕ) (name : Name) → Fits i n → Good i (takes_purge from name n)
good_purge i n from name f =
    let g = good_purged_over i n name (n.maps name) refl f in
    record { node = g.node; posts = all_append Leaves (purge_over name (n.maps name) n).posts _ g.posts (tt, tt) }

-- Purged
missing_mine : (n : Node) (name : Name) (from : ℕ) (b : Bool) → is_mine n name ≡ b → (if b then n.lifetimes name.serial else no_lifetime).missing from ≡ true → is_mine n name ≡ true
missing_mine n name from true e h = e
missing_mine n name from false e h = cc

going_waits : (me deleter : ℕ) (name : Name) (s : Stage) (a : Activity) → s ≡ stage.Going deleter → (deleter == me) ≡ true → GoingFits me name s a → a ≡ Waiting (ForDelete name)
going_waits me deleter name s a e own g = of_two (subst (λ x. GoingFits me name x a) e g)
  where
    of_two : ((deleter == me) ≡ false) ⊎ (a ≡ Waiting (ForDelete name)) → a ≡ Waiting (ForDelete name)
    of_two (inl w) = cc
    of_two (inr w) = w

gone_at : (n : Node) (name : Name) (lifetime : Lifetime) → is_mine n name ≡ true → lifetime.stage ≡ stage.Gone → (lifetime_of (with_lifetime name lifetime n) name).stage ≡ stage.Gone
gone_at n name lifetime mine e = ap (λ (x : Lifetime). x.stage) (lifetime_put n name lifetime mine name ∙ cond-true (name_eq name name) _ _ (name_self name)) ∙ e

away_from : (name : Name) (me deleter : ℕ) → (name.home == me) ≡ true → (deleter == me) ≡ false → (name.home == deleter) ≡ false
away_from name me deleter mine other = subst (λ x. (x == deleter) ≡ false) (sym (eqb-true name.home me mine)) (other_way deleter me other)

good_done_at : (i : ℕ) (n : Node) (deleter : ℕ) (name : Name) (lifetime : Lifetime) → is_mine n name ≡ true
    → (lifetime_of n name).stage ≡ stage.Going deleter → lifetime.stage ≡ stage.Gone → Fits i n
    → Good i (delete_done_at deleter name (with_lifetime name lifetime n))
good_done_at i n deleter name lifetime mine going gone f = record {
  node = cond_both (deleter == n.me) _ _ (λ m. Fits i m)
      (λ own. fits_deleted i (with_lifetime name lifetime n) name Done (subst (λ s. GoingFits n.me name s (Ready Done)) (sym (gone_at n name lifetime mine gone)) tt)
      (gone_fits (record n { activity = Waiting (ForDelete name) }) mine
      (fits_as i n (Waiting (ForDelete name)) (going_waits n.me deleter name (lifetime_of n name).stage n.activity going own (f.each name).going) f)))
      (λ other. gone_fits n mine f);
  posts = cond_both (deleter == n.me) _ _ (λ ms. AllByRecursion Leaves ms) (λ own. tt) (λ other. (away_from name n.me deleter mine other, tt));
}
  where
    gone_fits : (m : Node) → is_mine m name ≡ true → Fits i m → Fits i (with_lifetime name lifetime m)
    gone_fits m own g = fits_lifetime i m name lifetime own (subst (λ s. LiveFits s (home_of m name)) (sym gone) tt) (subst (λ s. GoingFits m.me name s m.activity) (sym gone) tt) g

good_purged_by : (i : ℕ) (n : Node) (name : Name) (s : Stage) (lifetime : Lifetime) → (lifetime_of n name).stage ≡ s
    → is_mine n name ≡ true → (lifetime.stage ≡ s) ⊎ (lifetime.stage ≡ stage.Gone) → Fits i n → Good i (ends_delete_by name s lifetime n)
good_purged_by i n name stage.Unknown lifetime e mine h f = good_only i n f
good_purged_by i n name stage.Live lifetime e mine h f = good_only i n f
good_purged_by i n name stage.Gone lifetime e mine h f = good_only i n f
good_purged_by i n name (stage.Going deleter) lifetime e mine (inl same) f =
    good_if i (is_gone lifetime.stage) _ _ (λ w. let k = ap is_gone same in cc) (λ w. good_only i _ (fits_same_stage i n name lifetime mine (same ∙ sym e) f))
good_purged_by i n name (stage.Going deleter) lifetime e mine (inr gone) f =
    good_if i (is_gone lifetime.stage) _ _ (λ w. good_done_at i n deleter name lifetime mine e gone f) (λ w. let k = ap is_gone gone in cc)

after_stage : (missing : ℕ → Bool) (lifetime : Lifetime) (ms : List ℕ)
    → let l : Lifetime = elim ms [ [] ↦ record lifetime { stage = stage.Gone; missing = missing } | m ∷ rest ↦ record lifetime { missing = missing } ] in (l.stage ≡ lifetime.stage) ⊎ (l.stage ≡ stage.Gone)
after_stage missing lifetime [] = inr refl
after_stage missing lifetime (m ∷ rest) = inl refl

good_purged : (i : ℕ) (n : Node) (from : ℕ) (name : Name) → Fits i n → Good i (takes_purged from name n)
unfolding lifetime_takes_purged
good_purged i n from name f =
    let lifetime = lifetime_of n name in
    good_if i (lifetime.missing from) _ _
    (λ w. good_purged_by i n name lifetime.stage (lifetime_takes_purged n.nodes from lifetime) refl (missing_mine n name from (is_mine n name) refl w)
    (after_stage (at_node lifetime.missing from false) lifetime (members n.nodes (at_node lifetime.missing from false))) f)
    (λ w. good_only i n f)

-- Come and Result
round_apart : (n : Node) (round : ℕ) (f : Fold) (i : ℕ) (waited : ℕ) (k : CallKind)
    → Fits i (record n { activity = Waiting (ForRound waited k) }) → Fits i (becomes_ready (answer_of round f) n)
round_apart n round f i waited k g =
    fits_turn i n (Waiting (ForRound waited k)) (Ready (answer_of round f)) (λ q. record { section = λ w. cc; delete = λ w. cc }) (λ q. tt) tt g

fits_result : (i : ℕ) (n : Node) (v : Fold) (a : Activity) → n.activity ≡ a → Fits i n → Fits i (own_result v a n).node
fits_result i n v Free e f = f
fits_result i n v (Ready answer) e f = f
fits_result i n v (Waiting (ForSection p)) e f = f
fits_result i n v (Waiting (ForMap p takes_purged)) e f = f
fits_result i n v (Waiting (ForDelete p)) e f = f
fits_result i n v (Waiting (ForRound round k)) e f = round_apart n round v i round k (fits_as i n (Waiting (ForRound round k)) e f)

good_gathered_from : (i : ℕ) (n : Node) (round : ℕ) (o : Option Fold) → Fits i n → Good i (after_part_of round o n)
good_gathered_from i n round None f = good_only i n f
good_gathered_from i n round (Some v) f = record { node = fits_result i n v n.activity refl f; posts = results_leave n 1 (n.nodes - 1) round v }

good_come_from : (i : ℕ) (n : Node) (from : ℕ) (part : Part) → Fits i n → Good i (takes_part from part n)
good_come_from i n from part f =
    let g = gathers n.nodes from part n.gathering in
    good_if i (awaits from n.gathering) _ _ (λ w. good_gathered_from i (record n { gathering = g.gathering }) n.gathering.round g.fold
    (fits_rounds i n n.rounds g.gathering f)) (λ w. good_only i n f)

good_result : (i : ℕ) (n : Node) (round : ℕ) (v : Fold) (a : Activity) → n.activity ≡ a → Fits i n → Good i (takes_result round v a n)
good_result i n round v Free e f = good_only i n f
good_result i n round v (Ready answer) e f = good_only i n f
good_result i n round v (Waiting (ForSection p)) e f = good_only i n f
good_result i n round v (Waiting (ForMap p takes_purged)) e f = good_only i n f
good_result i n round v (Waiting (ForDelete p)) e f = good_only i n f
good_result i n round v (Waiting (ForRound waited k)) e f =
    good_if i (waited == round) _ _ (λ w. record { node = round_apart n round v i waited k (fits_as i n (Waiting (ForRound waited k)) e f); posts = tt }) (λ w. good_only i n f)

-- any message that may come
pub good_message : (i : ℕ) (n : Node) (from : ℕ) (k : Kind) → IsAway from n.me k → Fits i n → Good i (node_handles from k n)
unfolding node_handles
good_message i n from (kind.InfoAsk name) away f = good_info_asked i n from name f
good_message i n from (kind.InfoIs name t) away f = good_info_is i n name t n.activity refl f
good_message i n from (kind.Ask name write have) away f = good_asked i n from name write have (home_of n name) refl away f
good_message i n from (kind.Grant name version g) away f = good_granted i n name version g (n.remotes name) refl f
good_message i n from (kind.Recall name version) away f = good_called i n name (remote_takes_recall version) (n.remotes name) refl (recalled_goes version) f
good_message i n from (kind.Return name version bytes) away f = good_returned i n from name version bytes (home_of n name) refl f
good_message i n from (kind.DeleteAsk name) away f = good_delete_asked i n from name (lifetime_of n name).stage refl away.0 away.1 f
good_message i n from (kind.DeleteIs name t) away f = good_delete_is i n name t n.activity refl away f
good_message i n from (kind.Purge name) away f = good_purge i n from name f
good_message i n from (kind.Purged name) away f = good_purged i n from name f
good_message i n from (kind.Come round part) away f = good_come_from i n from part f
good_message i n from (kind.Result round v) away f = good_result i n round v n.activity refl f
good_message i n from (kind.Yield name version) away f = good_called i n name (remote_takes_yield version) (n.remotes name) refl (yields_goes version) f
good_message i n from (kind.Release name version bytes) away f = good_released i n from name version bytes (home_of n name) refl f

-- What a node does with a message is one of its deeds.
use Rattle.std.proofs.Common.{◌≡◌, ℕ, ◌==◌, Bool, true, false, None, Some, Option, List, [], ◌∷◌, if◌then◌else◌, refl, ap, sym, ◌∙◌, subst}
use Rattle.std.proofs.lemmas.Bool.{cond_both, cond-true, cond-false, eqb-true, eqb-false}
use Rattle.crl_model.specs.declared.name.Name.{Name}
use Rattle.crl_model.specs.declared.stage.Stage.{Stage}
use Rattle.crl_model.specs.declared.stage.Stage.TheVariants as stage
use Rattle.crl_model.specs.declared.collective.Part.{Part}
use Rattle.crl_model.specs.declared.collective.Fold.{Fold}
use Rattle.crl_model.specs.declared.call.Refusal.{Refusal}
use Rattle.crl_model.specs.declared.entry.What.TheVariants as what
use Rattle.crl_model.specs.declared.message.Told.{Told}
use Rattle.crl_model.specs.declared.message.Told.TheVariants as told
use Rattle.crl_model.specs.declared.message.DeleteTold.{DeleteTold}
use Rattle.crl_model.specs.declared.message.DeleteTold.TheVariants as delete_told
use Rattle.crl_model.specs.declared.message.Granted.{Granted}
use Rattle.crl_model.specs.declared.message.Kind.{Kind}
use Rattle.crl_model.specs.declared.message.Kind.TheVariants as kind
use Rattle.crl_model.specs.Names.{name_eq, at_node}
use Rattle.crl_protocol.specs.Home.{Home, HomeStep, return_fits, release_fits}
use Rattle.crl_protocol.specs.Remote.{Remote, remote_takes_recall, remote_takes_yield, grant_fits}
use Rattle.crl_protocol.specs.Lifetimes.{Mapping, cached_size, cache_without, Lifetime, no_lifetime, lifetime_with_asker, lifetime_begins_delete, lifetime_takes_purged, members}
use Rattle.crl_protocol.specs.Gathering.{all_parts, after_parts, gathers, awaits}
use Rattle.crl_protocol.specs.Node.{Node, Done, ForMap, ForDelete, ForRound, Activity, Waiting, Outcome, only, is_mine, home_of, lifetime_of, with_lifetime, section_opens, message_to, entry_of}
use Rattle.crl_protocol.specs.Sectioning.{after_serve, after_remote}
use Rattle.crl_protocol.specs.Calls.{size_of, is_gone, results}
use Rattle.crl_protocol.specs.Handlers.{becomes_ready, told_by_stage, after_info, map_entry, takes_info_ask, takes_info, is_queued_in, takes_ask, takes_return, takes_release, takes_grant, takes_call_back, begins_delete, takes_delete_ask, takes_delete_told, with_post_last, purge_over_cache, purge_over, delete_done_at, ends_delete_by, takes_purged, own_result, after_part_of, takes_part, takes_result, node_handles}
use Rattle.crl_deeds.specs.Deeds.{Cause, parting, forgotten, Serves, CallsBack, Unfit, with_parts, Deed, Hears}
use Rattle.crl_deeds.proofs.Cases.Called.{deed_if, forgets_is}
use Rattle.crl_deeds.proofs.Fits.Names.{same_name, other_name}
use Rattle.crl_deeds.specs.Deeds as deed

-- a lifetime that stays
same_lifetime : (n : Node) (name : Name) → is_mine n name ≡ true → with_lifetime name (lifetime_of n name) n ≡ n
same_lifetime n name mine = λ i. record n { lifetimes = λ s. go s (name.serial == s) refl i }
  where
    go : (s : ℕ) (b : Bool) → (name.serial == s) ≡ b → (if b then lifetime_of n name else n.lifetimes s) ≡ n.lifetimes s
    go s true w = cond-true (is_mine n name) _ _ mine ∙ ap n.lifetimes (eqb-true _ _ w)
    go s false w = refl

unknown_elsewhere : (n : Node) (name : Name) → is_mine n name ≡ false → lifetime_of n name ≡ no_lifetime
unknown_elsewhere n name other = cond-false (is_mine n name) _ _ other

-- InfoAsk
abbrev asked_in : ℕ → Lifetime → Stage → Lifetime
asked_in from lifetime s = elim s [ stage.Unknown ↦ lifetime | stage.Live ↦ record lifetime { asked = at_node lifetime.asked from true } | stage.Going deleter ↦ lifetime | stage.Gone ↦ lifetime ]

abbrev tells : ℕ → Name → Stage → Node → Node → Outcome
tells from name s m n =
    let answer = told_by_stage s (size_of (home_of n name)) in
    record { node = m; answer = Done; entries = map_entry from name answer ∷ []; posts = message_to n from (kind.InfoIs name answer) ∷ [] }

unfit_as : {why : Refusal} {t : Told} {d : DeleteTold} (n : Node) (name : Name) (s : Stage) → (lifetime_of n name).stage ≡ s → Unfit s why t d → Unfit (lifetime_of n name).stage why t d
unfit_as {why = why} {t = t} {d = d} n name s e u = subst (λ x. Unfit x why t d) (sym e) u

info_refused : (n : Node) (from : ℕ) (name : Name) (s : Stage) → (s ≡ stage.Live → ⊥) → (lifetime_of n name).stage ≡ s → Deed n (Hears from (kind.InfoAsk name)) (tells from name s n n)
info_refused n from name stage.Unknown other e = deed.lives (deed.map_refused from name _ _ _ (unfit_as n name stage.Unknown e deed.never))
info_refused n from name stage.Live other e = absurd (other refl)
info_refused n from name (stage.Going deleter) other e = deed.lives (deed.map_refused from name _ _ _ (unfit_as n name (stage.Going deleter) e (deed.going deleter)))
info_refused n from name stage.Gone other e = deed.lives (deed.map_refused from name _ _ _ (unfit_as n name stage.Gone e deed.gone))

info_own : (n : Node) (from : ℕ) (name : Name) (s : Stage) → is_mine n name ≡ true → (lifetime_of n name).stage ≡ s
    → Deed n (Hears from (kind.InfoAsk name)) (tells from name s (with_lifetime name (asked_in from (lifetime_of n name) s) n) n)
info_own n from name stage.Unknown mine e = subst (λ m. Deed n (Hears from (kind.InfoAsk name)) (tells from name stage.Unknown m n)) (sym (same_lifetime n name mine)) (info_refused n from name stage.Unknown (λ w. cc) e)
info_own n from name stage.Live mine e = deed.lives (deed.map_told from name mine e)
info_own n from name (stage.Going deleter) mine e = subst (λ m. Deed n (Hears from (kind.InfoAsk name)) (tells from name (stage.Going deleter) m n)) (sym (same_lifetime n name mine)) (info_refused n from name (stage.Going deleter) (λ w. cc) e)
info_own n from name stage.Gone mine e = subst (λ m. Deed n (Hears from (kind.InfoAsk name)) (tells from name stage.Gone m n)) (sym (same_lifetime n name mine)) (info_refused n from name stage.Gone (λ w. cc) e)

unknown_there : (n : Node) (name : Name) → is_mine n name ≡ false → (lifetime_of n name).stage ≡ stage.Unknown
unknown_there n name other = ap (λ (l : Lifetime). l.stage) (unknown_elsewhere n name other)

info_asked_deed : (n : Node) (from : ℕ) (name : Name) → Deed n (Hears from (kind.InfoAsk name)) (takes_info_ask from name n)
unfolding lifetime_with_asker
info_asked_deed n from name =
    cond_both (is_mine n name) _ _ (λ m. Deed n (Hears from (kind.InfoAsk name)) (tells from name (lifetime_of n name).stage m n)) (λ mine. info_own n from name (lifetime_of n name).stage mine refl)
    (λ other. info_refused n from name (lifetime_of n name).stage (λ live. let w = unknown_there n name other in cc) refl)

-- InfoIs
told_deed : (n : Node) (from : ℕ) (name : Name) (takes_purged : Bool) (t : Told) → n.activity ≡ Waiting (ForMap name takes_purged) → Deed n (Hears from (kind.InfoIs name t)) (only (after_info name takes_purged t n) Done)
told_deed n from name takes_purged (told.Live size) e = deed.lives (deed.map_comes from name takes_purged size e)
told_deed n from name takes_purged told.Unknown e = deed.lives (deed.map_denied from name takes_purged _ _ _ _ deed.never e)
told_deed n from name takes_purged told.Deleted e = deed.lives (deed.map_denied from name takes_purged _ _ _ _ deed.gone e)

info_is_deed : (n : Node) (from : ℕ) (name : Name) (t : Told) (a : Activity) → n.activity ≡ a → Deed n (Hears from (kind.InfoIs name t)) (takes_info name t a n)
info_is_deed n from name t (Waiting (ForMap p takes_purged)) e =
    deed_if n _ (name_eq p name) _ _ (λ w. told_deed n from name takes_purged t (e ∙ ap (λ x. Waiting (ForMap x takes_purged)) (same_name p name w)))
    (λ w. deed.idles (λ q f. let k : p ≡ name = (let both : Waiting (ForMap p takes_purged) ≡ Waiting (ForMap name q) = sym e ∙ f in cc) in other_name p name w k))
info_is_deed n from name t _ e = deed.idles (λ q f. let both = sym e ∙ f in cc)

-- Ask, Return and Release
served_deed : (n : Node) (from : ℕ) (k : Kind) (name : Name) (h : Home) (s : HomeStep) → Serves n h from k name s → home_of n name ≡ Some h → Deed n (Hears from k) (after_serve name s n)
unfolding after_serve section_opens
served_deed n from k name h s is e = deed_if n _ s.opened _ _ (λ o. deed.copies (deed.home_serves_own from k name h s is e o)) (λ o. deed.copies (deed.home_serves from k name h s is e o))

asked_deed : (n : Node) (from : ℕ) (name : Name) (write : Bool) (have : ℕ) (o : Option Home) → home_of n name ≡ o → Deed n (Hears from (kind.Ask name write have)) (takes_ask from name write have o n)
asked_deed n from name write have None e = deed.idles (λ h f. let both = sym e ∙ f in cc)
asked_deed n from name write have (Some h) e =
    deed_if n _ (is_queued_in from n.homes) _ _ (λ w. deed.idles (λ h f. w)) (λ w. served_deed n from _ name h _ (deed.ask_comes from name write have w) e)

home_is : (n : Node) (name : Name) (h g : Home) → home_of n name ≡ Some h → home_of n name ≡ Some g → h ≡ g
home_is n name h g e f = let both : Some h ≡ Some g = sym e ∙ f in cc

returned_deed : (n : Node) (from : ℕ) (name : Name) (version : ℕ) (bytes : Option (List ℕ)) (o : Option Home) → home_of n name ≡ o → Deed n (Hears from (kind.Return name version bytes)) (takes_return from name version bytes o n)
returned_deed n from name version bytes None e = deed.idles (λ h f. let both = sym e ∙ f in cc)
returned_deed n from name version bytes (Some h) e =
    deed_if n _ (return_fits from version bytes h) _ _ (λ w. served_deed n from _ name h _ (deed.copy_returns from name version bytes w) e) (λ w. deed.idles (λ g f. ap (λ x. return_fits from version bytes x) (home_is n name g h f e) ∙ w))

released_deed : (n : Node) (from : ℕ) (name : Name) (version : ℕ) (bytes : List ℕ) (o : Option Home) → home_of n name ≡ o → Deed n (Hears from (kind.Release name version bytes)) (takes_release from name version bytes o n)
released_deed n from name version bytes None e = deed.idles (λ h f. let both = sym e ∙ f in cc)
released_deed n from name version bytes (Some h) e =
    deed_if n _ (release_fits bytes h) _ _ (λ w. served_deed n from _ name h _ (deed.copy_lowers from name version bytes w) e) (λ w. deed.idles (λ g f. ap (λ x. release_fits bytes x) (home_is n name g h f e) ∙ w))

-- Grant, Recall and Yield
granted_deed : (n : Node) (from : ℕ) (name : Name) (version : ℕ) (g : Granted) (o : Option Remote) → n.remotes name ≡ o → Deed n (Hears from (kind.Grant name version g)) (takes_grant name version g o n)
unfolding section_opens
granted_deed n from name version g None e = deed.idles (λ r f. let both = sym e ∙ f in cc)
granted_deed n from name version g (Some r) e =
    deed_if n _ (grant_fits g r) _ _ (λ w. deed.copies (deed.grant_comes from name version g r e w))
    (λ w. deed.idles (λ s f. let same : s ≡ r = (let both : Some s ≡ Some r = sym f ∙ e in cc) in ap (λ x. grant_fits g x) same ∙ w))

recall_deed : (n : Node) (from : ℕ) (name : Name) (version : ℕ) (o : Option Remote) → n.remotes name ≡ o → Deed n (Hears from (kind.Recall name version)) (takes_call_back name (remote_takes_recall version) o n)
unfolding after_remote
recall_deed n from name version None e = deed.idles e
recall_deed n from name version (Some r) e = deed.copies (deed.side_called from _ name r _ (deed.wholly name version) e)

yield_deed : (n : Node) (from : ℕ) (name : Name) (version : ℕ) (o : Option Remote) → n.remotes name ≡ o → Deed n (Hears from (kind.Yield name version)) (takes_call_back name (remote_takes_yield version) o n)
unfolding after_remote
yield_deed n from name version None e = deed.idles e
yield_deed n from name version (Some r) e = deed.copies (deed.side_called from _ name r _ (deed.to_share name version) e)

-- DeleteAsk
live_mine : (n : Node) (name : Name) → (lifetime_of n name).stage ≡ stage.Live → (b : Bool) → is_mine n name ≡ b → is_mine n name ≡ true
live_mine n name live true w = w
live_mine n name live false w = let k = unknown_there n name w in cc

begun_deed : (n : Node) (from : ℕ) (name : Name) (ms : List ℕ) → is_mine n name ≡ true → (lifetime_of n name).stage ≡ stage.Live → members n.nodes (lifetime_of n name).asked ≡ ms
    → Deed n (Hears from (kind.DeleteAsk name)) (begins_delete from name (elim ms [ [] ↦ record (lifetime_of n name) { stage = stage.Gone } | m ∷ rest ↦ record (lifetime_of n name) { stage = stage.Going from; missing = (lifetime_of n name).asked } ]) n)
begun_deed n from name [] mine live e = deed.lives (deed.deletes_alone_for from name mine live e)
begun_deed n from name (m ∷ ms) mine live e = deed.lives (deed.deletes_for from name m ms mine live e)

delete_asked_deed : (n : Node) (from : ℕ) (name : Name) (s : Stage) → (lifetime_of n name).stage ≡ s → Deed n (Hears from (kind.DeleteAsk name)) (takes_delete_ask from name s n)
unfolding lifetime_begins_delete
delete_asked_deed n from name stage.Unknown e = deed.lives (deed.delete_refused from name _ _ _ (unfit_as n name stage.Unknown e deed.never))
delete_asked_deed n from name stage.Live e = begun_deed n from name (members n.nodes (lifetime_of n name).asked) (live_mine n name e (is_mine n name) refl) e refl
delete_asked_deed n from name (stage.Going deleter) e = deed.lives (deed.delete_refused from name _ _ _ (unfit_as n name (stage.Going deleter) e (deed.going deleter)))
delete_asked_deed n from name stage.Gone e = deed.lives (deed.delete_refused from name _ _ _ (unfit_as n name stage.Gone e deed.gone))

-- DeleteIs
delete_is_deed : (n : Node) (from : ℕ) (name : Name) (t : DeleteTold) (a : Activity) → n.activity ≡ a → Deed n (Hears from (kind.DeleteIs name t)) (takes_delete_told name t a n)
delete_is_deed n from name t (Waiting (ForDelete p)) e =
    deed_if n _ (name_eq p name) _ _ (λ w. deed.lives (deed.delete_comes from name t (e ∙ ap (λ x. Waiting (ForDelete x)) (same_name p name w))))
    (λ w. deed.idles (λ f. let k : p ≡ name = (let both : Waiting (ForDelete p) ≡ Waiting (ForDelete name) = sym e ∙ f in cc) in other_name p name w k))
delete_is_deed n from name t _ e = deed.idles (λ f. let both = sym e ∙ f in cc)

-- Purge
drop_deed : (n : Node) (from : ℕ) (name : Name) (size : Option ℕ) → n.maps name ≡ None → cached_size name n.cache ≡ size → Deed n (Hears from (kind.Purge name)) (with_post_last (message_to n from (kind.Purged name)) (purge_over_cache name size n))
drop_deed n from name None e c = deed.lives (deed.warns from name e c)
drop_deed n from name (Some size) e c =
    subst (λ o. Deed n (Hears from (kind.Purge name)) (with_post_last (message_to n from (kind.Purged name)) o)) (sym (forgets_is (record n { cache = cache_without name n.cache }) name)) (deed.lives (deed.drops from name size e c))

purge_deed : (n : Node) (from : ℕ) (name : Name) (o : Option Mapping) → n.maps name ≡ o → Deed n (Hears from (kind.Purge name)) (with_post_last (message_to n from (kind.Purged name)) (purge_over name o n))
purge_deed n from name (Some m) e = deed.lives (deed.dooms from name m e)
purge_deed n from name None e = drop_deed n from name (cached_size name n.cache) e refl

-- Purged
missing_mine : (n : Node) (from : ℕ) (name : Name) → (lifetime_of n name).missing from ≡ true → (b : Bool) → is_mine n name ≡ b → is_mine n name ≡ true
missing_mine n from name h true w = w
missing_mine n from name h false w = let k = ap (λ (l : Lifetime). l.missing from) (unknown_elsewhere n name w) in cc

off_deed : (n : Node) (from : ℕ) (name : Name) (deleter : ℕ) (ms : List ℕ) → is_mine n name ≡ true → (lifetime_of n name).stage ≡ stage.Going deleter → (lifetime_of n name).missing from ≡ true
    → let missing = at_node (lifetime_of n name).missing from false in members n.nodes missing ≡ ms
    → Deed n (Hears from (kind.Purged name)) (ends_delete_by name (stage.Going deleter) (elim ms [ [] ↦ record (lifetime_of n name) { stage = stage.Gone; missing = missing } | m ∷ rest ↦ record (lifetime_of n name) { missing = missing } ]) n)
off_deed n from name deleter (m ∷ ms) mine e h l =
    subst (λ b. Deed n (Hears from (kind.Purged name)) (if b then delete_done_at deleter name k else only k Done)) (sym (ap is_gone e)) (deed.lives (deed.counts_off from name deleter m ms mine e h l))
  where
    k : Node
    k = with_lifetime name (record (lifetime_of n name) { missing = at_node (lifetime_of n name).missing from false }) n
off_deed n from name deleter [] mine e h l = go (deleter == n.me) refl
  where
    k : Node
    k = with_lifetime name (record (lifetime_of n name) { stage = stage.Gone; missing = at_node (lifetime_of n name).missing from false }) n

    go : (b : Bool) → (deleter == n.me) ≡ b → Deed n (Hears from (kind.Purged name)) (record {
      node = if b then becomes_ready Done k else k;
      answer = Done;
      entries = entry_of deleter (what.Deleted name) ∷ [];
      posts = if b then [] else message_to n deleter (kind.DeleteIs name delete_told.Done) ∷ [];
    })
    go true w =
        let same = eqb-true deleter n.me w in
        subst (λ x. Deed n (Hears from (kind.Purged name)) (record { node = becomes_ready Done k; answer = Done; entries = entry_of x (what.Deleted name) ∷ []; posts = [] })) (sym same)
        (deed.lives (deed.ends_own from name mine (e ∙ ap (λ x. stage.Going x) same) h l))
    go false w = deed.lives (deed.ends_for from name deleter mine e w h l)

purged_deed : (n : Node) (from : ℕ) (name : Name) → Deed n (Hears from (kind.Purged name)) (takes_purged from name n)
unfolding lifetime_takes_purged
purged_deed n from name = deed_if n _ ((lifetime_of n name).missing from) _ _ (λ h. go (lifetime_of n name).stage refl h) (λ w. deed.idles (λ deleter e h. let both = sym w ∙ h in cc))
  where
    go : (s : Stage) → (lifetime_of n name).stage ≡ s → (lifetime_of n name).missing from ≡ true → Deed n (Hears from (kind.Purged name)) (ends_delete_by name s (lifetime_takes_purged n.nodes from (lifetime_of n name)) n)
    go (stage.Going deleter) e h = off_deed n from name deleter (members n.nodes (at_node (lifetime_of n name).missing from false)) (missing_mine n from name h (is_mine n name) refl) e h refl
    go _ e h = deed.idles (λ deleter f k. let both = sym e ∙ f in cc)

-- Come and Result
abbrev gathered_as : ℕ → Option Fold → Activity → Node → Outcome
gathered_as round None a n = only n Done
gathered_as round (Some fold) a n = let o = own_result fold a n in record o { posts = results n round fold }

own_deed : (n : Node) (from round : ℕ) (part : Part) (ps : Option (List Part)) (a : Activity) → n.activity ≡ a → awaits from n.gathering ≡ true → all_parts 0 n.nodes (with_parts from part n.gathering).parts ≡ ps
    → let g = after_parts ps (with_parts from part n.gathering) in Deed n (Hears from (kind.Come round part)) (gathered_as n.gathering.round g.fold a (record n { gathering = g.gathering }))
own_deed n from round part None a e w h = deed.rounds (deed.part_comes from round part w h)
own_deed n from round part (Some ps) (Waiting (ForRound mine k)) e w h = deed.rounds (deed.part_last from round part ps mine k e w h)
own_deed n from round part (Some ps) _ e w h = deed.rounds (deed.part_last_idle from round part ps (λ mine k f. let both = sym e ∙ f in cc) w h)

gathered_same : (round : ℕ) (o : Option Fold) (n : Node) → after_part_of round o n ≡ gathered_as round o n.activity n
gathered_same round None n = refl
gathered_same round (Some fold) n = refl

own_deed_as : (n : Node) (from round : ℕ) (part : Part) (ps : Option (List Part)) → awaits from n.gathering ≡ true → all_parts 0 n.nodes (with_parts from part n.gathering).parts ≡ ps
    → let g = after_parts ps (with_parts from part n.gathering) in Deed n (Hears from (kind.Come round part)) (after_part_of n.gathering.round g.fold (record n { gathering = g.gathering }))
own_deed_as n from round part ps w h =
    let g = after_parts ps (with_parts from part n.gathering) in
    subst (λ o. Deed n (Hears from (kind.Come round part)) o) (sym (gathered_same n.gathering.round g.fold (record n { gathering = g.gathering }))) (own_deed n from round part ps n.activity refl w h)

come_deed : (n : Node) (from round : ℕ) (part : Part) → Deed n (Hears from (kind.Come round part)) (takes_part from part n)
unfolding gathers
come_deed n from round part = deed_if n _ (awaits from n.gathering) _ _ (λ w. own_deed_as n from round part (all_parts 0 n.nodes (with_parts from part n.gathering).parts) w refl) (λ w. deed.idles w)

result_deed : (n : Node) (from round : ℕ) (fold : Fold) (a : Activity) → n.activity ≡ a → Deed n (Hears from (kind.Result round fold)) (takes_result round fold a n)
result_deed n from round fold (Waiting (ForRound waited k)) e =
    deed_if n _ (waited == round) _ _ (λ w. deed.rounds (deed.result_comes from round fold k (e ∙ ap (λ x. Waiting (ForRound x k)) (eqb-true _ _ w))))
    (λ w. deed.idles (λ q f. let same : waited ≡ round = (let both : Waiting (ForRound waited k) ≡ Waiting (ForRound round q) = sym e ∙ f in cc) in eqb-false waited round w same))
result_deed n from round fold _ e = deed.idles (λ q f. let both = sym e ∙ f in cc)

-- any message
pub message_deed : (n : Node) (from : ℕ) (k : Kind) → Deed n (Hears from k) (node_handles from k n)
unfolding node_handles
message_deed n from (kind.InfoAsk name) = info_asked_deed n from name
message_deed n from (kind.InfoIs name t) = info_is_deed n from name t n.activity refl
message_deed n from (kind.Ask name write have) = asked_deed n from name write have (home_of n name) refl
message_deed n from (kind.Grant name version what) = granted_deed n from name version what (n.remotes name) refl
message_deed n from (kind.Recall name version) = recall_deed n from name version (n.remotes name) refl
message_deed n from (kind.Return name version bytes) = returned_deed n from name version bytes (home_of n name) refl
message_deed n from (kind.DeleteAsk name) = delete_asked_deed n from name (lifetime_of n name).stage refl
message_deed n from (kind.DeleteIs name t) = delete_is_deed n from name t n.activity refl
message_deed n from (kind.Purge name) = purge_deed n from name (n.maps name) refl
message_deed n from (kind.Purged name) = purged_deed n from name
message_deed n from (kind.Come round part) = come_deed n from round part
message_deed n from (kind.Result round fold) = result_deed n from round fold n.activity refl
message_deed n from (kind.Yield name version) = yield_deed n from name version (n.remotes name) refl
message_deed n from (kind.Release name version bytes) = released_deed n from name version bytes (home_of n name) refl

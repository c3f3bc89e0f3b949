-- A message that a node hears, as it moves the call for which node n waits.
use Rattle.std.proofs.Common.{◌≡◌, ℕ, ◌+◌, ◌<◌, ◌==◌, Bool, true, false, List, [], ◌∷◌, ◌++◌, if◌then◌else◌, refl, ap, sym, ◌∙◌, subst, arith}
use Rattle.std.proofs.lemmas.Bool.{cond-true, eqb-true, eq-eqb}
use Rattle.crl_model.specs.declared.name.Name.{Name}
use Rattle.crl_model.specs.declared.stage.Stage.TheVariants as stage
use Rattle.crl_model.specs.declared.call.Call.{Call}
use Rattle.crl_model.specs.declared.call.Call.TheVariants as call
use Rattle.crl_model.specs.declared.call.CallKind.{CallKind}
use Rattle.crl_model.specs.declared.collective.Part.{Part}
use Rattle.crl_model.specs.declared.collective.Fold.{Fold}
use Rattle.crl_model.specs.declared.collective.Fold.TheVariants.{Mixed}
use Rattle.crl_model.specs.declared.entry.Place.TheVariants.{Region}
use Rattle.crl_model.specs.declared.entry.What.{What}
use Rattle.crl_model.specs.declared.entry.What.TheVariants as what
use Rattle.crl_model.specs.declared.message.Told.{Told}
use Rattle.crl_model.specs.declared.message.Told.TheVariants as told
use Rattle.crl_model.specs.declared.message.DeleteTold.{DeleteTold}
use Rattle.crl_model.specs.declared.message.DeleteTold.TheVariants as delete_told
use Rattle.crl_model.specs.declared.message.Kind.{Kind}
use Rattle.crl_model.specs.declared.message.Kind.TheVariants as kind
use Rattle.crl_model.specs.Calls.{kind_of}
use Rattle.crl_protocol.specs.Parcels.{Piece, PartsGathered}
use Rattle.crl_protocol.specs.Lifetimes.{Lifetime}
use Rattle.crl_protocol.specs.Sections.{Guard}
use Rattle.crl_protocol.specs.Node.{Node, Activity, Done, Waiting, Ready, ForSection, ForMap, ForDelete, ForRound, Awaited, Outcome, guard_answer, lifetime_of, message_to}
use Rattle.crl_protocol.specs.Calls.{answer_of, result_of}
use Rattle.crl_protocol.specs.Handlers.{delete_answer}
use Rattle.crl_protocol.specs.Talk.{lines_of_node, AreLines}
use Rattle.crl_protocol.specs.World.{World}
use Rattle.crl_deeds.specs.Deeds.{Hears, StartsCall}
use Rattle.crl_deeds.specs.Tokens.{weigh, of_name}
use Rattle.crl_deeds.proofs.Laws.{append_nil}
use Rattle.crl_deeds.specs.Deeds as deed
use Rattle.crl_talk.proofs.Asking.{AskedAs}
use Rattle.crl_talk.proofs.Effects.{map_lines, map_answer, delete_lines, start_line, KeepsGoing, Lasts, QuietFor, Effect, quiet, tells_map, tells_delete, begins, ends, opens, gets_map, gets_delete, ends_own, gets_round}
use Rattle.crl_talk.proofs.Pending.{map_asked, map_answered, delete_asked, delete_answered, Pending, for_section, for_map, for_delete, going, for_round, Goes, waits, ready, Waits, Wants, Calm, goes_calm, Hearing, map_alone, delete_alone, going_alone, going_beside, asker_maps, asker_deletes, deleter_waits, quiet_token, one_name, map_same, lasts_map, lasts_delete}
use Rattle.crl_talk.proofs.Weights.{MapAsk, MapIs, DeleteAsk, DeleteIs, same_told, same_delete, told_is, told_self, delete_is, delete_self, token, token_mail, token_whole}

-- The lines of an answer.
pub map_are : (n : ℕ) (q : Name) (t : Told) → AreLines n (call.Map q) (map_answer q t) (map_lines q t)
map_are n q (told.Live size) = (refl, refl)
map_are n q told.Unknown = (Region q, refl, refl)
map_are n q told.Deleted = (Region q, refl, refl)

pub delete_are : (n : ℕ) (q : Name) (d : DeleteTold) → AreLines n (call.Delete q) (delete_answer d) (delete_lines q d)
delete_are n q delete_told.Done = refl
delete_are n q delete_told.Unknown = (Region q, refl, refl)
delete_are n q delete_told.Deleted = (Region q, refl, refl)

pub round_are : (n : ℕ) (part : Part) (round : ℕ) (fold : Fold) → AreLines n (call.Come part) (answer_of round fold) (what.Come part ∷ result_of round (kind_of part) fold ∷ [])
round_are n part round Mixed = (round, refl)
round_are n part round _ = refl

pub section_are : (n : ℕ) (c : Call) (write : Bool) (q : Name) (guard : Guard) → StartsCall c write q → guard.name ≡ q → AreLines n c (guard_answer write guard) (start_line write q ∷ [])
section_are n c write q guard (deed.to_read p) e = (e, refl)
section_are n c write q guard (deed.to_write p) e = (e, refl)

-- weights of what is sent and heard
sent_if : (b : Bool) (n : ℕ) (q : Name) → b ≡ true → (if b then (if n == n then of_name q q else 0) else 0) ≡ 1
sent_if b n q e = cond-true b _ _ e ∙ cond-true (n == n) _ _ (eq-eqb n n refl) ∙ one_name q

heard_if : (a n : ℕ) (p q : Name) → a ≡ n → p ≡ q → (if a == n then of_name p q else 0) ≡ 1
heard_if a n p q e s = cond-true (a == n) _ _ (eq-eqb a n e) ∙ ap (λ x. of_name x q) s ∙ one_name q

other_if : (b : Bool) (x : ℕ) → b ≡ false → (if b then x else 0) ≡ 0
other_if true x e = cc
other_if false x e = refl

delete_same : (p q : Name) → ◌≡◌ {A = Activity} (Waiting (ForDelete p)) (Waiting (ForDelete q)) → p ≡ q
delete_same p q e = cc

section_same : (p q : Name) → ◌≡◌ {A = Activity} (Waiting (ForSection p)) (Waiting (ForSection q)) → p ≡ q
section_same p q e = cc

round_same : (r s : ℕ) (k l : CallKind) → ◌≡◌ {A = Activity} (Waiting (ForRound r k)) (Waiting (ForRound s l)) → (r ≡ s) × (k ≡ l)
round_same r s k l e = (cc, cc)

abbrev Now : ℕ → World → Activity → Type 0
Now n w a = (w.nodes n).activity ≡ a

goes_quiet : (n : ℕ) (w v : World) (j from : ℕ) (k : Kind) (o : Outcome) (m : Node) → Hearing n w v j from k o → m.me ≡ j → m.activity ≡ (w.nodes j).activity → ((q : Name) → lifetime_of m q ≡ lifetime_of (w.nodes j) q)
    → KeepsGoing n m o.node → (m.me ≡ n → Lasts m.activity o.node.activity) → QuietFor n m (Hears from k) → Calm n w v
goes_quiet n w v j from k o m h me act lifetimes keeps stays silent = record {
  count = h.count;
  act = h.act (λ e. subst (λ a. Lasts a o.node.activity) act (stays (me ∙ e)));
  asked = h.asked;
  going = λ q g. h.stays q (λ x. keeps q (ap (λ (l : Lifetime). l.stage) (lifetimes q) ∙ x)) g;
  kept = λ t q want some.
      (let s = h.step (token t n q) (token_mail t n q) (token_whole t n q) in
      let z = quiet_token n j m from k t q me silent (λ e. subst (Wants t q) (sym (act ∙ ap (λ i. (w.nodes i).activity) (sym me ∙ e))) want) in omega arith);
}

-- a map is told
told_map : (n : ℕ) (w v : World) (j : ℕ) (o : Outcome) (m : Node) (name : Name) (t : Told) (from : ℕ) (c : Call) (front new : List What) → Hearing n w v j from (kind.InfoAsk name) o → from ≡ n → new ≡ map_lines name t → o.posts ≡ message_to m n (kind.InfoIs name t) ∷ []
    → (y : Bool) × Now n v (Waiting (ForMap name y)) → (x : Bool) → Now n w (Waiting (ForMap name x)) → Pending n w c front → Goes n c front v new
told_map n w v j o m name t from c front new h e lines posts now x was (for_section z write q is a asked) = cc
told_map n w v j o m name t from c front new h e lines posts now x was (for_delete q k f d a some) = cc
told_map n w v j o m name t from c front new h e lines posts now x was (going q a few g) = cc
told_map n w v j o m name t from c front new h e lines posts now x was (for_round part round a) = cc
told_map n w v j o m name t from c front new h e lines posts now x was (for_map q purged k f (map_answered u) a some) =
    map_alone h q purged (MapIs u) f (map_answered u) a some (let one = heard_if from n name q e (map_same name q x purged (sym was ∙ a)) in omega arith) refl
told_map n w v j o m name t from c front new h e lines posts now x was (for_map q purged k f map_asked a some) =
    let s = h.step (token (MapIs t) n name) (token_mail (MapIs t) n name) (token_whole (MapIs t) n name) in
    let sent : weigh (token (MapIs t) n name) o.posts ≡ (if same_told t t then (if n == n then of_name name name else 0) else 0) + 0 = ap (weigh (token (MapIs t) n name)) posts in
    let one = sent_if (same_told t t) n name (told_self t) in
    subst (λ r. Goes n (call.Map r) [] v new) (map_same name q x purged (sym was ∙ a))
    (waits (subst (Pending n v (call.Map name)) (sym lines) (for_map name now.0 (MapIs t) (map_lines name t) (map_answered t) now.1 (omega arith))))

got_map : (n : ℕ) (w v : World) (j : ℕ) (o : Outcome) (name : Name) (t : Told) (from : ℕ) (c : Call) (front new : List What) → Hearing n w v j from (kind.InfoIs name t) o → j ≡ n → new ≡ []
    → Now n v (Ready (map_answer name t)) → (x : Bool) → Now n w (Waiting (ForMap name x)) → Pending n w c front → Goes n c front v new
got_map n w v j o name t from c front new h e lines now x was (for_section z write q is a asked) = cc
got_map n w v j o name t from c front new h e lines now x was (for_delete q k f d a some) = cc
got_map n w v j o name t from c front new h e lines now x was (going q a few g) = cc
got_map n w v j o name t from c front new h e lines now x was (for_round part round a) = cc
got_map n w v j o name t from c front new h e lines now x was (for_map q purged k f map_asked a some) =
    map_alone h q purged MapAsk f map_asked a some (let one = heard_if j n name q e (map_same name q x purged (sym was ∙ a)) in omega arith) refl
got_map n w v j o name t from c front new h e lines now x was (for_map q purged k f (map_answered u) a some) = go (same_told u t) refl
  where
    go : (b : Bool) → same_told u t ≡ b → Goes n (call.Map q) (map_lines q u) v new
    go true s =
        let same = map_same name q x purged (sym was ∙ a) in
        let answer = ap (map_answer name) (told_is u t s) in
        ready (map_answer q u) (now ∙ ap (λ (y : Told). Ready (map_answer name y)) (sym (told_is u t s)) ∙ ap (λ r. Ready (map_answer r u)) same)
        (subst (AreLines n (call.Map q) (map_answer q u)) (sym (ap (λ ls. map_lines q u ++ ls) lines ∙ append_nil (map_lines q u))) (map_are n q u))
    go false s = map_alone h q purged (MapIs u) (map_lines q u) (map_answered u) a some (let one = heard_if j n name q e (map_same name q x purged (sym was ∙ a)) in omega arith) (other_if (same_told u t) _ s)

-- a delete is told, begins, and ends
told_delete : (n : ℕ) (w v : World) (j : ℕ) (o : Outcome) (m : Node) (name : Name) (d : DeleteTold) (from : ℕ) (c : Call) (front new : List What) → Hearing n w v j from (kind.DeleteAsk name) o → from ≡ n → new ≡ delete_lines name d → o.posts ≡ message_to m n (kind.DeleteIs name d) ∷ []
    → Now n v (Waiting (ForDelete name)) → Now n w (Waiting (ForDelete name)) → Pending n w c front → Goes n c front v new
told_delete n w v j o m name d from c front new h e lines posts now was (for_section z write q is a asked) = cc
told_delete n w v j o m name d from c front new h e lines posts now was (for_map q purged k f g a some) = cc
told_delete n w v j o m name d from c front new h e lines posts now was (for_round part round a) = cc
told_delete n w v j o m name d from c front new h e lines posts now was (going q a few g) =
    going_alone h q a q.home few g (let one = heard_if from n name q e (delete_same name q (sym was ∙ a)) in omega arith)
told_delete n w v j o m name d from c front new h e lines posts now was (for_delete q k f (delete_answered u) a some) =
    delete_alone h q (DeleteIs u) f (delete_answered u) a some (let one = heard_if from n name q e (delete_same name q (sym was ∙ a)) in omega arith) refl
told_delete n w v j o m name d from c front new h e lines posts now was (for_delete q k f delete_asked a some) =
    let s = h.step (token (DeleteIs d) n name) (token_mail (DeleteIs d) n name) (token_whole (DeleteIs d) n name) in
    let sent : weigh (token (DeleteIs d) n name) o.posts ≡ (if same_delete d d then (if n == n then of_name name name else 0) else 0) + 0 = ap (weigh (token (DeleteIs d) n name)) posts in
    let one = sent_if (same_delete d d) n name (delete_self d) in
    subst (λ r. Goes n (call.Delete r) [] v new) (delete_same name q (sym was ∙ a))
    (waits (subst (Pending n v (call.Delete name)) (sym lines) (for_delete name (DeleteIs d) (delete_lines name d) (delete_answered d) now (omega arith))))

began_delete : (n : ℕ) (w v : World) (j : ℕ) (o : Outcome) (name : Name) (from : ℕ) (c : Call) (front new : List What) → Hearing n w v j from (kind.DeleteAsk name) o → from ≡ n → new ≡ what.Deleting name ∷ [] → name.home < v.count → (lifetime_of (v.nodes name.home) name).stage ≡ stage.Going n
    → Now n v (Waiting (ForDelete name)) → Now n w (Waiting (ForDelete name)) → Pending n w c front → Goes n c front v new
began_delete n w v j o name from c front new h e lines home begun now was (for_section z write q is a asked) = cc
began_delete n w v j o name from c front new h e lines home begun now was (for_map q purged k f g a some) = cc
began_delete n w v j o name from c front new h e lines home begun now was (for_round part round a) = cc
began_delete n w v j o name from c front new h e lines home begun now was (going q a few g) =
    going_alone h q a q.home few g (let one = heard_if from n name q e (delete_same name q (sym was ∙ a)) in omega arith)
began_delete n w v j o name from c front new h e lines home begun now was (for_delete q k f (delete_answered u) a some) =
    delete_alone h q (DeleteIs u) f (delete_answered u) a some (let one = heard_if from n name q e (delete_same name q (sym was ∙ a)) in omega arith) refl
began_delete n w v j o name from c front new h e lines home begun now was (for_delete q k f delete_asked a some) =
    subst (λ r. Goes n (call.Delete r) [] v new) (delete_same name q (sym was ∙ a)) (waits (subst (Pending n v (call.Delete name)) (sym lines) (going name now home begun)))

ended_delete : (n : ℕ) (w v : World) (j : ℕ) (o : Outcome) (m : Node) (name : Name) (from : ℕ) (c : Call) (front new : List What) → Hearing n w v j from (kind.Purged name) o → new ≡ what.Deleted name ∷ [] → (lifetime_of (w.nodes j) name).stage ≡ stage.Going n
    → o.posts ≡ message_to m n (kind.DeleteIs name delete_told.Done) ∷ [] → Now n v (Waiting (ForDelete name)) → Now n w (Waiting (ForDelete name)) → Pending n w c front → Goes n c front v new
ended_delete n w v j o m name from c front new h lines g posts now was (for_section z write q is a asked) = cc
ended_delete n w v j o m name from c front new h lines g posts now was (for_map q purged k f x a some) = cc
ended_delete n w v j o m name from c front new h lines g posts now was (for_round part round a) = cc
ended_delete n w v j o m name from c front new h lines g posts now was (for_delete q k f d a some) =
    going_beside n w h.tokens q k f d a some j h.few (ap (λ r. (lifetime_of (w.nodes j) r).stage) (sym (delete_same name q (sym was ∙ a))) ∙ g)
ended_delete n w v j o m name from c front new h lines g posts now was (going q a few there) =
    let s = h.step (token (DeleteIs delete_told.Done) n name) (token_mail (DeleteIs delete_told.Done) n name) (token_whole (DeleteIs delete_told.Done) n name) in
    let sent : weigh (token (DeleteIs delete_told.Done) n name) o.posts ≡ (if n == n then of_name name name else 0) + 0 = ap (weigh (token (DeleteIs delete_told.Done) n name)) posts in
    let one = heard_if n n name name refl refl in
    subst (λ r. Goes n (call.Delete r) (what.Deleting r ∷ []) v new) (delete_same name q (sym was ∙ a))
    (waits (subst (λ ls. Pending n v (call.Delete name) (what.Deleting name ∷ ls)) (sym lines) (for_delete name (DeleteIs delete_told.Done) (delete_lines name delete_told.Done) (delete_answered delete_told.Done) now (omega arith))))

ended_own : (n : ℕ) (w v : World) (j : ℕ) (name : Name) (c : Call) (front new : List What) → j < w.count → Waits n w → new ≡ what.Deleted name ∷ [] → (lifetime_of (w.nodes j) name).stage ≡ stage.Going n
    → Now n v (Ready Done) → Now n w (Waiting (ForDelete name)) → Pending n w c front → Goes n c front v new
ended_own n w v j name c front new small tokens lines g now was (for_section z write q is a asked) = cc
ended_own n w v j name c front new small tokens lines g now was (for_map q purged k f x a some) = cc
ended_own n w v j name c front new small tokens lines g now was (for_round part round a) = cc
ended_own n w v j name c front new small tokens lines g now was (for_delete q k f d a some) =
    going_beside n w tokens q k f d a some j small (ap (λ r. (lifetime_of (w.nodes j) r).stage) (sym (delete_same name q (sym was ∙ a))) ∙ g)
ended_own n w v j name c front new small tokens lines g now was (going q a few there) =
    ready Done now (subst (λ ls. AreLines n (call.Delete q) Done (what.Deleting q ∷ ls)) (sym (lines ∙ ap (λ r. what.Deleted r ∷ []) (delete_same name q (sym was ∙ a)))) refl)

got_delete : (n : ℕ) (w v : World) (j : ℕ) (o : Outcome) (name : Name) (d : DeleteTold) (from : ℕ) (c : Call) (front new : List What) → Hearing n w v j from (kind.DeleteIs name d) o → j ≡ n → new ≡ []
    → Now n v (Ready (delete_answer d)) → Now n w (Waiting (ForDelete name)) → Pending n w c front → Goes n c front v new
got_delete n w v j o name d from c front new h e lines now was (for_section z write q is a asked) = cc
got_delete n w v j o name d from c front new h e lines now was (for_map q purged k f x a some) = cc
got_delete n w v j o name d from c front new h e lines now was (for_round part round a) = cc
got_delete n w v j o name d from c front new h e lines now was (going q a few g) =
    going_alone h q a q.home few g (let one = heard_if j n name q e (delete_same name q (sym was ∙ a)) in omega arith)
got_delete n w v j o name d from c front new h e lines now was (for_delete q k f delete_asked a some) =
    delete_alone h q DeleteAsk f delete_asked a some (let one = heard_if j n name q e (delete_same name q (sym was ∙ a)) in omega arith) refl
got_delete n w v j o name d from c front new h e lines now was (for_delete q k f (delete_answered u) a some) = go (same_delete u d) refl
  where
    go : (b : Bool) → same_delete u d ≡ b → Goes n (call.Delete q) (delete_lines q u) v new
    go true s =
        ready (delete_answer u) (now ∙ ap (λ (y : DeleteTold). Ready (delete_answer y)) (sym (delete_is u d s)))
        (subst (AreLines n (call.Delete q) (delete_answer u)) (sym (ap (λ ls. delete_lines q u ++ ls) lines ∙ append_nil (delete_lines q u))) (delete_are n q u))
    go false s = delete_alone h q (DeleteIs u) (delete_lines q u) (delete_answered u) a some (let one = heard_if j n name q e (delete_same name q (sym was ∙ a)) in omega arith) (other_if (same_delete u d) _ s)

-- a section opens, and a round is over
section_opened : (n : ℕ) (w v : World) (write : Bool) (name : Name) (guard : Guard) (c : Call) (front new : List What) → new ≡ start_line write name ∷ [] → guard.name ≡ name → ((flag : Bool) → AskedAs flag name (w.nodes n) → write ≡ flag)
    → Now n v (Ready (guard_answer write guard)) → Now n w (Waiting (ForSection name)) → Pending n w c front → Goes n c front v new
section_opened n w v write name guard c front new lines named flag now was (for_map q purged k f x a some) = cc
section_opened n w v write name guard c front new lines named flag now was (for_delete q k f d a some) = cc
section_opened n w v write name guard c front new lines named flag now was (going q a few g) = cc
section_opened n w v write name guard c front new lines named flag now was (for_round part round a) = cc
section_opened n w v write name guard c front new lines named flag now was (for_section z b q is a asked) =
    let same = section_same name q (sym was ∙ a) in
    let f = flag b (subst (λ r. AskedAs b r (w.nodes n)) (sym same) asked) in
    ready (guard_answer b guard) (now ∙ ap (λ x. Ready (guard_answer x guard)) f)
    (subst (AreLines n z (guard_answer b guard)) (sym (lines ∙ ap (λ x. start_line x name ∷ []) f ∙ ap (λ r. start_line b r ∷ []) same)) (section_are n z b q guard is (named ∙ same)))

round_over : (n : ℕ) (w v : World) (round : ℕ) (k : CallKind) (fold : Fold) (c : Call) (front new : List What) → new ≡ result_of round k fold ∷ [] → Now n v (Ready (answer_of round fold)) → Now n w (Waiting (ForRound round k)) → Pending n w c front → Goes n c front v new
round_over n w v round k fold c front new lines now was (for_section z write q is a asked) = cc
round_over n w v round k fold c front new lines now was (for_map q purged x f y a some) = cc
round_over n w v round k fold c front new lines now was (for_delete q x f d a some) = cc
round_over n w v round k fold c front new lines now was (going q a few g) = cc
round_over n w v round k fold c front new lines now was (for_round part r a) =
    let same = round_same round r k (kind_of part) (sym was ∙ a) in
    ready (answer_of round fold) now (subst (λ ls. AreLines n (call.Come part) (answer_of round fold) (what.Come part ∷ ls)) (sym (lines ∙ ap (λ x. result_of round x fold ∷ []) same.1)) (round_are n part round fold))

-- All effects of a message that is heard.
pub goes_effect : (n : ℕ) (w v : World) (j from : ℕ) (k : Kind) (o : Outcome) (rest : List Piece) (parcels : PartsGathered) (c : Call) (front : List What) → Hearing n w v j from k o
    → Effect n (record (w.nodes j) { inbox = rest; parcels = parcels }) (Hears from k) o → Pending n w c front → Goes n c front v (lines_of_node n o.entries)
goes_effect n w v j from k o rest parcels c front h (quiet lines keeps stays silent) p =
    goes_calm n w v c front _ lines (goes_quiet n w v j from k o (record (w.nodes j) { inbox = rest; parcels = parcels }) h (h.me j) refl (λ q. refl) keeps stays silent) p
goes_effect n w v j from k o rest parcels c front h (tells_map f name t e lines posts stays) p =
    let was = asker_maps h name (let one = heard_if from n name name e refl in omega arith) in
    told_map n w v j o (record (w.nodes j) { inbox = rest; parcels = parcels }) name t from c front _ h e lines posts (lasts_map name was.0 (h.act (λ x. stays (h.me j ∙ x))) was.1) was.0 was.1 p
goes_effect n w v j from k o rest parcels c front h (tells_delete f name d e lines posts stays) p =
    let was = asker_deletes h name (let one = heard_if from n name name e refl in omega arith) in
    told_delete n w v j o (record (w.nodes j) { inbox = rest; parcels = parcels }) name d from c front _ h e lines posts (lasts_delete name (h.act (λ x. stays (h.me j ∙ x))) was) was p
goes_effect n w v j from k o rest parcels c front h (begins f name e lines mine begun stays) p =
    let was = asker_deletes h name (let one = heard_if from n name name e refl in omega arith) in
    let home : name.home ≡ j = eqb-true name.home (w.nodes j).me mine ∙ h.me j in
    began_delete n w v j o name from c front _ h e lines (let few = h.few in subst (λ z. z < v.count) (sym home) (subst (λ z. j < z) (sym h.count) few)) (h.begins_at name home begun)
    (lasts_delete name (h.act (λ x. stays (h.me j ∙ x))) was) was p
goes_effect n w v j from k o rest parcels c front h (ends f name lines mine g posts stays) p =
    let was = deleter_waits n w h.tokens name j h.few g in
    ended_delete n w v j o (record (w.nodes j) { inbox = rest; parcels = parcels }) name from c front _ h lines g posts (lasts_delete name (h.act (λ x. stays (h.me j ∙ x))) was) was p
goes_effect n w v j from k o rest parcels c front h (opens write name guard own act flag named now lines) p =
    let e = sym (h.me j) ∙ own in
    section_opened n w v write name guard c front _ lines named (λ f a. flag f (let b = subst (λ i. AskedAs f name (w.nodes i)) (sym e) a in record { home = b.home; side = b.side })) (h.ready _ e now)
    (ap (λ i. (w.nodes i).activity) (sym e) ∙ act) p
goes_effect n w v j from k o rest parcels c front h (gets_map f name t purged own act lines now) p =
    let e = sym (h.me j) ∙ own in got_map n w v j o name t from c front _ h e lines (h.ready _ e now) purged (ap (λ i. (w.nodes i).activity) (sym e) ∙ act) p
goes_effect n w v j from k o rest parcels c front h (gets_delete f name d own act lines now) p =
    let e = sym (h.me j) ∙ own in got_delete n w v j o name d from c front _ h e lines (h.ready _ e now) (ap (λ i. (w.nodes i).activity) (sym e) ∙ act) p
goes_effect n w v j from k o rest parcels c front h (ends_own f name own mine g act lines now) p =
    let e = sym (h.me j) ∙ own in ended_own n w v j name c front _ h.few h.tokens lines g (h.ready _ e now) (ap (λ i. (w.nodes i).activity) (sym e) ∙ act) p
goes_effect n w v j from k o rest parcels c front h (gets_round round x fold own act lines now) p =
    let e = sym (h.me j) ∙ own in round_over n w v round x fold c front _ lines (h.ready _ e now) (ap (λ i. (w.nodes i).activity) (sym e) ∙ act) p

-- where node n doesn't wait, nothing is recorded for it
pub idle_effect : (n : ℕ) (w v : World) (j from : ℕ) (k : Kind) (o : Outcome) (rest : List Piece) (parcels : PartsGathered) → Hearing n w v j from k o → Effect n (record (w.nodes j) { inbox = rest; parcels = parcels }) (Hears from k) o
    → ((a : Awaited) → (w.nodes n).activity ≡ Waiting a → ⊥) → (lines_of_node n o.entries ≡ []) × Lasts (w.nodes n).activity (v.nodes n).activity
idle_effect n w v j from k o rest parcels h (quiet lines keeps stays silent) none = (lines, h.act (λ e. stays (h.me j ∙ e)))
idle_effect n w v j from k o rest parcels h (tells_map f name t e lines posts stays) none = absurd (let was = asker_maps h name (let one = heard_if from n name name e refl in omega arith) in none _ was.1)
idle_effect n w v j from k o rest parcels h (tells_delete f name d e lines posts stays) none = absurd (none _ (asker_deletes h name (let one = heard_if from n name name e refl in omega arith)))
idle_effect n w v j from k o rest parcels h (begins f name e lines mine begun stays) none = absurd (none _ (asker_deletes h name (let one = heard_if from n name name e refl in omega arith)))
idle_effect n w v j from k o rest parcels h (ends f name lines mine g posts stays) none = absurd (none _ (deleter_waits n w h.tokens name j h.few g))
idle_effect n w v j from k o rest parcels h (opens write name guard own act flag named now lines) none = absurd (none _ (ap (λ i. (w.nodes i).activity) (sym (sym (h.me j) ∙ own)) ∙ act))
idle_effect n w v j from k o rest parcels h (gets_map f name t purged own act lines now) none = absurd (none _ (ap (λ i. (w.nodes i).activity) (sym (sym (h.me j) ∙ own)) ∙ act))
idle_effect n w v j from k o rest parcels h (gets_delete f name d own act lines now) none = absurd (none _ (ap (λ i. (w.nodes i).activity) (sym (sym (h.me j) ∙ own)) ∙ act))
idle_effect n w v j from k o rest parcels h (ends_own f name own mine g act lines now) none = absurd (none _ (ap (λ i. (w.nodes i).activity) (sym (sym (h.me j) ∙ own)) ∙ act))
idle_effect n w v j from k o rest parcels h (gets_round round x fold own act lines now) none = absurd (none _ (ap (λ i. (w.nodes i).activity) (sym (sym (h.me j) ∙ own)) ∙ act))

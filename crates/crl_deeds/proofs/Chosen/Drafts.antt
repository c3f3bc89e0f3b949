-- The draft of each write section has the section's length, in runs that follow a script.
use Rattle.std.proofs.Common.{◌≡◌, ℕ, zero, suc, ◌+◌, ◌&&◌, ◌==◌, Bool, true, false, None, Some, Option, List, [], ◌∷◌, length, if◌then◌else◌, refl, ap, sym, subst}
use Rattle.std.specs.List.{All, AllByRecursion}
use Rattle.std.proofs.lemmas.Bool.{cond_both, and_parts}
use Rattle.std.proofs.lemmas.List.Elements.{recursion_from_All}
use Rattle.crl_model.specs.declared.name.Name.{Name}
use Rattle.crl_model.specs.declared.directory.Section.{Section}
use Rattle.crl_model.specs.declared.directory.Section.TheVariants as section
use Rattle.crl_model.specs.declared.collective.Fold.{Fold}
use Rattle.crl_model.specs.declared.collective.Fold.TheVariants as fold
use Rattle.crl_model.specs.declared.call.Call.{Call}
use Rattle.crl_model.specs.declared.entry.What.{What}
use Rattle.crl_model.specs.declared.event.Event.{Event}
use Rattle.crl_model.specs.declared.event.Event.TheVariants as event
use Rattle.crl_model.specs.declared.message.DeleteTold.{DeleteTold}
use Rattle.crl_model.specs.declared.message.DeleteTold.TheVariants as delete_told
use Rattle.crl_model.specs.declared.statement.Statement.{Statement}
use Rattle.crl_model.specs.Names.{at_node, at_name}
use Rattle.crl_pieces.specs.Pieces.{is_missing, is_complete, joined}
use Rattle.crl_protocol.specs.Parcels.{Piece, with_load, Key, key_of, slots_or, at_key, fits_size}
use Rattle.crl_protocol.specs.Receiving.{size_for, slots_with, gathers_piece, receives_part, receives_as, receives}
use Rattle.crl_protocol.specs.Places.{Taken, take_out}
use Rattle.crl_protocol.specs.Home.{one_section_more, one_section_less}
use Rattle.crl_protocol.specs.Sections.{OpenSection, Sections, begins_to_read, section_begins, section_ends, ends_over, is_writing}
use Rattle.crl_protocol.specs.Node.{Node, Answer, Made, Mapped, Reading, Writing, Done, Came, Refused, Wait, Activity, Free, Waiting, Ready, ForMap, Outcome}
use Rattle.crl_protocol.specs.Sectioning.{closes}
use Rattle.crl_protocol.specs.Remote.{asks_to_write}
use Rattle.crl_model.specs.FoldOf.{fold_of}
use Rattle.crl_protocol.specs.Calls.{answer_of, node_calls}
use Rattle.crl_protocol.specs.Handlers.{delete_answer, purges_waiting}
use Rattle.crl_protocol.specs.World.{commits, steps_node, collects, handles_at, put_in, carries, note, step, is_enabled}
use Rattle.crl_protocol.specs.Chosen.{Actor, Running, block_of, running, takes_guard, going_on, goes_on}
use Rattle.crl_deeds.specs.Deeds.{FreeIf, Cause, opened_at, Copies, Lives, Rounds, Notes, Deed, Serves}
use Rattle.crl_deeds.specs.Laws.{IsStatement, AreStatements, node_of}
use Rattle.crl_deeds.specs.NodeFacts.{Comes, Leaves, Fits, AllFit}
use Rattle.crl_deeds.specs.Turns.{Came as CameWith}
use Rattle.crl_deeds.proofs.Cases.Called.{call_deed}
use Rattle.crl_deeds.proofs.Cases.Heard.{message_deed}
use Rattle.crl_deeds.proofs.Fits.Names.{by_name}
use Rattle.crl_deeds.proofs.Fits.Waits.{own_waits, grant_waits}
use Rattle.crl_deeds.proofs.Fits.Worlds.{by_node, away_load, fits_parcels, all_taken, fits_start, fits_event}
use Rattle.crl_deeds.proofs.Tokens.Maps.{going_own}
use Rattle.crl_deeds.specs.Deeds as deed
use Rattle.crl_deeds.proofs.Runs.Enabled.{free_is}

-- The drafts after an answer, and those that a node's actor will have once it has the answer that is ready.
abbrev pub begins : Answer → (Name → List ℕ) → Name → List ℕ
begins (Writing guard) drafts = at_name drafts guard.name guard.bytes
begins (Made name) drafts = drafts
begins (Mapped name size) drafts = drafts
begins (Reading guard) drafts = drafts
begins Done drafts = drafts
begins (Came round fold) drafts = drafts
begins (Refused why) drafts = drafts
begins Wait drafts = drafts

abbrev pub begun : Activity → (Name → List ℕ) → Name → List ℕ
begun (Ready answer) drafts = begins answer drafts
begun Free drafts = drafts
begun (Waiting awaited) drafts = drafts

-- the draft of a write section has its length
abbrev pub LengthFits : Section → ℕ → ℕ → Type 0
LengthFits section.Closed a b = Unit {0}
LengthFits (section.Reading count) a b = Unit {0}
LengthFits section.Writing a b = a ≡ b

abbrev pub DraftFits : Option OpenSection → List ℕ → Type 0
DraftFits None draft = Unit {0}
DraftFits (Some r) draft = LengthFits r.section (length draft) (length r.bytes)

abbrev pub DraftsOf : (Name → Option OpenSection) → (Name → List ℕ) → Type 0
DraftsOf records drafts = (q : Name) → DraftFits (records q) (drafts q)

-- all drafts of a node's actor, once it has the answer that is ready
abbrev pub DraftsFit : Node → (Name → List ℕ) → Type 0
DraftsFit n d = DraftsOf n.sections.records (begun n.activity d)

-- A section opens or ends.
more_draft : (s : Section) (a b : ℕ) → LengthFits s a b → LengthFits (one_section_more s) a b
more_draft section.Closed a b f = tt
more_draft (section.Reading count) a b f = tt
more_draft section.Writing a b f = f

reads_draft : (name : Name) (o : Option OpenSection) (bytes : List ℕ) (s : Sections) (d : Name → List ℕ) → s.records name ≡ o → DraftsOf s.records d → DraftsOf (begins_to_read name o bytes s).sections.records d
reads_draft name None bytes s d e h = by_name name (λ b q. DraftFits (if b then Some (record { section = section.Reading 1; number = s.last + 1; bytes = bytes }) else s.records q) (d q)) tt (λ q w. h q)
reads_draft name (Some r) bytes s d e h =
    by_name name (λ b q. DraftFits (if b then Some (record r { section = one_section_more r.section }) else s.records q) (d q))
    (more_draft r.section _ _ (subst (λ y. DraftFits y (d name)) e (h name))) (λ q w. h q)

opens_draft : (write : Bool) (name : Name) (bytes : List ℕ) (n : Node) (d : Name → List ℕ) → DraftsOf n.sections.records d → let o = opened_at write name bytes n in DraftsOf o.node.sections.records (begins o.answer d)
unfolding section_begins
opens_draft true name bytes n d h =
    by_name name (λ b q. DraftFits (if b then Some (record { section = section.Writing; number = n.sections.last + 1; bytes = bytes }) else n.sections.records q) (if b then bytes else d q)) refl (λ q w. h q)
opens_draft false name bytes n d h = reads_draft name (n.sections.records name) bytes n.sections d refl h

abbrev less : OpenSection → Section → Option OpenSection
less r s = elim s [ section.Closed ↦ None | section.Reading count ↦ Some (record r { section = section.Reading count }) | section.Writing ↦ None ]

less_draft : (r : OpenSection) (s : Section) (draft : List ℕ) → DraftFits (less r s) draft
less_draft r section.Closed draft = tt
less_draft r (section.Reading count) draft = tt
less_draft r section.Writing draft = tt

ends_draft : (name : Name) (o : Option OpenSection) (s : Sections) (d : Name → List ℕ) → DraftsOf s.records d → DraftsOf (ends_over name o s).records d
ends_draft name None s d h = h
ends_draft name (Some r) s d h = by_name name (λ b q. DraftFits (if b then less r (one_section_less r.section) else s.records q) (d q)) (less_draft r _ _) (λ q w. h q)

closes_draft : (name : Name) (n : Node) (d : Name → List ℕ) → DraftsOf n.sections.records d → DraftsOf (closes name n).sections.records d
unfolding section_ends
closes_draft name n d h = ends_draft name (n.sections.records name) n.sections d h

-- A deed.
as_is : (records : Name → Option OpenSection) (a : Activity) (d : Name → List ℕ) → begun a d ≡ d → DraftsOf records (begun a d) → DraftsOf records d
as_is records a d e h = subst (λ x. DraftsOf records x) e h

anew : (records : Name → Option OpenSection) (a : Activity) (d : Name → List ℕ) → begun a d ≡ d → DraftsOf records d → DraftsOf records (begun a d)
anew records a d e h = subst (λ x. DraftsOf records x) (sym e) h

of_free : (a : Activity) (d : Name → List ℕ) → a ≡ Free → begun a d ≡ d
of_free a d e = ap (λ x. begun x d) e

fold_quiet : (round : ℕ) (f : Fold) (d : Name → List ℕ) → begins (answer_of round f) d ≡ d
fold_quiet round fold.Mixed d = refl
fold_quiet round _ d = refl

delete_quiet : (t : DeleteTold) (d : Name → List ℕ) → begins (delete_answer t) d ≡ d
delete_quiet delete_told.Done d = refl
delete_quiet _ d = refl

purged_quiet : (name : Name) (a : Activity) (d : Name → List ℕ) → begun (purges_waiting name a) d ≡ begun a d
purged_quiet name (Waiting (ForMap p purged)) d = refl
purged_quiet name _ d = refl

abbrev After : Outcome → (Name → List ℕ) → Type 0
After o d = DraftsFit o.node (begins o.answer d)

drafts_copies : (j : ℕ) (n : Node) (cause : Cause) (o : Outcome) (d : Name → List ℕ) → Copies n cause o → Fits j n → CameWith Leaves n.me cause → FreeIf cause n → DraftsFit n d → After o d
drafts_copies j n cause o d (deed.home_opens c write name h is e v x) f away free k = anew _ n.activity _ (of_free _ _ free) (opens_draft write name _ n d (as_is _ n.activity d (of_free _ _ free) k))
drafts_copies j n cause o d (deed.side_opens c write name r is e g v x) f away free k = anew _ n.activity _ (of_free _ _ free) (opens_draft write name _ n d (as_is _ n.activity d (of_free _ _ free) k))
drafts_copies j n cause o d (deed.home_waits c write name h is e v x) f away free k = as_is _ n.activity d (of_free _ _ free) k
drafts_copies j n cause o d (deed.side_waits c write name r is e g v x) f away free k = as_is _ n.activity d (of_free _ _ free) k
drafts_copies j n cause o d (deed.home_ends c name w ends lowers h is e) f away free k = closes_draft name n _ k
drafts_copies j n cause o d (deed.side_ends c name w ends lowers r is e g) f away free k = closes_draft name n _ k
drafts_copies j n cause o d (deed.home_serves_own from x name h s is e y) f away free k = opens_draft (is_writing s.home.mine) name _ n d (as_is _ n.activity d (ap (λ a. begun a d) (own_waits j n h from x name s is e y away f)) k)
drafts_copies j n cause o d (deed.grant_comes from name version g r e t) f away free k = opens_draft (asks_to_write r.asking) name _ n d (as_is _ n.activity d (ap (λ a. begun a d) (grant_waits j n name g r e t f)) k)
drafts_copies j n cause o d _ f away free k = k

drafts_lives : (j : ℕ) (n : Node) (cause : Cause) (o : Outcome) (d : Name → List ℕ) → Lives n cause o → Fits j n → FreeIf cause n → DraftsFit n d → After o d
drafts_lives j n cause o d (deed.map_asks name e other c real) f free k = as_is _ n.activity d (of_free _ _ free) k
drafts_lives j n cause o d (deed.map_comes from name purged size e) f free k = as_is _ n.activity d (ap (λ a. begun a d) e) k
drafts_lives j n cause o d (deed.map_denied from name purged s why t x u e) f free k = as_is _ n.activity d (ap (λ a. begun a d) e) k
drafts_lives j n cause o d (deed.deletes_own name m ms mine live e) f free k = as_is _ n.activity d (of_free _ _ free) k
drafts_lives j n cause o d (deed.delete_asks name other real) f free k = as_is _ n.activity d (of_free _ _ free) k
drafts_lives j n cause o d (deed.delete_comes from name t e) f free k = anew _ (Ready (delete_answer t)) d (delete_quiet t d) (as_is _ n.activity d (ap (λ a. begun a d) e) k)
drafts_lives j n cause o d (deed.warns from name e c) f free k = subst (λ x. DraftsOf n.sections.records x) (sym (purged_quiet name n.activity d)) k
drafts_lives j n cause o d (deed.ends_own from name mine e missing last) f free k = as_is _ n.activity d (ap (λ a. begun a d) (going_own n.me name _ n.activity (f.each name).going e)) k
drafts_lives j n cause o d _ f free k = k

drafts_rounds : (n : Node) (cause : Cause) (o : Outcome) (d : Name → List ℕ) → Rounds n cause o → FreeIf cause n → DraftsFit n d → After o d
drafts_rounds n cause o d (deed.comes_away part other fits) free k = as_is _ n.activity d (of_free _ _ free) k
drafts_rounds n cause o d (deed.comes_home part first fits all) free k = as_is _ n.activity d (of_free _ _ free) k
drafts_rounds n cause o d (deed.comes_last part parts first fits all) free k = subst (λ x. DraftsOf n.sections.records (begun n.activity x)) (sym (fold_quiet _ (fold_of parts) d)) k
drafts_rounds n cause o d (deed.part_last from round part parts mine x e a all) free k = anew _ (Ready (answer_of mine (fold_of parts))) d (fold_quiet _ (fold_of parts) d) (as_is _ n.activity d (ap (λ y. begun y d) e) k)
drafts_rounds n cause o d (deed.result_comes from round v x e) free k = anew _ (Ready (answer_of round v)) d (fold_quiet _ v d) (as_is _ n.activity d (ap (λ y. begun y d) e) k)
drafts_rounds n cause o d _ free k = k

drafts_notes : (n : Node) (c : Call) (w : What) (m : Node) (d : Name → List ℕ) → Notes n c w m → DraftsFit n d → DraftsFit m d
drafts_notes n c w m d (deed.ends_nowhere x name y ends lowers is e) k = closes_draft name n _ k
drafts_notes n c w m d _ k = k

drafts_deed : (j : ℕ) (n : Node) (cause : Cause) (o : Outcome) (d : Name → List ℕ) → Deed n cause o → Fits j n → CameWith Leaves n.me cause → FreeIf cause n → DraftsFit n d → After o d
drafts_deed j n cause o d (deed.copies c) f away free k = drafts_copies j n cause o d c f away free k
drafts_deed j n cause o d (deed.lives c) f away free k = drafts_lives j n cause o d c f free k
drafts_deed j n cause o d (deed.rounds c) f away free k = drafts_rounds n cause o d c free k
drafts_deed j n cause o d (deed.notes c) f away free k = drafts_notes n _ _ _ d c k
drafts_deed j n cause o d _ f away free k = k

-- A piece that comes.
drafts_piece : (j : ℕ) (n : Node) (d : Name → List ℕ) (o : Option Key) (p : Piece) → Comes n.me p.message → Fits j n → DraftsFit n d → After (receives_as o p n) d
drafts_piece j n d None p away f k = drafts_deed j n _ _ d (message_deed n p.message.sender p.message.kind) f away tt k
drafts_piece j n d (Some key) p away f k = go (size_for key.load key.name n)
  where
    gathered : (slots : List (Option (List ℕ))) → After (gathers_piece key p slots n) d
    gathered slots =
        cond_both (is_complete slots) _ _ (λ (x : Outcome). After x d)
        (λ w. drafts_deed j (record n { parcels = at_key n.parcels key None }) _ _ d (message_deed (record n { parcels = at_key n.parcels key None }) p.message.sender (with_load (joined slots) p.message.kind))
        (fits_parcels j n (at_key n.parcels key None) f) (subst (λ (x : Type 0). x) (away_load p.message.sender n.me (joined slots) p.message.kind) away) tt k) (λ w. k)

    go : (size : Option ℕ) → After (receives_part key p size n) d
    go None = k
    go (Some size) = cond_both (fits_size size p && is_missing p.index (slots_or p.pieces (n.parcels key))) _ _ (λ (x : Outcome). After x d) (λ w. gathered (slots_with p (n.parcels key))) (λ w. k)

-- What holds of the nodes and actors of a run.
pub record Sound (r : Running) : Type 0 where
  pub fits : AllFit r.world
  pub drafts : (i : ℕ) → DraftsFit (r.world.nodes i) (r.actors i).drafts
  pub left : (i : ℕ) → AllByRecursion IsStatement (r.actors i).left

all_blocks : (blocks : List (List Statement)) (i : ℕ) → AllByRecursion (λ block. AllByRecursion IsStatement block) blocks → AllByRecursion IsStatement (block_of blocks i)
all_blocks [] i h = tt
all_blocks (b ∷ blocks) zero h = h.0
all_blocks (b ∷ blocks) (suc i) h = all_blocks blocks i h.1

inner : (blocks : List (List Statement)) → AllByRecursion (λ block. All IsStatement block) blocks → AllByRecursion (λ block. AllByRecursion IsStatement block) blocks
inner [] h = tt
inner (b ∷ blocks) h = (recursion_from_All IsStatement b h.0, inner blocks h.1)

pub sound_start : (count capacity : ℕ) (blocks : List (List Statement)) → AreStatements blocks → Sound (running count capacity blocks)
sound_start count capacity blocks h = record {
  fits = λ i. fits_start count capacity i;
  drafts = λ i q. tt;
  left = λ i. all_blocks blocks i (inner blocks (recursion_from_All (λ block. All IsStatement block) blocks h));
}

given_drafts : (answer : Answer) (a : Actor) → (takes_guard answer a).drafts ≡ begins answer a.drafts
given_drafts (Made name) a = refl
given_drafts (Mapped name size) a = refl
given_drafts (Reading guard) a = refl
given_drafts (Writing guard) a = refl
given_drafts Done a = refl
given_drafts (Came round fold) a = refl
given_drafts (Refused why) a = refl
given_drafts Wait a = refl

pub given_left : (answer : Answer) (a : Actor) → (takes_guard answer a).left ≡ a.left
given_left (Made name) a = refl
given_left (Mapped name size) a = refl
given_left (Reading guard) a = refl
given_left (Writing guard) a = refl
given_left Done a = refl
given_left (Came round fold) a = refl
given_left (Refused why) a = refl
given_left Wait a = refl

left_given : (r : Running) (i : ℕ) (answer : Answer) → Sound r → (j : ℕ) → AllByRecursion IsStatement (at_node r.actors i (takes_guard answer (r.actors i)) j).left
left_given r i answer s =
    by_node i (λ b j. AllByRecursion IsStatement (if b then takes_guard answer (r.actors i) else r.actors j).left)
    (subst (λ x. AllByRecursion IsStatement x) (sym (given_left answer (r.actors i))) (s.left i)) s.left

drafts_stepped : (r : Running) (i : ℕ) (e f : Event) (o : Outcome) → After o (r.actors i).drafts → ((j : ℕ) → DraftsFit (r.world.nodes j) (r.actors j).drafts)
    → (j : ℕ) → DraftsFit ((steps_node i e o r.world).world.nodes j) ((going_on i f (steps_node i e o r.world) r).actors j).drafts
drafts_stepped r i e f o k s =
    by_node i (λ b j. DraftsFit (if b then commits r.world.events e o else r.world.nodes j) (if b then takes_guard o.answer (r.actors i) else r.actors j).drafts)
    (subst (λ x. DraftsFit o.node x) (sym (given_drafts o.answer (r.actors i))) k) s

drafts_collected : (n : Node) (a : Activity) (d : Name → List ℕ) → n.activity ≡ a → DraftsFit n d → After (collects a n) d
drafts_collected n Free d e k = k
drafts_collected n (Waiting awaited) d e k = k
drafts_collected n (Ready answer) d e k = subst (λ a. DraftsOf n.sections.records (begun a d)) e k

-- the node has the same sections and activity
drafts_rest : (r : Running) (i : ℕ) → ((j : ℕ) → DraftsFit (r.world.nodes j) (r.actors j).drafts) → (j : ℕ) → DraftsFit (r.world.nodes j) (if i == j then r.actors i else r.actors j).drafts
drafts_rest r i s = by_node i (λ b j. DraftsFit (r.world.nodes j) (if b then r.actors i else r.actors j).drafts) (s i) s

drafts_handled : (r : Running) (i place : ℕ) (e f : Event) (o : Option (Taken Piece)) → take_out place (r.world.nodes i).inbox ≡ o → Sound r
    → (j : ℕ) → DraftsFit ((handles_at i e o r.world).world.nodes j) ((going_on i f (handles_at i e o r.world) r).actors j).drafts
drafts_handled r i place e f None w s = drafts_rest r i s.drafts
drafts_handled r i place e f (Some t) w s =
    let fits = s.fits i in
    let parts = all_taken (λ (p : Piece). Comes (r.world.nodes i).me p.message) place (r.world.nodes i).inbox t w fits.inbox in
    let taken : Node = record (r.world.nodes i) { inbox = t.rest } in
    let g : Fits i taken = record { me = fits.me; each = fits.each; cache = fits.cache; fresh = fits.fresh; inbox = parts.1; outbox = fits.outbox } in
    drafts_stepped r i e f (receives t.taken taken) (drafts_piece i taken (r.actors i).drafts (key_of t.taken.message) t.taken parts.0 g (s.drafts i)) s.drafts

drafts_carried : (r : Running) (i : ℕ) (e f : Event) (o : Option (Taken Piece)) → Sound r
    → (j : ℕ) → DraftsFit ((carries i e o r.world).world.nodes j) ((going_on i f (carries i e o r.world) r).actors j).drafts
drafts_carried r i e f None s = drafts_rest r i s.drafts
drafts_carried r i e f (Some t) s = λ j. by_node t.taken.message.addressee (λ b l. DraftsFit (if b then put_in t.taken (between t.taken.message.addressee) else between l) (if i == l then r.actors i else r.actors l).drafts)
    (sent t.taken.message.addressee) sent j
  where
    sender : Node
    sender = note r.world.events e (record (r.world.nodes i) { outbox = t.rest })

    between : ℕ → Node
    between = at_node r.world.nodes i sender

    sent : (j : ℕ) → DraftsFit (between j) (if i == j then r.actors i else r.actors j).drafts
    sent = by_node i (λ b j. DraftsFit (if b then sender else r.world.nodes j) (if b then r.actors i else r.actors j).drafts) (s.drafts i) s.drafts

drafts_event : (r : Running) (e : Event) → is_enabled e r.world ≡ true → Sound r → (j : ℕ) → DraftsFit ((step e r.world).world.nodes j) ((goes_on (node_of e) e r).actors j).drafts
unfolding step is_enabled
drafts_event r (event.Call i c) h s =
    let parts = and_parts _ _ (and_parts _ _ h).1 in
    drafts_stepped r i _ (event.Call i c) (node_calls c (r.world.nodes i)) (drafts_deed i (r.world.nodes i) _ _ _ (call_deed (r.world.nodes i) c) (s.fits i) tt (free_is _ parts.0) (s.drafts i)) s.drafts
drafts_event r (event.Collect i) h s =
    drafts_stepped r i _ (event.Collect i) (collects (r.world.nodes i).activity (r.world.nodes i)) (drafts_collected (r.world.nodes i) (r.world.nodes i).activity (r.actors i).drafts refl (s.drafts i)) s.drafts
drafts_event r (event.Handle i place) h s = drafts_handled r i place (event.Handle i place) (event.Handle i place) (take_out place (r.world.nodes i).inbox) refl s
drafts_event r (event.Carry i place) h s = drafts_carried r i (event.Carry i place) (event.Carry i place) (take_out place (r.world.nodes i).outbox) s

left_event : (r : Running) (e : Event) → Sound r → (j : ℕ) → AllByRecursion IsStatement ((goes_on (node_of e) e r).actors j).left
left_event r e s = left_given r (node_of e) (step e r.world).answer s

-- any event that may come
pub sound_event : (r : Running) (e : Event) → is_enabled e r.world ≡ true → Sound r → Sound (goes_on (node_of e) e r)
sound_event r e h s = record { fits = fits_event r.world e h s.fits; drafts = drafts_event r e h s; left = left_event r e s }

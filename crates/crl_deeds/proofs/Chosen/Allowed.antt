-- A run that follows a script makes only calls that may come, and its drafts keep their lengths.
use Rattle.std.proofs.Common.{◌≡◌, ℕ, ◌+◌, ◌^◌, ◌%◌, ◌<◌, ◌≤◌, true, false, ◌&&◌, None, Some, Option, List, ◌∷◌, length, if◌then◌else◌, refl, ap, sym, ◌∙◌, subst, arith, length-take, length-drop, length-append}
use Rattle.std.specs.Int.{to_be_bytes, from_be_bytes, w64}
use Rattle.std.specs.List.{AllByRecursion}
use Rattle.std.proofs.lemmas.Bool.{eq-eqb, and_from, lt-ltb, ltb-false, not-false}
use Rattle.crl_model.specs.declared.name.Name.{Name}
use Rattle.crl_model.specs.declared.directory.Section.{Section}
use Rattle.crl_model.specs.declared.directory.Section.TheVariants as section
use Rattle.crl_model.specs.declared.call.Call.{Call}
use Rattle.crl_model.specs.declared.call.Call.TheVariants as call
use Rattle.crl_model.specs.declared.call.Refusal.{Refusal}
use Rattle.crl_model.specs.declared.event.Event.{Event}
use Rattle.crl_model.specs.declared.event.Event.TheVariants as event
use Rattle.crl_model.specs.declared.statement.Statement.{Statement}
use Rattle.crl_model.specs.declared.statement.Statement.TheVariants as statement
use Rattle.crl_model.specs.Names.{at_name}
use Rattle.crl_model.specs.Patches.{put_at}
use Rattle.crl_protocol.specs.Sections.{OpenSection, section_of, section_at, section_bytes, bytes_at, is_writing}
use Rattle.crl_protocol.specs.Node.{Node, Free}
use Rattle.crl_protocol.specs.Verdict.{mapped_size, verdict}
use Rattle.crl_protocol.specs.World.{is_enabled, is_free, is_call, IsRunFrom}
use Rattle.crl_protocol.specs.Chosen.{Actor, Running, draft_of, call_with, call_of, eight_at, with_sum, after_change, is_change, is_allowed, goes_on, with_actor}
use Rattle.crl_deeds.specs.Laws.{IsStatement, IsNext, past_statement, next_call, is_inside, Follows, ended, changes, calls, happens}
use Rattle.crl_deeds.specs.NodeFacts.{Fits}
use Rattle.crl_deeds.proofs.Chosen.Drafts.{begun, LengthFits, DraftFits, DraftsOf, DraftsFit, Sound, sound_event}
use Rattle.crl_deeds.proofs.Fits.AllCalls.{allowed_by}
use Rattle.crl_deeds.proofs.Fits.LifetimeCalls.{none_of}
use Rattle.crl_deeds.proofs.Fits.Names.{by_name}
use Rattle.crl_deeds.proofs.Fits.SectionCalls.{open_size}
use Rattle.crl_deeds.proofs.Fits.Worlds.{by_node}

-- The draft of an open write section has the section's length.
draft_length : (o : Option OpenSection) (draft : List ℕ) → is_writing (section_of o) ≡ true → DraftFits o draft → length draft ≡ length (section_bytes o)
draft_length None draft w f = cc
draft_length (Some r) draft w f = of_section r.section w f
  where
    of_section : (s : Section) → is_writing s ≡ true → LengthFits s (length draft) (length r.bytes) → length draft ≡ length r.bytes
    of_section section.Closed w f = cc
    of_section (section.Reading count) w f = cc
    of_section section.Writing w f = f

writing_draft : (n : Node) (d : Name → List ℕ) (name : Name) → n.activity ≡ Free → is_writing (section_at name n.sections) ≡ true → DraftsFit n d
    → length (d name) ≡ length (bytes_at name n.sections)
writing_draft n d name e w k = draft_length (n.sections.records name) (d name) w (subst (λ a. DraftFits (n.sections.records name) (begun a d name)) e (k name))

-- and the size under which the region is mapped
writing_size : (i : ℕ) (n : Node) (d : Name → List ℕ) (name : Name) → n.activity ≡ Free → is_writing (section_at name n.sections) ≡ true → Fits i n → DraftsFit n d
    → length (d name) ≡ mapped_size (n.maps name)
writing_size i n d name e w f k =
    let size = open_size (n.sections.records name) (n.maps name) w (f.each name).sections in writing_draft n d name e w k ∙ size.2 ∙ sym (ap mapped_size size.1)

-- A change keeps the draft's length.
pub put_length : (offset : ℕ) (bytes old : List ℕ) → offset + length bytes ≤ length old → length (put_at offset bytes old) ≡ length old
put_length offset bytes old h = simp (length-append, length-take, length-drop) (omega arith)

same_length : (s : Section) (a b c : ℕ) → a ≡ b → LengthFits s b c → LengthFits s a c
same_length section.Closed a b c e f = tt
same_length (section.Reading count) a b c e f = tt
same_length section.Writing a b c e f = e ∙ f

same_draft : (o : Option OpenSection) (x y : List ℕ) → length x ≡ length y → DraftFits o y → DraftFits o x
same_draft None x y e f = tt
same_draft (Some r) x y e f = same_length r.section (length x) (length y) (length r.bytes) e f

draft_put : (n : Node) (d : Name → List ℕ) (name : Name) (bytes : List ℕ) → n.activity ≡ Free → length bytes ≡ length (d name) → DraftsFit n d → DraftsFit n (at_name d name bytes)
draft_put n d name bytes free e k =
    subst (λ a. DraftsOf n.sections.records (begun a (at_name d name bytes))) (sym free)
    (by_name name (λ b p. DraftFits (n.sections.records p) (if b then bytes else d p)) (same_draft (n.sections.records name) bytes (d name) e (was name)) (λ p w. was p))
  where
    was : DraftsOf n.sections.records d
    was = subst (λ a. DraftsOf n.sections.records (begun a d)) free k

-- what an allowed change may do
in_range : (n : Node) (name : Name) (offset len : ℕ) → verdict n (call.Put name offset len) ≡ None
    → (is_writing (section_at name n.sections) ≡ true) × (offset + len ≤ mapped_size (n.maps name))
unfolding verdict
in_range n name offset len v =
    let parts = none_of _ _ (none_of _ _ v).1 in (not-false _ (allowed_by _ _ parts.0), ltb-false _ _ (allowed_by _ _ parts.1))

in_range_added : (n : Node) (name : Name) (offset : ℕ) → verdict n (call.Add name offset) ≡ None
    → (is_writing (section_at name n.sections) ≡ true) × (offset + 8 ≤ mapped_size (n.maps name))
unfolding verdict
in_range_added n name offset v =
    let parts = none_of _ _ (none_of _ _ v).1 in (not-false _ (allowed_by _ _ parts.0), ltb-false _ _ (allowed_by _ _ parts.1))

pub allowed : (o : Option Refusal) → is_allowed o ≡ true → o ≡ None
allowed None e = refl
allowed (Some why) e = cc

fits_changed : (i : ℕ) (n : Node) (a : Actor) (s : Statement) → n.activity ≡ Free → (is_change s && is_allowed (verdict n (call_of n a s))) ≡ true
    → Fits i n → DraftsFit n a.drafts → DraftsFit n (after_change s a).drafts
fits_changed i n a (statement.Call c) free h f k = k
fits_changed i n a (statement.Put name offset bytes) free h f k =
    let range = in_range n name offset (length bytes) (allowed _ h) in
    let size = writing_size i n a.drafts name free range.0 f k in
    let within : offset + length bytes ≤ length (a.drafts name) = subst (λ z. offset + length bytes ≤ z) (sym size) range.1 in
    draft_put n a.drafts name (put_at offset bytes (a.drafts name)) free (put_length offset bytes (a.drafts name) within) k
fits_changed i n a (statement.Add name offset number) free h f k =
    let range = in_range_added n name offset (allowed _ h) in
    let size = writing_size i n a.drafts name free range.0 f k in
    let within : offset + 8 ≤ length (a.drafts name) = subst (λ z. offset + 8 ≤ z) (sym size) range.1 in
    draft_put n a.drafts name (with_sum offset number (a.drafts name)) free
    (put_length offset (to_be_bytes w64 ((from_be_bytes w64 (eight_at offset (a.drafts name)) + number) % 2 ^ 64)) (a.drafts name) within) k

pub changed_left : (s : Statement) (a : Actor) → (after_change s a).left ≡ a.left
changed_left (statement.Call c) a = refl
changed_left (statement.Put name offset bytes) a = refl
changed_left (statement.Add name offset number) a = refl

-- A call of the script may come.
end_call : (i : ℕ) (n : Node) (a : Actor) (name : Name) (after : List ℕ) (o : Option Refusal) → n.activity ≡ Free
    → verdict n (call.EndWrite name after) ≡ o → DraftsFit n a.drafts → is_call n (call.EndWrite name (draft_of o name a)) o ≡ true
unfolding verdict
end_call i n a name after None free v f = eq-eqb _ _ (writing_draft n a.drafts name free (not-false _ (allowed_by _ _ (none_of _ _ v).1)) f)
end_call i n a name after (Some why) free v f = refl

refused_call : (n : Node) (c : Call) (o : Option Refusal) → is_allowed o ≡ false → is_call n c o ≡ true
refused_call n c None e = cc
refused_call n c (Some why) e = refl

by_option : (o : Option Refusal) (P : Option Refusal → Type 0) → P None → ((why : Refusal) → P (Some why)) → P o
by_option None P none some = none
by_option (Some why) P none some = some why

plain_call : (i : ℕ) (n : Node) (a : Actor) (c : Call) → n.activity ≡ Free → IsStatement (statement.Call c) → DraftsFit n a.drafts
    → is_call n (call_with n a c) (verdict n (call_with n a c)) ≡ true
unfolding verdict
plain_call i n a (call.Create size) free h f = by_option _ (λ o. is_call n (call.Create size) o ≡ true) refl (λ why. refl)
plain_call i n a (call.Delete name) free h f = by_option _ (λ o. is_call n (call.Delete name) o ≡ true) refl (λ why. refl)
plain_call i n a (call.Map name) free h f = by_option _ (λ o. is_call n (call.Map name) o ≡ true) refl (λ why. refl)
plain_call i n a (call.Unmap name) free h f = by_option _ (λ o. is_call n (call.Unmap name) o ≡ true) refl (λ why. refl)
plain_call i n a (call.StartRead name) free h f = by_option _ (λ o. is_call n (call.StartRead name) o ≡ true) refl (λ why. refl)
plain_call i n a (call.EndRead name) free h f = by_option _ (λ o. is_call n (call.EndRead name) o ≡ true) refl (λ why. refl)
plain_call i n a (call.StartWrite name) free h f = by_option _ (λ o. is_call n (call.StartWrite name) o ≡ true) refl (λ why. refl)
plain_call i n a (call.EndWrite name after) free h f = end_call i n a name after (verdict n (call.EndWrite name after)) free refl f
plain_call i n a (call.Put name offset len) free h f = absurd h
plain_call i n a (call.Add name offset) free h f = absurd h
plain_call i n a (call.Flush name) free h f = by_option _ (λ o. is_call n (call.Flush name) o ≡ true) refl (λ why. refl)
plain_call i n a (call.Come part) free h f = by_option _ (λ o. is_call n (call.Come part) o ≡ true) refl (λ why. refl)

script_call : (i : ℕ) (n : Node) (a : Actor) (s : Statement) → n.activity ≡ Free → IsStatement s
    → (is_change s && is_allowed (verdict n (call_of n a s))) ≡ false → DraftsFit n a.drafts
    → is_call n (call_of n a s) (verdict n (call_of n a s)) ≡ true
script_call i n a (statement.Call c) free h out f = plain_call i n a c free h f
script_call i n a (statement.Put name offset bytes) free h out f = refused_call n (call.Put name offset (length bytes)) _ out
script_call i n a (statement.Add name offset number) free h out f = refused_call n (call.Add name offset) _ out

script_enabled : (r : Running) (i : ℕ) (s : Statement) → i < r.world.count → (r.world.nodes i).activity ≡ Free → IsStatement s
    → is_inside r i s ≡ false → Sound r → is_enabled (event.Call i (next_call r i s)) r.world ≡ true
unfolding is_enabled
script_enabled r i s h free st out sound =
    and_from _ _ (lt-ltb i r.world.count h) (and_from _ _ (ap is_free free) (script_call i (r.world.nodes i) (r.actors i) s free st out (sound.drafts i)))

-- The next statement of a node is taken.
of_left : (r : Running) (i : ℕ) (s : Statement) (left : List Statement) → (r.actors i).left ≡ s ∷ left → Sound r → IsStatement s × AllByRecursion IsStatement left
of_left r i s left e sound = subst (λ x. AllByRecursion IsStatement x) e (sound.left i)

sound_passed : (r : Running) (i : ℕ) (s : Statement) (left : List Statement) → (r.actors i).left ≡ s ∷ left → Sound r → Sound (past_statement r i left)
sound_passed r i s left e sound = record {
  fits = sound.fits;
  drafts = by_node i (λ b j. DraftsFit (r.world.nodes j) (if b then record (r.actors i) { left = left } else r.actors j).drafts) (sound.drafts i) sound.drafts;
  left = by_node i (λ b j. AllByRecursion IsStatement (if b then record (r.actors i) { left = left } else r.actors j).left) (of_left r i s left e sound).1 sound.left;
}

sound_changed : (r : Running) (i : ℕ) (s : Statement) (left : List Statement) → IsNext r i s left → is_inside r i s ≡ true → Sound r
    → Sound (with_actor i (after_change s (record (r.actors i) { left = left })) r)
sound_changed r i s left n inside sound =
    let actor : Actor = record (r.actors i) { left = left } in
    record {
      fits = sound.fits;
      drafts = by_node i (λ b j. DraftsFit (r.world.nodes j) (if b then after_change s actor else r.actors j).drafts)
          (fits_changed i (r.world.nodes i) actor s n.1 (same_call (r.world.nodes i) (r.actors i) left s inside) (sound.fits i) (sound.drafts i)) sound.drafts;
      left = by_node i (λ b j. AllByRecursion IsStatement (if b then after_change s actor else r.actors j).left)
          (subst (λ x. AllByRecursion IsStatement x) (sym (changed_left s actor)) (of_left r i s left n.0 sound).1) sound.left;
    }
  where
    same_call : (m : Node) (a : Actor) (left : List Statement) (s : Statement) → (is_change s && is_allowed (verdict m (call_of m a s))) ≡ true
        → (is_change s && is_allowed (verdict m (call_of m (record a { left = left }) s))) ≡ true
    same_call m a left (statement.Call c) h = h
    same_call m a left (statement.Put name offset bytes) h = h
    same_call m a left (statement.Add name offset number) h = h

pub follow_runs : {r end : Running} {es : List Event} → Follows r es end → Sound r → IsRunFrom r.world es
follow_runs (ended {r = r}) sound = tt
follow_runs {r = r} (changes i s left h n inside f) sound = follow_runs f (sound_changed r i s left n inside sound)
follow_runs {r = r} (calls i s left h n out f) sound =
    let enabled = script_enabled r i s h n.1 (of_left r i s left n.0 sound).0 out sound in
    (enabled, follow_runs f (sound_event (past_statement r i left) (event.Call i (next_call r i s)) enabled (sound_passed r i s left n.0 sound)))
follow_runs {r = r} (happens i e own free enabled f) sound =
    (enabled, follow_runs f (subst (λ j. Sound (goes_on j e r)) own (sound_event r e enabled sound)))

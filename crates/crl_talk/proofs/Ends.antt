-- What a node enters where it ends a section: the bytes of the guard.
use Rattle.std.proofs.Common.{◌≡◌, ℕ, true, false, Some, Option, List, [], ◌∷◌, ◌++◌, refl, ap, ◌∙◌, subst}
use Rattle.crl_model.specs.declared.name.Name.{Name}
use Rattle.crl_model.specs.declared.call.Call.{Call}
use Rattle.crl_model.specs.declared.call.Call.TheVariants as call
use Rattle.crl_model.specs.declared.directory.Section.TheVariants as section
use Rattle.crl_model.specs.declared.entry.What.TheVariants as what
use Rattle.crl_model.specs.declared.event.Event.{Event}
use Rattle.crl_model.specs.declared.event.Event.TheVariants as event
use Rattle.crl_protocol.specs.Sections.{OpenSection, section_bytes, bytes_at}
use Rattle.crl_protocol.specs.Node.{entry_of}
use Rattle.crl_protocol.specs.Talk.{Heard, hears}
use Rattle.crl_protocol.specs.World.{World, new_world, is_enabled, IsRunFrom, world_of}
use Rattle.crl_deeds.specs.Entries.{entries_of_call}
use Rattle.crl_talk.specs.Guards.{Given, given_yet, guards_held, AreGuards, closed, writing, reading, nested, SectionsAreGuards, bytes_held, EndsShowGuards}
use Rattle.crl_talk.proofs.Heard.{ground_start, ground_run, sections_are_guards}
use Rattle.crl_deeds.proofs.Laws.{may_call}

-- without a guard no section is open
none_open : (n count number : ℕ) (bytes : List ℕ) {A : Type 0} → AreGuards n [] (Some (record { section = section.Reading count; number = number; bytes = bytes })) → A
none_open n count number bytes h = go [] _ h refl refl
  where
    go : {A : Type 0} (gs : List Given) (o : Option OpenSection) → AreGuards n gs o → gs ≡ [] → o ≡ Some (record { section = section.Reading count; number = number; bytes = bytes }) → A
    go gs o closed e s = cc
    go gs o (writing g x) e s = cc
    go gs o (reading g x) e s = cc
    go gs o (nested g rest k num bs x same some h) e s = cc

-- the bytes of an open section
pub bytes_of : (n : ℕ) (gs : List Given) (o : Option OpenSection) → AreGuards n gs o → section_bytes o ≡ bytes_held gs
bytes_of n gs o closed = refl
bytes_of n gs o (writing g e) = refl
bytes_of n gs o (reading g e) = refl
bytes_of n gs o (nested g rest count number bytes e same some h) = under rest (bytes_of n rest (Some (record { section = section.Reading count; number = number; bytes = bytes })) h) h
  where
    under : (rest : List Given) → bytes ≡ bytes_held rest → AreGuards n rest (Some (record { section = section.Reading count; number = number; bytes = bytes })) → bytes ≡ bytes_held (record { write = false; guard = g } ∷ rest)
    under [] w k = none_open n count number bytes k
    under (x ∷ more) w k = w

ended_bytes : (n : ℕ) (w : World) (heard : List Heard) (c : Call) → is_enabled (event.Call n c) w ≡ true → SectionsAreGuards n w heard → (q : Name) → bytes_at q (w.nodes n).sections ≡ bytes_held (guards_held q [] heard)
ended_bytes n w heard c may h q =
    bytes_of n _ _ (subst (λ gs. AreGuards n (gs ++ guards_held q [] heard) ((w.nodes n).sections.records q)) (ap (given_yet q) (may_call n c w may).1) (h q))

shown : (n : ℕ) (w : World) (heard : List Heard) → (w.nodes n).me ≡ n → SectionsAreGuards n w heard → EndsShowGuards n w heard
shown n w heard me h = record {
  read = λ q may v. ap (entries_of_call (w.nodes n) (call.EndRead q)) v
      ∙ ap (λ i. entry_of i (what.Read q (bytes_at q (w.nodes n).sections)) ∷ []) me ∙ ap (λ bytes. entry_of n (what.Read q bytes) ∷ []) (ended_bytes n w heard (call.EndRead q) may h q);
  write = λ q after may v. ap (entries_of_call (w.nodes n) (call.EndWrite q after)) v
      ∙ ap (λ i. entry_of i (what.Write q (bytes_at q (w.nodes n).sections) after) ∷ []) me ∙ ap (λ bytes. entry_of n (what.Write q bytes after) ∷ []) (ended_bytes n w heard (call.EndWrite q after) may h q);
}

pub ends_show_guards : (count capacity : ℕ) (run : List Event) → IsRunFrom (new_world count capacity) run → (n : ℕ) → EndsShowGuards n (world_of count capacity run) (hears n (new_world count capacity) run)
ends_show_guards count capacity run r n =
    shown n (world_of count capacity run) _ ((ground_run run (new_world count capacity) r (ground_start count capacity)).known.fits n).me (sections_are_guards count capacity run r n)

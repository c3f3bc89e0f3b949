-- A section opens: the node that is left, and its answer.
use Rattle.std.proofs.Common.{◌≡◌, refl, sym, ℕ, Bool, List, [], ◌∷◌, ◌++◌}
use Rattle.crl_model.specs.declared.name.Name.{Name}
use Rattle.crl_model.specs.declared.entry.Entry.{Entry}
use Rattle.crl_model.specs.declared.journal.Recorded.{Recorded}
use Rattle.crl_model.specs.declared.journal.Note.{Note}
use Rattle.crl_protocol.specs.Sections.{Sections, section_begins}
use Rattle.crl_protocol.specs.Node.{Node, Answer, guard_answer, section_opens}
use Rattle.crl_desk.specs.Kits.{once_opened, start_entry}

pub opens_law : (at : ℕ) (write : Bool) (name : Name) (shown bytes : List ℕ) (n : Node) (sections : Sections) (entry : Entry) (records : List Recorded) (notes : List Note)
    → bytes ≡ shown
    → sections ≡ (section_begins write name bytes n.sections).sections
    → entry ≡ start_entry write n.me name
    → records ≡ n.records ++ record { position = at; entry = entry } ∷ []
    → notes ≡ n.notes
    → record n { sections = sections; records = records; notes = notes } ≡ once_opened at (section_opens write name shown n)
unfolding section_opens
opens_law at write name shown bytes n sections entry records notes shown_is sections_are entry_is records_are notes_are =
    rw (sym shown_is) (rw notes_are (rw records_are (rw entry_is (rw sections_are refl))))

pub opens_answer : (write : Bool) (name : Name) (shown bytes guard : List ℕ) (number : ℕ) (n : Node) (answer : Answer)
    → bytes ≡ shown
    → guard ≡ bytes
    → number ≡ (section_begins write name bytes n.sections).number
    → answer ≡ guard_answer write (record { node = n.me; name = name; number = number; bytes = guard })
    → answer ≡ (section_opens write name shown n).answer
unfolding section_opens
opens_answer write name shown bytes guard number n answer shown_is guard_is number_is answer_is =
    rw answer_is (rw (sym shown_is) (rw guard_is (rw number_is refl)))

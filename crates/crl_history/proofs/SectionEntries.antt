-- The entries of sections are legal: a start, an end, and a flush.
use Rattle.std.proofs.Common.{◌≡◌, ℕ, ◌+◌, ◌^◌, ◌<◌, ◌≤◌, ◌==◌, Bool, true, false, None, Some, Option, List, if◌then◌else◌, refl, ap, sym, ◌∙◌, subst, arith}
use Rattle.std.proofs.lemmas.Bool.{eqb-true, eqb-false}
use Rattle.crl_model.specs.declared.name.Name.{Name}
use Rattle.crl_model.specs.declared.call.Call.{Call}
use Rattle.crl_model.specs.declared.call.Call.TheVariants as call
use Rattle.crl_model.specs.declared.call.Refusal.TheVariants as refusal
use Rattle.crl_model.specs.declared.directory.Section.{Section}
use Rattle.crl_model.specs.declared.directory.Section.TheVariants as section
use Rattle.crl_model.specs.declared.entry.What.{What}
use Rattle.crl_model.specs.declared.entry.What.TheVariants as what
use Rattle.crl_machine.specs.SingleMachine.{State, IsFree, IsMapped, IsClosedAt, IsLegal, IsHistory}
use Rattle.crl_protocol.specs.Home.{Home, HomeStep}
use Rattle.crl_protocol.specs.Remote.{Remote, RemoteStep, is_closed, asks_to_write}
use Rattle.crl_protocol.specs.Lifetimes.{Mapping}
use Rattle.crl_protocol.specs.Sections.{OpenSection, section_of, section_bytes, section_at, bytes_at, count_of, is_writing}
use Rattle.crl_protocol.specs.Node.{Node, Outcome, Free, Waiting, ForSection, COUNT_LIMIT, is_mine, map_count, entry_of}
use Rattle.crl_protocol.specs.Verdict.{verdict, else_if, refuse_if, of_end}
use Rattle.crl_protocol.specs.World.{is_call}
use Rattle.crl_deeds.specs.Counts.{Counts, AwaitsSection, FitsReads}
use Rattle.crl_deeds.specs.Deeds.{FreeIf, Cause, Calls, Hears, CanStart, CanEnd, CanFlush, EndsCall, Copies, Notes}
use Rattle.crl_deeds.specs.Deeds as deed
use Rattle.crl_deeds.specs.NodeFacts.{WaitFits, Leaves}
use Rattle.crl_deeds.specs.NodeFacts as node
use Rattle.crl_deeds.specs.Turns.{Came}
use Rattle.crl_deeds.proofs.Laws.{is_mapped_by, read_starts_below, read_ends_open, write_ends_open, own_waits, grant_waits}
use Rattle.crl_lifetime.specs.Lifetime.{waits_for_map}
use Rattle.crl_history.specs.Legal.{is_engaged}
use Rattle.crl_history.proofs.Events.{NodeKnown}
use Rattle.crl_history.proofs.Openings.{start_may, grant_asked, closed_may}
use Rattle.crl_history.proofs.Sections.{own_may}
use Rattle.crl_history.proofs.Seen.{Sees, CauseFits, Lets, LetsBegin}

pub free_now : (s : State) (n : Node) → Sees s n → n.activity ≡ Free → IsFree s n.me
free_now s n h e = h.free (ap is_engaged e)

pub maps_now : (s : State) (n : Node) (q : Name) → Sees s n → n.activity ≡ Free → s.maps n.me q ≡ map_count (n.maps q)
maps_now s n q h e = h.maps q (ap (λ a. waits_for_map q a) e)

pub mapped_now : (s : State) (n : Node) (q : Name) → Sees s n → n.activity ≡ Free → (map_count (n.maps q) == 0) ≡ false → IsMapped s n.me q
mapped_now s n q h e m = subst (λ x. 1 ≤ x) (sym (maps_now s n q h e)) (is_mapped_by (n.maps q) m)

closed_counts : (x : Section) → is_closed x ≡ true → (count_of x ≡ 0) × (is_writing x ≡ false)
closed_counts section.Closed e = (refl, refl)
closed_counts (section.Reading count) e = cc
closed_counts section.Writing e = cc

pub closed_now : (s : State) (n : Node) (q : Name) → Sees s n → is_closed (section_at q n.sections) ≡ true → IsClosedAt s n.me q
closed_now s n q h e = let c = closed_counts (section_at q n.sections) e in ((h.sections q).reads_are ∙ c.0, (h.sections q).writes_are ∙ c.1)

-- A section starts.
start_legal : (s : State) (me : ℕ) (write : Bool) (name : Name) → me < s.nodes → IsFree s me → IsMapped s me name → Lets s write name → (write ≡ false → s.reads me name + 1 < 2 ^ 32) → IsLegal s (entry_of me (if write then what.StartWrite name else what.StartRead name))
start_legal s me true name few free mapped lets below = (few, (free, mapped, lets))
start_legal s me false name few free mapped lets below = (few, (free, mapped, lets, below refl))

below_limit : (reads count : ℕ) → reads ≡ count → (count == COUNT_LIMIT) ≡ false → count < 2 ^ 32 → reads + 1 < 2 ^ 32
below_limit reads count e f few = let ne = eqb-false count COUNT_LIMIT f in grind arith

reads_few : (n : Node) (q : Name) (j : ℕ) → NodeKnown j n → count_of (section_at q n.sections) < 2 ^ 32
reads_few n q j known = go (section_at q n.sections) (known.sections.each q)
  where
    go : (x : Section) → FitsReads x → count_of x < 2 ^ 32
    go section.Closed f = omega arith
    go (section.Reading count) f = f.1
    go section.Writing f = omega arith

called_legal : (s : State) (j : ℕ) (n : Node) (write : Bool) (name : Name) → Sees s n → NodeKnown j n → n.activity ≡ Free → CanStart n write name → Lets s write name → IsLegal s (entry_of n.me (if write then what.StartWrite name else what.StartRead name))
called_legal s j n write name h known free can lets = start_legal s n.me write name h.few (free_now s n h free) (mapped_now s n name h free can.mapped) lets (below write can)
  where
    below : (b : Bool) → CanStart n b name → b ≡ false → s.reads n.me name + 1 < 2 ^ 32
    below true c e = cc
    below false c e = below_limit _ _ (h.sections name).reads_are (read_starts_below n name c).1 (reads_few n name j known)

counted : (mine : Bool) (o : Option Mapping) → Counts mine o → node.IsMapped o → 1 ≤ map_count o
counted mine None c m = absurd m
counted mine (Some m) c x = c.0

waited_legal : (s : State) (j : ℕ) (n : Node) (write : Bool) (name : Name) → Sees s n → NodeKnown j n → n.activity ≡ Waiting (ForSection name) → Lets s write name → IsLegal s (entry_of n.me (if write then what.StartWrite name else what.StartRead name))
waited_legal s j n write name h known e lets =
    let maps = h.maps name (ap (λ a. waits_for_map name a) e) in
    let there = subst (λ a. WaitFits name a (is_mine n name) (n.maps name)) e (known.fits.each name).waiting refl in
    start_legal s n.me write name h.few (h.free (ap is_engaged e)) (subst (λ x. 1 ≤ x) (sym maps) (counted _ _ (h.counts name) there)) lets
    (λ w. subst (λ x. x + 1 < 2 ^ 32) (sym (h.sections name).reads_are) (subst (λ a. AwaitsSection a n.sections) e known.sections.waiting).1)

-- A section ends.
shown_read : (s : State) (n : Node) (q : Name) (o : Option OpenSection) → n.sections.records q ≡ o → Sees s n → 1 ≤ count_of (section_of o) → section_bytes o ≡ s.bytes q
shown_read s n q None e h some = absurd (omega arith)
shown_read s n q (Some r) e h some = h.shown q r e

shown_write : (s : State) (n : Node) (q : Name) (o : Option OpenSection) → n.sections.records q ≡ o → Sees s n → section_of o ≡ section.Writing → section_bytes o ≡ s.bytes q
shown_write s n q None e h w = cc
shown_write s n q (Some r) e h w = h.shown q r e

verdict_end : (n : Node) (q : Name) (after : List ℕ) → CanEnd n true q → verdict n (call.EndWrite q after) ≡ None
unfolding verdict
verdict_end n q after can = ap (λ b. else_if (refuse_if b refusal.NotMapped) (of_end true (section_at q n.sections))) can.mapped ∙ can.section

ends_legal : (s : State) (n : Node) (c : Call) (name : Name) (w : What) (ends : Home → HomeStep) (lowers : Remote → RemoteStep) → EndsCall (bytes_at name n.sections) n c name w ends lowers → is_call n c (verdict n c) ≡ true → Sees s n → n.activity ≡ Free → IsLegal s (entry_of n.me w)
ends_legal s n c name w ends lowers (deed.a_read q can) is h free =
    let some = read_ends_open n q can in
    (h.few, (free_now s n h free, subst (λ x. 1 ≤ x) (sym (h.sections q).reads_are) some, shown_read s n q _ refl h some))
ends_legal s n c name w ends lowers (deed.a_write q after can) is h free =
    let open_here = write_ends_open n q can in
    let size = subst (λ v. is_call n (call.EndWrite q after) v ≡ true) (verdict_end n q after can) is in
    (h.few, (free_now s n h free, (h.sections q).writes_are ∙ ap is_writing open_here, shown_write s n q _ refl h open_here, eqb-true _ _ size))

flush_legal : (s : State) (n : Node) (name : Name) → CanFlush n name → Sees s n → n.activity ≡ Free → IsLegal s (entry_of n.me (what.Flush name))
flush_legal s n name can h free = (h.few, (free_now s n h free, mapped_now s n name h free can.mapped, closed_now s n name h can.closed))

pub copies_legal : (s : State) (j : ℕ) (n : Node) (cause : Cause) (o : Outcome) → Copies n cause o → Came Leaves n.me cause → NodeKnown j n → FreeIf cause n → CauseFits s n cause → Sees s n → LetsBegin s n o → IsHistory s o.entries
copies_legal s j n cause o (deed.home_opens c write name x is e can y) away known free fits h lets = (called_legal s j n write name h known free can (lets write name _ (start_may n write name can) refl), tt)
copies_legal s j n cause o (deed.side_opens c write name r is e g can y) away known free fits h lets = (called_legal s j n write name h known free can (lets write name _ (start_may n write name can) refl), tt)
copies_legal s j n cause o (deed.home_ends c name w ends lowers x is e) away known free fits h lets = (ends_legal s n c name w ends lowers is fits h free, tt)
copies_legal s j n cause o (deed.side_ends c name w ends lowers r is e g) away known free fits h lets = (ends_legal s n c name w ends lowers is fits h free, tt)
copies_legal s j n cause o (deed.side_flushes name r e g can) away known free fits h lets = (flush_legal s n name can h free, tt)
copies_legal s j n cause o (deed.home_serves_own from k name x y is e z) away known free fits h lets =
    let write = is_writing y.home.mine in
    (waited_legal s j n write name h known (own_waits j n x from k name y is e z away known.fits) (lets write name _ (own_may j n x from k name y is e z away known _ refl) refl), tt)
copies_legal s j n cause o (deed.grant_comes from name version g r e y) away known free fits h lets =
    let asked = grant_asked g r y in
    let write = asks_to_write r.asking in
    (waited_legal s j n write name h known (grant_waits j n name g r e y known.fits) (lets write name _ (closed_may write _ (known.agree.asking name r asked.0 e asked.1)) refl), tt)
copies_legal s j n cause o _ away known free fits h lets = tt

pub notes_legal : (s : State) (n : Node) (c : Call) (w : What) (m : Node) → Notes n c w m → is_call n c (verdict n c) ≡ true → n.activity ≡ Free → Sees s n → IsLegal s (entry_of n.me w)
notes_legal s n c w m (deed.ends_nowhere x name y ends lowers is e) fits free h = ends_legal s n x name y ends lowers is fits h free
notes_legal s n c w m (deed.flushes_own name mine can) fits free h = flush_legal s n name can h free
notes_legal s n c w m (deed.flushes_nowhere name mine e can) fits free h = flush_legal s n name can h free

-- The sections that are open at a node are those that the single machine has.
use Rattle.std.proofs.Common.{◌≡◌, ℕ, ◌+◌, ◌-◌, ◌==◌, ◌&&◌, Bool, true, false, Some, List, [], ◌∷◌, if◌then◌else◌, refl, ap, sym, ◌∙◌, subst}
use Rattle.crl_model.specs.declared.name.Name.{Name}
use Rattle.crl_model.specs.declared.call.Call.{Call}
use Rattle.crl_model.specs.declared.call.CallKind.{CallKind}
use Rattle.crl_model.specs.declared.collective.Fold.{Fold}
use Rattle.crl_model.specs.declared.collective.Fold.TheVariants as fold
use Rattle.crl_model.specs.declared.entry.What.{What}
use Rattle.crl_model.specs.declared.entry.What.TheVariants as what
use Rattle.crl_model.specs.declared.message.Kind.{Kind}
use Rattle.crl_model.specs.Calls.{kind_of}
use Rattle.crl_model.specs.FoldOf.{fold_of}
use Rattle.crl_model.specs.Names.{name_eq, at_pair}
use Rattle.crl_machine.specs.SingleMachine.{State, change, after_all}
use Rattle.crl_protocol.specs.Home.{Home, HomeStep}
use Rattle.crl_protocol.specs.Remote.{Remote, RemoteStep, asks_to_write}
use Rattle.crl_protocol.specs.Sections.{Sections, section_at, is_writing, section_begins, section_ends}
use Rattle.crl_protocol.specs.Calls.{result_of}
use Rattle.crl_protocol.specs.Node.{Node, Done, Outcome, home_of, entry_of}
use Rattle.crl_deeds.specs.Counts.{AwaitsSection}
use Rattle.crl_deeds.specs.Deeds.{Cause, Hears, EndsCall, Copies, Lives, Rounds, Notes, Serves, Deed}
use Rattle.crl_deeds.specs.Deeds as deed
use Rattle.crl_deeds.specs.NodeFacts.{Leaves}
use Rattle.crl_deeds.specs.Turns.{Came}
use Rattle.crl_deeds.proofs.Laws.{own_waits}
use Rattle.crl_history.proofs.Events.{NodeKnown, Mirrored}
use Rattle.crl_history.proofs.Openings.{SaysSections, OpensAs, section_opens, read_closes, write_closes, start_may, serves_write, grant_asked, closed_may}

-- What the machine has of a node's sections.
pub record Opened : Type 0 where
  pub reads : Name → ℕ
  pub writes : Name → Bool

abbrev pub opened_by : State → ℕ → Opened
opened_by s k = record { reads = s.reads k; writes = s.writes k }

abbrev pub SaysOpened : Opened → Node → Type 0
SaysOpened x n = SaysSections x.reads x.writes n.sections

-- what a deed does to them
record SectionsGo (n : Node) (o : Outcome) : Type 0 where
  own : (s : State) → SaysOpened (opened_by s n.me) n → SaysOpened (opened_by (after_all s o.entries) n.me) o.node
  other : (s : State) (k : ℕ) → (n.me == k) ≡ false → opened_by (after_all s o.entries) k ≡ opened_by s k

-- entries of one section are of the node that acts
other_pair : {X : Type 0} (f : ℕ → Name → X) (n : ℕ) (name : Name) (v : X) (k : ℕ) → (n == k) ≡ false → at_pair f n name v k ≡ f k
other_pair f n name v k apart = ap (λ b. λ q. if b && name_eq name q then v else f k q) apart

other_start : (s : State) (me : ℕ) (write : Bool) (name : Name) (k : ℕ) → (me == k) ≡ false → opened_by (change s me (if write then what.StartWrite name else what.StartRead name)) k ≡ opened_by s k
other_start s me true name k apart = ap (λ f. record { reads = s.reads k; writes = f }) (other_pair s.writes me name true k apart)
other_start s me false name k apart = ap (λ f. record { reads = f; writes = s.writes k }) (other_pair s.reads me name (s.reads me name + 1) k apart)

other_end : (s : State) (n : Node) (bytes : List ℕ) (c : Call) (name : Name) (w : What) (ends : Home → HomeStep) (lowers : Remote → RemoteStep) → EndsCall bytes n c name w ends lowers → (k : ℕ) → (n.me == k) ≡ false → opened_by (change s n.me w) k ≡ opened_by s k
other_end s n bytes c name w ends lowers (deed.a_read q can) k apart = ap (λ f. record { reads = f; writes = s.writes k }) (other_pair s.reads n.me q (s.reads n.me q - 1) k apart)
other_end s n bytes c name w ends lowers (deed.a_write q after can) k apart = ap (λ f. record { reads = s.reads k; writes = f }) (other_pair s.writes n.me q false k apart)

result_same : (s : State) (me round : ℕ) (kind : CallKind) (f : Fold) (k : ℕ) → opened_by (change s me (result_of round kind f)) k ≡ opened_by s k
result_same s me round kind fold.Mixed k = refl
result_same s me round kind _ k = refl

stays_sections : (n : Node) (o : Outcome) → ((s : State) (k : ℕ) → opened_by (after_all s o.entries) k ≡ opened_by s k) → o.node.sections ≡ n.sections → SectionsGo n o
stays_sections n o same sections = record {
  own = λ s h. subst (λ (y : Sections). SaysSections ((after_all s o.entries).reads n.me) ((after_all s o.entries).writes n.me) y) (sym sections) (subst (λ (x : Opened). SaysSections x.reads x.writes n.sections) (sym (same s n.me)) h);
  other = λ s k apart. same s k;
}

opens_sections : (n : Node) (o : Outcome) (write : Bool) (name : Name) (bytes : List ℕ) → OpensAs write (section_at name n.sections) → o.node.sections ≡ (section_begins write name bytes n.sections).sections
    → o.entries ≡ entry_of n.me (if write then what.StartWrite name else what.StartRead name) ∷ [] → SectionsGo n o
opens_sections n o write name bytes may sections entries = record {
  own = λ s h. subst (λ (y : Sections). SaysSections ((after_all s o.entries).reads n.me) ((after_all s o.entries).writes n.me) y) (sym sections)
      (subst (λ es. SaysSections ((after_all s es).reads n.me) ((after_all s es).writes n.me) (section_begins write name bytes n.sections).sections) (sym entries) (section_opens s n.me write name bytes n.sections may h));
  other = λ s k apart. ap (λ es. opened_by (after_all s es) k) entries ∙ other_start s n.me write name k apart;
}

ended : (s : State) (n : Node) (bytes : List ℕ) (c : Call) (name : Name) (w : What) (ends : Home → HomeStep) (lowers : Remote → RemoteStep) → EndsCall bytes n c name w ends lowers → SaysOpened (opened_by s n.me) n → SaysSections ((change s n.me w).reads n.me) ((change s n.me w).writes n.me) (section_ends name n.sections)
ended s n bytes c name w ends lowers (deed.a_read q can) h = read_closes s n q bytes can h
ended s n bytes c name w ends lowers (deed.a_write q after can) h = write_closes s n q bytes after can h

ends_sections : (n : Node) (o : Outcome) (bytes : List ℕ) (c : Call) (name : Name) (w : What) (ends : Home → HomeStep) (lowers : Remote → RemoteStep) → EndsCall bytes n c name w ends lowers → o.node.sections ≡ section_ends name n.sections → o.entries ≡ entry_of n.me w ∷ [] → SectionsGo n o
ends_sections n o bytes c name w ends lowers is sections entries = record {
  own = λ s h. subst (λ (y : Sections). SaysSections ((after_all s o.entries).reads n.me) ((after_all s o.entries).writes n.me) y) (sym sections)
      (subst (λ es. SaysSections ((after_all s es).reads n.me) ((after_all s es).writes n.me) (section_ends name n.sections)) (sym entries) (ended s n bytes c name w ends lowers is h));
  other = λ s k apart. ap (λ es. opened_by (after_all s es) k) entries ∙ other_end s n bytes c name w ends lowers is k apart;
}

-- The home's own section that a message lets open: the node waits for it, and none is in its way.
pub own_may : (j : ℕ) (n : Node) (h : Home) (from : ℕ) (k : Kind) (name : Name) (y : HomeStep) → Serves n h from k name y → home_of n name ≡ Some h → y.opened ≡ true → Came Leaves n.me (Hears from k) → NodeKnown j n → (write : Bool) → is_writing y.home.mine ≡ write
    → OpensAs write (section_at name n.sections)
own_may j n h from k name y is e x away known true w = sym (known.agree.home name h e) ∙ serves_write n h from k name y is x w
own_may j n h from k name y is e x away known false w = (subst (λ a. AwaitsSection a n.sections) (own_waits j n h from k name y is e x away known.fits) known.sections.waiting).0

sections_copies : (j : ℕ) (n : Node) (cause : Cause) (o : Outcome) → Copies n cause o → Came Leaves n.me cause → NodeKnown j n → SectionsGo n o
sections_copies j n cause o (deed.home_opens c write name h is e v x) away known = opens_sections n o write name _ (start_may n write name v) refl refl
sections_copies j n cause o (deed.side_opens c write name r is e g v x) away known = opens_sections n o write name _ (start_may n write name v) refl refl
sections_copies j n cause o (deed.home_ends c name w ends lowers h is e) away known = ends_sections n o _ c name w ends lowers is refl refl
sections_copies j n cause o (deed.side_ends c name w ends lowers r is e g) away known = ends_sections n o _ c name w ends lowers is refl refl
sections_copies j n cause o (deed.home_serves_own from k name h y is e x) away known = opens_sections n o (is_writing y.home.mine) name _ (own_may j n h from k name y is e x away known _ refl) refl refl
sections_copies j n cause o (deed.grant_comes from name version g r e x) away known =
    let asked = grant_asked g r x in opens_sections n o (asks_to_write r.asking) name _ (closed_may (asks_to_write r.asking) _ (known.agree.asking name r asked.0 e asked.1)) refl refl
sections_copies j n cause o _ away known = stays_sections n o (λ s k. refl) refl

sections_rounds : (n : Node) (cause : Cause) (o : Outcome) → Rounds n cause o → SectionsGo n o
sections_rounds n cause o (deed.comes_last part parts first fits all) = stays_sections n o (λ s k. result_same (change s n.me (what.Come part)) n.me (n.rounds + 1) (kind_of part) (fold_of parts) k) refl
sections_rounds n cause o (deed.part_last from round part parts mine k e a all) = stays_sections n o (λ s i. result_same s n.me mine k (fold_of parts) i) refl
sections_rounds n cause o (deed.result_comes from round f k e) = stays_sections n o (λ s i. result_same s n.me round k f i) refl
sections_rounds n cause o _ = stays_sections n o (λ s k. refl) refl

sections_notes : (n : Node) (c : Call) (w : What) (m : Node) → Notes n c w m → SectionsGo n (record { node = m; answer = Done; entries = entry_of n.me w ∷ []; posts = [] })
sections_notes n c w m (deed.ends_nowhere x name y ends lowers is e) = ends_sections n _ _ x name y ends lowers is refl refl
sections_notes n c w m _ = stays_sections n _ (λ s k. refl) refl

sections_lives : (n : Node) (cause : Cause) (o : Outcome) → Lives n cause o → SectionsGo n o
sections_lives n cause o (deed.made size e) = stays_sections n o (λ s k. refl) refl
sections_lives n cause o _ = stays_sections n o (λ s k. refl) refl

sections_deed : (j : ℕ) (n : Node) (cause : Cause) (o : Outcome) → Deed n cause o → Came Leaves n.me cause → NodeKnown j n → SectionsGo n o
sections_deed j n cause o (deed.copies d) away known = sections_copies j n cause o d away known
sections_deed j n cause o (deed.lives d) away known = sections_lives n cause o d
sections_deed j n cause o (deed.rounds d) away known = sections_rounds n cause o d
sections_deed j n cause o (deed.notes d) away known = sections_notes n _ _ _ d
sections_deed j n cause o _ away known = stays_sections n o (λ s k. refl) refl

pub sections_mirrored : Mirrored Opened opened_by SaysOpened
sections_mirrored = record {
  own = λ j n cause o a s h. (sections_deed j n cause o a.deed a.away a.known).own s h;
  other = λ j n cause o a s k apart. (sections_deed j n cause o a.deed a.away a.known).other s k apart;
  boxes = λ x n inbox outbox parcels records notes posted h. h;
  answered = λ x n h. h;
}

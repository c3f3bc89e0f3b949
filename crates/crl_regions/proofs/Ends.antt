-- What the end of a section, a flush and a name that is forgotten do to each region.
use Rattle.std.proofs.Common.{◌≡◌, ℕ, ◌+◌, ◌==◌, Bool, true, false, None, Some, Option, List, length, refl, ap, sym, ◌∙◌, subst}
use Rattle.std.proofs.lemmas.Bool.{cond-true, cond-false, eqb-true, eqb-false}
use Rattle.crl_model.specs.declared.name.Name.{Name}
use Rattle.crl_model.specs.declared.call.Call.{Call}
use Rattle.crl_model.specs.declared.entry.What.{What}
use Rattle.crl_model.specs.declared.directory.Section.TheVariants as section
use Rattle.crl_model.specs.Names.{name_eq, at_node}
use Rattle.crl_protocol.specs.Home.{Home, HomeStep, one_section_less, home_ends_read, home_ends_write, bytes_after}
use Rattle.crl_protocol.specs.Remote.{Remote, RemoteStep, is_closed, new_remote, remote_ends_read, remote_ends_write, remote_flushes}
use Rattle.crl_protocol.specs.Node.{Node, Free, home_of, with_home, with_remote, letter_messages, mail_messages}
use Rattle.crl_protocol.specs.Sectioning.{closes}
use Rattle.crl_protocol.specs.World.{is_call}
use Rattle.crl_protocol.specs.Sections.{Sections, section_at, section_ends, bytes_at, is_writing}
use Rattle.crl_protocol.specs.Lifetimes.{Mapping}
use Rattle.crl_deeds.specs.Deeds.{EndsCall, a_read, a_write}
use Rattle.crl_coherence.specs.Region as region
use Rattle.crl_coherence.specs.Region.{Flying, Region, Happens, at_home, at_remote, IsIdle}
use Rattle.crl_regions.specs.View.{left_if, left_in}
use Rattle.crl_regions.proofs.Opened.{ended, read_ended, write_ended, read_left, write_left, flushes_same, noted_ended, ended_other}
use Rattle.crl_regions.proofs.Acts.{expected, Comes, Acts, home_is, home_here, home_there, moved_here, moved_there, forgotten_here}
use Rattle.crl_regions.proofs.Sections.{Local, idle_of, free_idle, free_asks, away, mine_is, here_is, home_event, side_event, reading_of, writing_of}
use Rattle.crl_deeds.proofs.Laws.{by_name, name_self, home_bytes, remote_bytes, queue_of, asking_of, mapped_home, mapped_remote, read_goes, write_goes, read_ends, write_ends, flushes_goes, open_size, closed_is}
use Rattle.crl_deeds.specs.NodeFacts.{NoOwn, Fits}

-- what the end of a section is at the home, and at another node
abbrev HomeEnds : Name → Home → HomeStep → Option (List ℕ) → Type 0
HomeEnds name h s written = (g : Region) (rest : List Flying) → g.home ≡ h → Comes None g.flight rest → Happens name.home g (record (at_home s rest g) { array = bytes_after written g.array })

abbrev SideEnds : Name → ℕ → Remote → RemoteStep → Option (List ℕ) → Type 0
SideEnds name i r s written = (g : Region) (rest : List Flying) → g.remotes i ≡ r → r.size ≡ g.home.size → Comes None g.flight rest
    → Happens name.home g (record (at_remote i s rest g) { array = bytes_after written g.array })

home_ends : (K : Name → ℕ → Type 0) (i : ℕ) (n : Node) (name : Name) (h : Home) (s : HomeStep) (written : Bool → Option (List ℕ)) → written false ≡ None → home_of n name ≡ Some h
    → s.home.size ≡ h.size → s.home.mine ≡ ended (section_at name n.sections) → HomeEnds name h s (written true)
    → (q : Name) → Acts K q i None (written (name_eq name q)) n (with_home name s.home (closes name n)) (letter_messages n name s.posts)
home_ends K i n name h s written none e size mine happens =
    by_name name (λ b q. Acts K q i None (written b) n (with_home name s.home (closes name n)) (letter_messages n name s.posts))
    (home_here K name i None (written true) n _ h s e refl refl size (mine ∙ sym (noted_ended name n.sections)) happens)
    (λ q other. subst (λ x. Acts K q i None x n (with_home name s.home (closes name n)) (letter_messages n name s.posts)) (sym none) (home_there K name q i n _ h s e refl refl (ended_other name q n.sections other) other))

side_moves : (K : Name → ℕ → Type 0) (i : ℕ) (n : Node) (x : Sections) (name : Name) (r : Remote) (s : RemoteStep) (written : Bool → Option (List ℕ)) → written false ≡ None → n.remotes name ≡ Some r
    → n.me ≡ i → (i == name.home) ≡ false → s.remote.here ≡ section_at name x → ((q : Name) → name_eq name q ≡ false → section_at q x ≡ section_at q n.sections) → s.remote.size ≡ r.size
    → SideEnds name i r s (written true)
    → (q : Name) → Acts K q i None (written (name_eq name q)) n (with_remote name (Some s.remote) (record n { sections = x })) (mail_messages n name s.posts)
side_moves K i n x name r s written none e me other_home here others size happens =
    by_name name (λ b q. Acts K q i None (written b) n (with_remote name (Some s.remote) (record n { sections = x })) (mail_messages n name s.posts))
    (moved_here K name i None (written true) n _ r s e (cond-true (name_eq name name) _ _ (name_self name)) refl me other_home here size happens)
    (λ q other. subst (λ w. Acts K q i None w n (with_remote name (Some s.remote) (record n { sections = x })) (mail_messages n name s.posts)) (sym none)
    (moved_there K name q i n _ s.posts (cond-false (name_eq name q) _ _ other) refl (others q other) other))

-- the table of a home that is free, and its number
home_idle : (i : ℕ) (n : Node) (name : Name) (h : Home) → home_of n name ≡ Some h → n.activity ≡ Free → Fits i n
    → (n.me ≡ name.home) × NoOwn n.me h.queue × ((g : Region) → g.home ≡ h → IsIdle name.home g.home.queue)
home_idle i n name h e free f =
    let me : n.me ≡ name.home = eqb-true n.me name.home (home_is n name h e) in
    let none = free_idle n.me name h n.activity free (queue_of i n name h e f) in
    (me, none, λ g at_h. subst (λ k. IsIdle k g.home.queue) me (subst (λ (x : Home). IsIdle n.me x.queue) (sym at_h) (idle_of n.me h.queue none)))

-- A section to write has the region's size.
size_of_open : (i : ℕ) (n : Node) (name : Name) → section_at name n.sections ≡ section.Writing → Fits i n → (k : Mapping) × (n.maps name ≡ Some k) × (length (bytes_at name n.sections) ≡ k.size)
size_of_open i n name writing f = open_size (n.sections.records name) (n.maps name) (ap is_writing writing) (f.each name).sections

pub end_home : (K : Name → ℕ → Type 0) (i : ℕ) (n : Node) (c : Call) (name : Name) (w : What) (ends : Home → HomeStep) (lowers : Remote → RemoteStep) (h : Home) → EndsCall (bytes_at name n.sections) n c name w ends lowers
    → is_call n c None ≡ true → home_of n name ≡ Some h → n.activity ≡ Free → Local i n → (q : Name) → Acts K q i None (left_in q n None c) n (with_home name (ends h).home (closes name n)) (letter_messages n name (ends h).posts)
end_home K i n c name w ends lowers h (a_read q0 v) may e free l =
    let reading = reading_of (section_at name n.sections) v.section in
    let idle = home_idle i n name h e free l.fits in
    let mine : h.mine ≡ section.Reading (reading.0 + 1) = mine_is i n name h e l ∙ reading.1 in
    home_ends K i n name h (home_ends_read n.me h) (λ b. None) refl e (read_goes n.me h (home_bytes i n name h e l.fits)).size (read_ended n.me h idle.1 ∙ ap one_section_less mine ∙ sym (ap ended reading.1))
    (λ g rest at_g comes. home_event n.me name.home h (λ k x. home_ends_read k x) g rest g.array idle.0 at_g
    (subst (λ x. Happens name.home g (at_home (home_ends_read name.home g.home) x g)) (sym comes) (region.home_end_read reading.0 (ap (λ (x : Home). x.mine) at_g ∙ mine) (idle.2 g at_g))))
end_home K i n c name w ends lowers h (a_write q0 after v) may e free l =
    let writing = writing_of (section_at name n.sections) v.section in
    let size = size_of_open i n name writing l.fits in
    let idle = home_idle i n name h e free l.fits in
    let mine : h.mine ≡ section.Writing = mine_is i n name h e l ∙ writing in
    let sized : length after ≡ h.size = eqb-true _ _ may ∙ size.2 ∙ mapped_home i n name h size.0 e size.1 l.fits in
    home_ends K i n name h (home_ends_write n.me after h) (λ b. left_if b None after) refl e (write_goes n.me after h sized).size (write_ended n.me after h idle.1 ∙ sym (ap ended writing))
    (λ g rest at_g comes. home_event n.me name.home h (λ k x. home_ends_write k after x) g rest after idle.0 at_g
    (subst (λ x. Happens name.home g (record (at_home (home_ends_write name.home after g.home) x g) { array = after })) (sym comes)
    (region.home_end_write after (ap (λ (x : Home). x.mine) at_g ∙ mine) (idle.2 g at_g) (sized ∙ sym (ap (λ (x : Home). x.size) at_g)))))

pub end_side : (K : Name → ℕ → Type 0) (i : ℕ) (n : Node) (c : Call) (name : Name) (w : What) (ends : Home → HomeStep) (lowers : Remote → RemoteStep) (r : Remote) → EndsCall (bytes_at name n.sections) n c name w ends lowers
    → is_call n c None ≡ true → n.remotes name ≡ Some r → Local i n → (q : Name) → Acts K q i None (left_in q n None c) n (with_remote name (Some (lowers r).remote) (closes name n)) (mail_messages n name (lowers r).posts)
end_side K i n c name w ends lowers r (a_read q0 v) may e l =
    let reading = reading_of (section_at name n.sections) v.section in
    let other_home = away i n name r e l.fits in
    let here : r.here ≡ section.Reading (reading.0 + 1) = here_is i n name r e l ∙ reading.1 in
    side_moves K i n (section_ends name n.sections) name r (remote_ends_read r) (λ b. None) refl e l.fits.me other_home (read_left r ∙ ap one_section_less here ∙ sym (ap ended reading.1) ∙ sym (noted_ended name n.sections))
    (λ q other. ended_other name q n.sections other) (read_ends r (remote_bytes i n name r e l.fits)).size
    (λ g rest at_g sized comes. side_event name.home i r (λ x. remote_ends_read x) g rest g.array at_g
    (subst (λ x. Happens name.home g (at_remote i (remote_ends_read (g.remotes i)) x g)) (sym comes) (region.end_read i reading.0 (eqb-false i name.home other_home) (ap (λ (x : Remote). x.here) at_g ∙ here))))
end_side K i n c name w ends lowers r (a_write q0 after v) may e l =
    let writing = writing_of (section_at name n.sections) v.section in
    let size = size_of_open i n name writing l.fits in
    let other_home = away i n name r e l.fits in
    let here : r.here ≡ section.Writing = here_is i n name r e l ∙ writing in
    let long = eqb-true _ _ may ∙ size.2 ∙ mapped_remote i n name r size.0 e size.1 l.fits in
    side_moves K i n (section_ends name n.sections) name r (remote_ends_write after r) (λ b. left_if b None after) refl e l.fits.me other_home (write_left after r ∙ sym (ap ended writing) ∙ sym (noted_ended name n.sections))
    (λ q other. ended_other name q n.sections other) (write_ends after r long).size
    (λ g rest at_g sized comes. side_event name.home i r (λ x. remote_ends_write after x) g rest after at_g
    (subst (λ x. Happens name.home g (record (at_remote i (remote_ends_write after (g.remotes i)) x g) { array = after })) (sym comes)
    (region.end_write i after (eqb-false i name.home other_home) (ap (λ (x : Remote). x.here) at_g ∙ here) (long ∙ sized))))

-- an end where nothing of the region is here doesn't come
nowhere_closed : (i : ℕ) (n : Node) (name : Name) → home_of n name ≡ None → n.remotes name ≡ None → Local i n → section_at name n.sections ≡ section.Closed
nowhere_closed i n name e f l = sym (sym (ap (λ o. expected o (n.remotes name)) e ∙ ap (λ o. expected None o) f) ∙ l.agrees name)

pub end_nowhere : (i : ℕ) (n : Node) (c : Call) (name : Name) (w : What) (ends : Home → HomeStep) (lowers : Remote → RemoteStep) → EndsCall (bytes_at name n.sections) n c name w ends lowers → home_of n name ≡ None → n.remotes name ≡ None → Local i n → ⊥
end_nowhere i n c name w ends lowers (a_read q0 v) e f l = let k = (reading_of (section_at name n.sections) v.section).1 in let x = nowhere_closed i n name e f l in cc
end_nowhere i n c name w ends lowers (a_write q0 after v) e f l = let k = writing_of (section_at name n.sections) v.section in let x = nowhere_closed i n name e f l in cc

-- A flush, and a name that is forgotten.

pub flush_side : (K : Name → ℕ → Type 0) (i : ℕ) (n : Node) (name : Name) (r : Remote) → n.remotes name ≡ Some r → is_closed (section_at name n.sections) ≡ true → n.activity ≡ Free → Local i n
    → (q : Name) → Acts K q i None None n (with_remote name (Some (remote_flushes r).remote) n) (mail_messages n name (remote_flushes r).posts)
flush_side K i n name r e closed free l =
    let here : r.here ≡ section.Closed = here_is i n name r e l ∙ closed_is _ closed in
    let idle = free_asks name r n.activity free (asking_of i n name r e l.fits) in
    let other_home = away i n name r e l.fits in
    side_moves K i n n.sections name r (remote_flushes r) (λ b. None) refl e l.fits.me other_home (flushes_same r ∙ here_is i n name r e l) (λ p other. refl) (flushes_goes r (remote_bytes i n name r e l.fits)).size
    (λ g rest at_g sized comes. side_event name.home i r (λ x. remote_flushes x) g rest g.array at_g
    (subst (λ x. Happens name.home g (at_remote i (remote_flushes (g.remotes i)) x g)) (sym comes)
    (region.flush i (eqb-false i name.home other_home) (ap (λ (x : Remote). x.here) at_g ∙ here) (ap (λ (x : Remote). x.asking) at_g ∙ idle))))

pub forgets_acts : (K : Name → ℕ → Type 0) (i : ℕ) (n m : Node) (name : Name) (r : Remote) → n.remotes name ≡ Some r → n.me ≡ i → (i == name.home) ≡ false → r.here ≡ section.Closed → r.asking ≡ None
    → section_at name n.sections ≡ section.Closed → m.sections ≡ n.sections → ((q : Name) → home_of m q ≡ home_of n q) → ((q : Name) → m.remotes q ≡ (with_remote name None n).remotes q)
    → (q : Name) → Acts K q i None None n m (mail_messages n name (remote_flushes r).posts)
forgets_acts K i n m name r e me other_home here idle closed sections homes remotes =
    by_name name (λ b q. Acts K q i None None n m (mail_messages n name (remote_flushes r).posts))
    (forgotten_here K name i n m r e (remotes name ∙ cond-true (name_eq name name) _ _ (name_self name)) (homes name) me other_home (sym (ap (λ x. section_at name x) sections ∙ closed))
    (λ g at_g. side_forgets g at_g))
    (λ q other. moved_there K name q i n m (remote_flushes r).posts (remotes q ∙ cond-false (name_eq name q) _ _ other) (homes q) (ap (λ x. section_at q x) sections) other)
  where
    side_forgets : (g : Region) → g.remotes i ≡ r → Happens name.home g (record (at_remote i (remote_flushes r) g.flight g) { remotes = at_node g.remotes i (new_remote g.home.size) })
    side_forgets g at_g =
        subst (λ x. Happens name.home g (record (at_remote i (remote_flushes x) g.flight g) { remotes = at_node g.remotes i (new_remote g.home.size) })) at_g
        (region.forget i g.home.size (eqb-false i name.home other_home) (ap (λ (x : Remote). x.here) at_g ∙ here) (ap (λ (x : Remote). x.asking) at_g ∙ idle))

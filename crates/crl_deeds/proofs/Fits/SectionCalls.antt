-- What holds of a node that is free holds after it starts or ends a section, flushes, or comes to a round.
use Rattle.std.proofs.Common.{◌≡◌, ℕ, ◌+◌, ◌-◌, ◌==◌, Bool, true, false, None, Some, Option, List, [], ◌∷◌, length, refl, sym, ◌∙◌, subst}
use Rattle.std.proofs.Math.Logic.{◌⊎◌, inl, inr}
use Rattle.crl_model.specs.declared.name.Name.{Name}
use Rattle.crl_model.specs.declared.collective.Part.{Part}
use Rattle.crl_model.specs.declared.collective.Fold.{Fold}
use Rattle.crl_model.specs.declared.call.CallKind.{CallKind}
use Rattle.crl_model.specs.declared.message.Kind.TheVariants as kind
use Rattle.crl_model.specs.Calls.{kind_of}
use Rattle.crl_protocol.specs.Home.{Home, HomeStep, home_starts, home_ends_read, home_ends_write}
use Rattle.crl_protocol.specs.Remote.{Copy, Remote, RemoteStep, remote_starts, remote_ends_read, remote_ends_write, remote_flushes}
use Rattle.crl_protocol.specs.Lifetimes.{Mapping}
use Rattle.crl_protocol.specs.Gathering.{gathers}
use Rattle.crl_protocol.specs.Sections.{OpenSection, section_of, section_at, section_bytes, bytes_at, is_writing}
use Rattle.crl_protocol.specs.Node.{Node, Activity, ForSection, ForRound, Free, Waiting, is_mine, home_of, with_home, with_remote, message_to, letter_messages, mail_messages, section_opens}
use Rattle.crl_protocol.specs.Sectioning.{starts_or_waits, copy_bytes, starts_over_remote, starts_over_home, starts, after_home_end, closes, ends_over_remote, ends_over_home, ends_read, ends_write, flushes_remote, flushes}
use Rattle.crl_protocol.specs.Calls.{after_own_part, comes}
use Rattle.crl_deeds.specs.NodeFacts.{RecordFits, NoOwn, QueueFits, AskingFits, CopyFits, WaitFits, IsMapped, Fits, free}
use Rattle.crl_deeds.specs.TableFacts.{HomeGoes, HomeStarts, RemoteGoes, RemoteStarts}
use Rattle.crl_deeds.proofs.Fits.Fields.{fits_turn, fits_home, fits_remote}
use Rattle.crl_deeds.proofs.Fits.Parts.{Good, good_if, good_only, good_recording, free_apart, good_waits, fits_rounds, letters_leave, mails_leave, results_leave, not_mine, home_bytes, remote_bytes, queue_of, asking_of, mapped_home, mapped_remote, good_moved}
use Rattle.crl_deeds.proofs.Fits.Sections.{fits_close, fits_open}
use Rattle.crl_deeds.proofs.Fits.TableSteps.{no_is_one, starts_fit, read_goes, write_goes, read_ends, write_ends, flushes_goes, remote_start as remote_begins}

-- the node waits for a section of a region that is mapped
waits_mapped : (n : Node) (name : Name) (m : Mapping) → n.maps name ≡ Some m → (q : Name) → WaitFits q (Waiting (ForSection name)) (is_mine n q) (n.maps q)
waits_mapped n name m e q same = subst (λ x. IsMapped (n.maps x)) same (subst (λ x. IsMapped x) (sym e) tt)

not_waiting : (me : ℕ) (name : Name) (h : Home) → QueueFits me name (Some h) Free → NoOwn me h.queue
not_waiting me name h q = of_two q.1
  where
    of_two : NoOwn me h.queue ⊎ (◌≡◌ {A = Activity} Free (Waiting (ForSection name))) → NoOwn me h.queue
    of_two (inl w) = w
    of_two (inr w) = cc

not_asking : (name : Name) (r : Remote) → AskingFits name (Some r) Free → r.asking ≡ None
not_asking name r (inl w) = w
not_asking name r (inr w) = cc

start_here : (i : ℕ) (n : Node) (write : Bool) (name : Name) (h : Home) (m : Mapping) (s : HomeStep) (b : Bool) → s.opened ≡ b
    → home_of n name ≡ Some h → n.maps name ≡ Some m → HomeStarts n.me h s → Fits i (free n)
    → Good i (starts_or_waits b write name s.home.bytes (letter_messages (free n) name s.posts) (with_home name s.home (free n)))
unfolding section_opens
start_here i n write name h m s true o e mapped g f = record {
  node = fits_open i (with_home name s.home n) write name s.home.bytes m mapped (g.bytes ∙ sym (mapped_home i (free n) name h m e mapped f))
      (fits_home i (free n) name h s.home e g.size g.bytes (g.one, inl (g.after o)) f);
  posts = letters_leave (free n) name s.posts g.mail;
}
start_here i n write name h m s false o e mapped g f = record {
  node = fits_home i (record n { activity = Waiting (ForSection name) }) name h s.home e g.size g.bytes (g.one, inr refl)
      (fits_turn i n Free (Waiting (ForSection name)) free_apart (waits_mapped n name m mapped) tt f);
  posts = letters_leave (free n) name s.posts g.mail;
}

copy_length : (o p : Option Copy) (c : Copy) (size : ℕ) → o ≡ p → p ≡ Some c → CopyFits p size → length (copy_bytes o) ≡ size
copy_length o p c size e w f = subst (λ x. length (copy_bytes x) ≡ size) (sym (e ∙ w)) (subst (λ x. CopyFits x size) w f)

start_there : (i : ℕ) (n : Node) (write : Bool) (name : Name) (r : Remote) (m : Mapping) (s : RemoteStep) (b : Bool) → s.opened ≡ b
    → n.remotes name ≡ Some r → n.maps name ≡ Some m → RemoteStarts r s → Fits i (free n)
    → Good i (starts_or_waits b write name (copy_bytes s.remote.copy) (mail_messages (free n) name s.posts) (with_remote name (Some s.remote) (free n)))
unfolding section_opens
start_there i n write name r m s true o e mapped g f =
    let fits = remote_bytes i (free n) name r e f in
    let copy = g.bytes o in
    record {
      node = fits_open i (with_remote name (Some s.remote) n) write name (copy_bytes s.remote.copy) m mapped
          (copy_length s.remote.copy r.copy copy.0 r.size g.copy copy.1 fits ∙ sym (mapped_remote i (free n) name r m e mapped f))
          (fits_remote i (free n) name r s.remote e g.size (subst (λ x. CopyFits x s.remote.size) (sym g.copy) (subst (λ z. CopyFits r.copy z) (sym g.size) fits))
          (inl (g.asking o ∙ not_asking name r (asking_of i (free n) name r e f))) f);
      posts = mails_leave (free n) name s.posts (not_mine i (free n) name r e f);
    }
start_there i n write name r m s false o e mapped g f =
    let fits = remote_bytes i (free n) name r e f in
    record {
      node = fits_remote i (record n { activity = Waiting (ForSection name) }) name r s.remote e g.size
          (subst (λ x. CopyFits x s.remote.size) (sym g.copy) (subst (λ z. CopyFits r.copy z) (sym g.size) fits)) (inr refl)
          (fits_turn i n Free (Waiting (ForSection name)) free_apart (waits_mapped n name m mapped) tt f);
      posts = mails_leave (free n) name s.posts (not_mine i (free n) name r e f);
    }

good_start_remote : (i : ℕ) (n : Node) (write : Bool) (name : Name) (m : Mapping) (o : Option Remote) → n.remotes name ≡ o
    → n.maps name ≡ Some m → Fits i (free n) → Good i (starts_over_remote write name o (free n))
good_start_remote i n write name m None e mapped f = good_only i (free n) f
good_start_remote i n write name m (Some r) e mapped f = start_there i n write name r m (remote_starts write r) (remote_starts write r).opened refl e mapped (remote_begins write r) f

good_start_home : (i : ℕ) (n : Node) (write : Bool) (name : Name) (m : Mapping) (o : Option Home) → home_of n name ≡ o
    → n.maps name ≡ Some m → Fits i (free n) → Good i (starts_over_home write name o (free n))
good_start_home i n write name m None e mapped f = good_start_remote i n write name m (n.remotes name) refl mapped f
good_start_home i n write name m (Some h) e mapped f =
    let s = home_starts n.me write h in
    start_here i n write name h m s s.opened refl e mapped (starts_fit n.me write h (home_bytes i (free n) name h e f) (not_waiting n.me name h (queue_of i (free n) name h e f))) f

pub good_start : (i : ℕ) (n : Node) (write : Bool) (name : Name) (m : Mapping) → n.maps name ≡ Some m → Fits i (free n)
    → Good i (starts write name (free n))
good_start i n write name m mapped f = good_start_home i n write name m (home_of n name) refl mapped f

-- The end of a section.
queue_free : (me : ℕ) (name : Name) (h g : Home) → (NoOwn me h.queue → NoOwn me g.queue) → QueueFits me name (Some h) Free → QueueFits me name (Some g) Free
queue_free me name h g none q = let w = none (not_waiting me name h q) in (no_is_one me g.queue w, inl w)

end_here : (i : ℕ) (n : Node) (name : Name) (h : Home) (s : HomeStep) → home_of n name ≡ Some h → HomeGoes n.me h s
    → Fits i (free n) → Good i (after_home_end name s (free n))
unfolding after_home_end
end_here i n name h s e g f = record {
  node = fits_home i (free n) name h s.home e g.size g.bytes (queue_free n.me name h s.home g.none (queue_of i (free n) name h e f)) f;
  posts = letters_leave (free n) name s.posts g.mail;
}

end_there : (i : ℕ) (n : Node) (name : Name) (ends : Remote → RemoteStep) (o : Option Remote) → n.remotes name ≡ o
    → ((r : Remote) → n.remotes name ≡ Some r → RemoteGoes r (ends r)) → Fits i n → Good i (ends_over_remote name ends o n)
end_there i n name ends None e g f = good_only i n f
end_there i n name ends (Some r) e g f = good_moved i n name r (ends r) e (g r e) f

end_either : (i : ℕ) (n : Node) (name : Name) (home_ends : Home → HomeStep) (ends : Remote → RemoteStep) (o : Option Home) → home_of n name ≡ o
    → ((h : Home) → home_of n name ≡ Some h → HomeGoes n.me h (home_ends h)) → ((r : Remote) → n.remotes name ≡ Some r → RemoteGoes r (ends r)) → Fits i (free n)
    → Good i (ends_over_home name home_ends ends o (free n))
end_either i n name home_ends ends None e g k f = end_there i (free n) name ends (n.remotes name) refl k f
end_either i n name home_ends ends (Some h) e g k f = end_here i n name h (home_ends h) e (g h e) f

pub good_end_read : (i : ℕ) (n : Node) (name : Name) → Fits i (free n) → Good i (ends_read name (free n))
good_end_read i n name f =
    good_recording i _ _
    (end_either i (closes name n) name (home_ends_read n.me) remote_ends_read (home_of n name) refl (λ h e. read_goes n.me h (home_bytes i (free n) name h e f))
    (λ r e. read_ends r (remote_bytes i (free n) name r e f)) (fits_close i (free n) name f))

-- the section that is open has the size under which its region is mapped
pub open_size : (o : Option OpenSection) (m : Option Mapping) → is_writing (section_of o) ≡ true → RecordFits o m → (k : Mapping) × (m ≡ Some k) × (length (section_bytes o) ≡ k.size)
open_size None m w f = cc
open_size (Some r) None w f = absurd f
open_size (Some r) (Some m) w f = (m, refl, f.0)

pub good_end_write : (i : ℕ) (n : Node) (name : Name) (after : List ℕ) → is_writing (section_at name n.sections) ≡ true
    → length after ≡ length (bytes_at name n.sections) → Fits i (free n) → Good i (ends_write name after (free n))
good_end_write i n name after writing same f =
    let size = open_size (n.sections.records name) (n.maps name) writing (f.each name).sections in
    good_recording i _ _
    (end_either i (closes name n) name (home_ends_write n.me after) (remote_ends_write after) (home_of n name) refl
    (λ h e. write_goes n.me after h (same ∙ size.2 ∙ mapped_home i (free n) name h size.0 e size.1 f))
    (λ r e. write_ends after r (same ∙ size.2 ∙ mapped_remote i (free n) name r size.0 e size.1 f)) (fits_close i (free n) name f))

-- a flush
good_flush_remote : (i : ℕ) (n : Node) (name : Name) (o : Option Remote) → n.remotes name ≡ o → Fits i n → Good i (flushes_remote name o n)
good_flush_remote i n name None e f = good_only i n f
good_flush_remote i n name (Some r) e f = good_moved i n name r (remote_flushes r) e (flushes_goes r (remote_bytes i n name r e f)) f

pub good_flush : (i : ℕ) (n : Node) (name : Name) → Fits i n → Good i (flushes name n)
good_flush i n name f =
    good_recording i _ _ (good_if i (is_mine n name) _ _ (λ w. good_only i n f) (λ w. good_flush_remote i n name (n.remotes name) refl f))

-- a round
good_gathered : (i : ℕ) (n : Node) (round : ℕ) (k : CallKind) (o : Option Fold) → Fits i (free n) → Good i (after_own_part round k o (free n))
good_gathered i n round k None f = good_waits i n (ForRound round k) [] (λ q. tt) tt tt f
good_gathered i n round k (Some v) f = record { node = f; posts = results_leave (free n) 1 (n.nodes - 1) round v }

pub good_come : (i : ℕ) (n : Node) (part : Part) → Fits i (free n) → Good i (comes part (free n))
good_come i n part f =
    let next : Node = record n { rounds = n.rounds + 1 } in
    let g = gathers n.nodes 0 part n.gathering in
    good_recording i _ _
    (good_if i (n.me == 0) _ _ (λ w. good_gathered i (record next { gathering = g.gathering }) (n.rounds + 1) (kind_of part) g.fold (fits_rounds i (free n) (n.rounds + 1) g.gathering f))
    (λ w. good_waits i next (ForRound (n.rounds + 1) (kind_of part)) (message_to n 0 (kind.Come (n.rounds + 1) part) ∷ []) (λ q. tt) tt (tt, tt)
    (fits_rounds i (free n) (n.rounds + 1) n.gathering f)))

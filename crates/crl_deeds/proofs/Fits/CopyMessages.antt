-- What holds of a node holds after it handles a message about copies.
use Rattle.std.proofs.Common.{◌≡◌, ℕ, ◌==◌, Bool, true, false, None, Some, Option, List, length, refl, ap, sym, ◌∙◌, subst}
use Rattle.std.proofs.lemmas.Bool.{cond-true, eqb-true, and_parts}
use Rattle.std.proofs.Math.Logic.{◌⊎◌, inl, inr}
use Rattle.crl_model.specs.declared.name.Name.{Name}
use Rattle.crl_model.specs.declared.message.Granted.{Granted}
use Rattle.crl_model.specs.declared.message.Granted.TheVariants as granted_as
use Rattle.crl_model.specs.Names.{name_eq}
use Rattle.crl_protocol.specs.Home.{Home, HomeStep, return_fits, release_fits}
use Rattle.crl_protocol.specs.Remote.{Copy, Remote, RemoteStep, copy_after_grant, remote_takes_grant, asks_to_write, asks_to_read, is_shared, grant_fits}
use Rattle.crl_protocol.specs.Lifetimes.{Mapping}
use Rattle.crl_protocol.specs.Sections.{is_writing}
use Rattle.crl_protocol.specs.Node.{Node, ForSection, Activity, Free, Waiting, Ready, home_of, lifetime_of, with_home, with_remote, section_opens}
use Rattle.crl_protocol.specs.Sectioning.{copy_bytes, after_serve}
use Rattle.crl_protocol.specs.Handlers.{is_queued_in, takes_ask, takes_return, takes_release, opens_with_grant, takes_grant, takes_call_back}
use Rattle.crl_deeds.specs.NodeFacts.{CopyFits, OneOwn, NoOwn, QueueFits, AskingFits, IsMapped, Fits, free}
use Rattle.crl_deeds.specs.TableFacts.{HomeGoes, RemoteGoes}
use Rattle.crl_deeds.proofs.Fits.Fields.{fits_turn, fits_leave, fits_home, fits_remote}
use Rattle.crl_deeds.proofs.Fits.Names.{name_self, other_name, going_calm, Apart}
use Rattle.crl_deeds.proofs.Fits.Parts.{Good, good_if, good_only, free_apart, letters_leave, here_of, there_if, not_mine, home_bytes, remote_bytes, queue_of, asking_of, mapped_home, mapped_remote, good_moved}
use Rattle.crl_deeds.proofs.Fits.Sections.{fits_open}
use Rattle.crl_deeds.proofs.Fits.TableRows.{home_put}
use Rattle.crl_deeds.proofs.Fits.TableSteps.{asked_goes, returned_goes, released_goes}

-- the node with its activity written out
pub fits_as : (i : ℕ) (n : Node) (a : Activity) → n.activity ≡ a → Fits i n → Fits i (record n { activity = a })
fits_as i n a e f = subst (λ x. Fits i (record n { activity = x })) e f

-- A node that waits for a section is done with that where nothing of its own is asked any more.
section_apart : (name q : Name) → name_eq name q ≡ false → Apart q (Waiting (ForSection name))
section_apart name q e = record { section = λ w. other_name name q e (let k : name ≡ q = cc in k); delete = λ w. cc }

done_waiting : (i : ℕ) (n : Node) (name : Name) → QueueFits n.me name (home_of n name) Free
    → AskingFits name (n.remotes name) Free → Fits i (record n { activity = Waiting (ForSection name) }) → Fits i (free n)
done_waiting i n name queue asking f =
    fits_leave i n (Waiting (ForSection name)) Free name (section_apart name) (λ q. tt) tt queue asking
    (going_calm n.me name (lifetime_of n name).stage (Waiting (ForSection name)) Free (λ e. cc) (f.each name).going) f

mapped_as : (m : Option Mapping) → IsMapped m → (k : Mapping) × (m ≡ Some k)
mapped_as None h = absurd h
mapped_as (Some m) h = (m, refl)

-- what a node waits for is mapped
is_mapped : (i : ℕ) (n : Node) (name : Name) → Fits i (record n { activity = Waiting (ForSection name) }) → (k : Mapping) × (n.maps name ≡ Some k)
is_mapped i n name f = mapped_as (n.maps name) ((f.each name).waiting refl)

-- its section opens, and it is ready with that
opens_ready : (i : ℕ) (n : Node) (write : Bool) (name : Name) (bytes : List ℕ) (m : Mapping) → n.maps name ≡ Some m → length bytes ≡ m.size → Fits i (free n)
    → Fits i (record (section_opens write name bytes n).node { activity = Ready (section_opens write name bytes n).answer })
opens_ready i n write name bytes m mapped size f =
    let o = section_opens write name bytes n in
    fits_turn i o.node Free (Ready o.answer) free_apart (λ q. tt) tt (fits_open i n write name bytes m mapped size f)

-- Serve at the home.
queue_more : (me : ℕ) (name : Name) (h g : Home) (a : Activity) → (NoOwn me h.queue → NoOwn me g.queue) → (OneOwn me h.queue → OneOwn me g.queue)
    → QueueFits me name (Some h) a → QueueFits me name (Some g) a
queue_more me name h g a none one q = (one q.0, of_two q.1)
  where
    of_two : NoOwn me h.queue ⊎ (a ≡ Waiting (ForSection name)) → NoOwn me g.queue ⊎ (a ≡ Waiting (ForSection name))
    of_two (inl w) = inl (none w)
    of_two (inr w) = inr w

pub waits_own : (me : ℕ) (name : Name) (h : Home) (s : HomeStep) (a : Activity) → s.opened ≡ true → HomeGoes me h s → QueueFits me name (Some h) a → a ≡ Waiting (ForSection name)
waits_own me name h s a o g q = of_two q.1
  where
    of_two : NoOwn me h.queue ⊎ (a ≡ Waiting (ForSection name)) → a ≡ Waiting (ForSection name)
    of_two (inl w) = let k = g.silent w in cc
    of_two (inr w) = w

served_opens : (i : ℕ) (n : Node) (name : Name) (h : Home) (s : HomeStep) (write : Bool) → home_of n name ≡ Some h
    → HomeGoes n.me h s → s.opened ≡ true → Fits i (record n { activity = Waiting (ForSection name) })
    → let o = section_opens write name s.home.bytes (with_home name s.home n) in Fits i (record o.node { activity = Ready o.answer })
served_opens i n name h s write e g o f =
    let m = is_mapped i n name f in
    let waiting : Node = record n { activity = Waiting (ForSection name) } in
    let one = (queue_of i waiting name h e f).0 in
    let there : home_of (with_home name s.home n) name ≡ Some s.home = home_put n name h s.home e name ∙ cond-true (name_eq name name) _ _ (name_self name) in
    opens_ready i (with_home name s.home n) write name s.home.bytes m.0 m.1 (g.bytes ∙ sym (mapped_home i waiting name h m.0 e m.1 f))
    (done_waiting i (with_home name s.home n) name (subst (λ x. QueueFits n.me name x Free) (sym there) (g.one one, inl (g.after one o)))
    (subst (λ x. AskingFits name x Free) (sym (here_of i waiting name h e f).nothing) tt)
    (fits_home i waiting name h s.home e g.size g.bytes (g.one one, inr refl) f))

good_served : (i : ℕ) (n : Node) (name : Name) (h : Home) (s : HomeStep) → home_of n name ≡ Some h → HomeGoes n.me h s → Fits i n → Good i (after_serve name s n)
unfolding after_serve section_opens
good_served i n name h s e g f =
    good_if i s.opened _ _
    (λ o. record {
      node = served_opens i n name h s (is_writing s.home.mine) e g o (fits_as i n (Waiting (ForSection name)) (waits_own n.me name h s n.activity o g (queue_of i n name h e f)) f);
      posts = letters_leave n name s.posts g.mail;
    })
    (λ o. record {
      node = fits_home i n name h s.home e g.size g.bytes (queue_more n.me name h s.home n.activity g.none g.one (queue_of i n name h e f)) f;
      posts = letters_leave n name s.posts g.mail;
    })

pub good_asked : (i : ℕ) (n : Node) (from : ℕ) (name : Name) (write : Bool) (have : ℕ) (o : Option Home) → home_of n name ≡ o
    → (from == n.me) ≡ false → Fits i n → Good i (takes_ask from name write have o n)
good_asked i n from name write have None e other f = good_only i n f
good_asked i n from name write have (Some h) e other f =
    good_if i (is_queued_in from n.homes) _ _ (λ w. good_only i n f)
    (λ w. good_served i n name h _ e (asked_goes n.me (record { node = from; write = write; have = have }) h other (home_bytes i n name h e f)) f)

pub good_returned : (i : ℕ) (n : Node) (from : ℕ) (name : Name) (version : ℕ) (bytes : Option (List ℕ)) (o : Option Home)
    → home_of n name ≡ o → Fits i n → Good i (takes_return from name version bytes o n)
good_returned i n from name version bytes None e f = good_only i n f
good_returned i n from name version bytes (Some h) e f =
    good_if i (return_fits from version bytes h) _ _ (λ w. good_served i n name h _ e (returned_goes n.me from version bytes h (home_bytes i n name h e f) w) f)
    (λ w. good_only i n f)

pub good_released : (i : ℕ) (n : Node) (from : ℕ) (name : Name) (version : ℕ) (bytes : List ℕ) (o : Option Home)
    → home_of n name ≡ o → Fits i n → Good i (takes_release from name version bytes o n)
good_released i n from name version bytes None e f = good_only i n f
good_released i n from name version bytes (Some h) e f =
    good_if i (release_fits bytes h) _ _ (λ w. good_served i n name h _ e (released_goes n.me from version bytes h (home_bytes i n name h e f) w) f)
    (λ w. good_only i n f)

-- A grant.
granted_bytes : (version : ℕ) (g : Granted) (r : Remote) (copy : Option Copy) → r.copy ≡ copy → CopyFits copy r.size → grant_fits g r ≡ true
    → CopyFits (copy_after_grant version g copy) r.size × (length (copy_bytes (copy_after_grant version g copy)) ≡ r.size)
granted_bytes version (granted_as.Shared bytes) r copy c f w = let e = eqb-true _ _ (and_parts _ _ w).1 in (e, e)
granted_bytes version (granted_as.Exclusive bytes) r copy c f w = let e = eqb-true _ _ (and_parts _ _ w).1 in (e, e)
granted_bytes version granted_as.Upgrade r None c f w = let e = (and_parts (asks_to_write r.asking) (is_shared r.copy) w).1 in let k = ap is_shared c in cc
granted_bytes version granted_as.Upgrade r (Some copy) c f w = (f, f)

asks_some : (g : Granted) (r : Remote) (o : Option Bool) → r.asking ≡ o → grant_fits g r ≡ true → o ≡ None → ⊥
asks_some (granted_as.Shared bytes) r o e w none = let k = (and_parts (asks_to_read r.asking) _ w).0 in let j = ap asks_to_read (e ∙ none) in cc
asks_some (granted_as.Exclusive bytes) r o e w none = let k = (and_parts (asks_to_write r.asking) _ w).0 in let j = ap asks_to_write (e ∙ none) in cc
asks_some granted_as.Upgrade r o e w none = let k = (and_parts (asks_to_write r.asking) _ w).0 in let j = ap asks_to_write (e ∙ none) in cc

pub waits_granted : (name : Name) (g : Granted) (r : Remote) (a : Activity) → grant_fits g r ≡ true → AskingFits name (Some r) a → a ≡ Waiting (ForSection name)
waits_granted name g r a w (inl none) = absurd (asks_some g r r.asking refl w none)
waits_granted name g r a w (inr e) = e

granted_opens : (i : ℕ) (n : Node) (name : Name) (version : ℕ) (g : Granted) (r : Remote) → n.remotes name ≡ Some r
    → grant_fits g r ≡ true → Fits i (record n { activity = Waiting (ForSection name) })
    → Good i (opens_with_grant name (asks_to_write r.asking) (remote_takes_grant version g r) n)
unfolding section_opens remote_takes_grant
granted_opens i n name version g r e w f =
    let waiting : Node = record n { activity = Waiting (ForSection name) } in
    let m = is_mapped i n name f in
    let s = remote_takes_grant version g r in
    let bytes = granted_bytes version g r r.copy refl (remote_bytes i waiting name r e f) w in
    let other = not_mine i waiting name r e f in
    let there : (with_remote name (Some s) n).remotes name ≡ Some s = cond-true (name_eq name name) _ _ (name_self name) in
    record {
      node = opens_ready i (with_remote name (Some s) n) (asks_to_write r.asking) name (copy_bytes s.copy) m.0 m.1 (bytes.1 ∙ sym (mapped_remote i waiting name r m.0 e m.1 f))
          (done_waiting i (with_remote name (Some s) n) name (subst (λ x. QueueFits n.me name x Free) (sym (there_if i waiting name other f).nothing) tt)
          (subst (λ x. AskingFits name x Free) (sym there) (inl refl)) (fits_remote i waiting name r s e refl bytes.0 (inl refl) f));
      posts = tt;
    }

pub good_granted : (i : ℕ) (n : Node) (name : Name) (version : ℕ) (g : Granted) (o : Option Remote) → n.remotes name ≡ o
    → Fits i n → Good i (takes_grant name version g o n)
good_granted i n name version g None e f = good_only i n f
good_granted i n name version g (Some r) e f =
    good_if i (grant_fits g r) _ _
    (λ w. granted_opens i n name version g r e w (fits_as i n (Waiting (ForSection name)) (waits_granted name g r n.activity w (asking_of i n name r e f)) f))
    (λ w. good_only i n f)

-- a recall and a yield
pub good_called : (i : ℕ) (n : Node) (name : Name) (step : Remote → RemoteStep) (o : Option Remote) → n.remotes name ≡ o
    → ((r : Remote) → CopyFits r.copy r.size → RemoteGoes r (step r)) → Fits i n
    → Good i (takes_call_back name step o n)
good_called i n name step None e g f = good_only i n f
good_called i n name step (Some r) e g f = good_moved i n name r (step r) e (g r (remote_bytes i n name r e f)) f

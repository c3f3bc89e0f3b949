-- What a node that waits for a section has asked for: to read or to write.
use Rattle.std.proofs.Common.{◌≡◌, ℕ, ◌==◌, Bool, true, false, not, ◌&&◌, None, Some, Option, List, [], ◌∷◌, ◌++◌, if◌then◌else◌, refl, ap, sym, ◌∙◌, subst}
use Rattle.std.proofs.lemmas.Bool.{cond_both, cond-true}
use Rattle.std.proofs.Math.Logic.{◌⊎◌, inl, inr}
use Rattle.std.specs.List.{AllByRecursion}
use Rattle.crl_model.specs.declared.name.Name.{Name}
use Rattle.crl_model.specs.declared.directory.Asked.{Asked}
use Rattle.crl_model.specs.declared.directory.Section.TheVariants as section
use Rattle.crl_model.specs.declared.message.Granted.{Granted}
use Rattle.crl_model.specs.declared.message.Granted.TheVariants.{Shared, Exclusive, Upgrade}
use Rattle.crl_model.specs.declared.message.Kind.{Kind}
use Rattle.crl_model.specs.Names.{name_eq}
use Rattle.crl_protocol.specs.Places.{at}
use Rattle.crl_protocol.specs.Home.{Home, HomeStep, is_servable, open_own, grant_next, grant_for, opens_own_section, posts_first, serve, with_marks, recalls_and_yields, home_takes_ask, home_takes_return, is_to_lower, home_takes_release, own_ask, is_empty, is_reading, home_starts}
use Rattle.crl_protocol.specs.Remote.{Copy, Remote, RemoteStep, remote_starts, starts_over, remote_takes_grant, grant_fits, asks_to_write, asks_to_read}
use Rattle.crl_protocol.specs.Sections.{is_writing}
use Rattle.crl_protocol.specs.Node.{Node, Activity, Free, Waiting, ForSection, Outcome, home_of, with_home, with_remote}
use Rattle.crl_deeds.specs.Deeds.{Hears, Serves, CallsBack, Copies, Lives, Rounds, Deed}
use Rattle.crl_deeds.specs.NodeFacts.{NoOwn, CopyFits, IsAway, Fits}
use Rattle.crl_deeds.proofs.Laws.{same_name, name_self, all_append, home_put, queue_of, asking_of, recalled_goes, yields_goes, remote_bytes}
use Rattle.crl_deeds.specs.Deeds as deed

-- The node's own asks in a queue are all to write, or all to read.
abbrev pub OwnAsks : ℕ → Bool → List Asked → Type 0
OwnAsks me write queue = AllByRecursion (λ (ask : Asked). (ask.node == me) ≡ true → ask.write ≡ write) queue

pub record AskedAs (write : Bool) (q : Name) (n : Node) : Type 0 where
  pub home : (h : Home) → home_of n q ≡ Some h → OwnAsks n.me write h.queue
  pub side : (r : Remote) → n.remotes q ≡ Some r → (x : Bool) → r.asking ≡ Some x → x ≡ write

-- Serve, over a queue.
record ServesAs (me : ℕ) (write : Bool) (h : Home) (queue : List Asked) (s : HomeStep) : Type 0 where
  kept : OwnAsks me write queue → OwnAsks me write s.home.queue
  quiet : s.opened ≡ false → s.home.mine ≡ h.mine
  opens : OwnAsks me write queue → s.opened ≡ true → is_writing s.home.mine ≡ write

own_section : (h : Home) (ask : Asked) → is_writing (open_own h ask).mine ≡ ask.write
own_section h ask = go ask.write
  where
    go : (b : Bool) → is_writing (if b then section.Writing else section.Reading 1) ≡ b
    go true = refl
    go false = refl

serves_next : (me : ℕ) (write : Bool) (h : Home) (ask : Asked) (queue : List Asked) (x y : HomeStep) (servable own : Bool) → (ask.node == me) ≡ own
    → ServesAs me write (open_own h ask) queue x → ServesAs me write (grant_next h ask) queue y
    → ServesAs me write h (ask ∷ queue) (if servable then (if own then opens_own_section x else posts_first (grant_for h ask) y)
    else record { home = record h { listed = with_marks 0 h.listed ask; queue = ask ∷ queue }; posts = recalls_and_yields 0 h.listed ask; opened = false })
serves_next me write h ask queue x y true true e fx fy = record {
  kept = λ k. fx.kept k.1;
  quiet = λ w. cc;
  opens = λ k w. go x.opened refl k;
}
  where
    go : (b : Bool) → x.opened ≡ b → OwnAsks me write (ask ∷ queue) → is_writing x.home.mine ≡ write
    go true o k = fx.opens k.1 o
    go false o k = ap is_writing (fx.quiet o) ∙ own_section h ask ∙ k.0 e
serves_next me write h ask queue x y true false e fx fy = record { kept = λ k. fy.kept k.1; quiet = fy.quiet; opens = λ k w. fy.opens k.1 w }
serves_next me write h ask queue x y false own e fx fy = record { kept = λ k. k; quiet = λ w. refl; opens = λ k w. cc }

serves : (me : ℕ) (write : Bool) (h : Home) (queue : List Asked) → ServesAs me write h queue (serve me h queue)
serves me write h [] = record { kept = λ k. tt; quiet = λ w. refl; opens = λ k w. cc }
serves me write h (ask ∷ queue) =
    serves_next me write h ask queue (serve me (open_own h ask) queue) (serve me (grant_next h ask) queue) (is_servable h ask) (ask.node == me) refl
    (serves me write (open_own h ask) queue) (serves me write (grant_next h ask) queue)

-- A message that steps the home's table.
pub record KeepsAsks (me : ℕ) (write : Bool) (h : Home) (s : HomeStep) : Type 0 where
  pub kept : OwnAsks me write h.queue → OwnAsks me write s.home.queue
  pub opens : OwnAsks me write h.queue → s.opened ≡ true → is_writing s.home.mine ≡ write

keeps : (me : ℕ) (write : Bool) (h g : Home) (queue : List Asked) → (OwnAsks me write h.queue → OwnAsks me write queue) → KeepsAsks me write h (serve me g queue)
keeps me write h g queue more = let f = serves me write g queue in record { kept = λ k. f.kept (more k); opens = λ k w. f.opens (more k) w }

pub asks_served : (n : Node) (h : Home) (from : ℕ) (k : Kind) (name : Name) (s : HomeStep) (write : Bool) → Serves n h from k name s → IsAway from n.me k → KeepsAsks n.me write h s
unfolding home_takes_ask home_takes_return home_takes_release
asks_served n h from k name s write (deed.ask_comes f q w have free) away =
    keeps n.me write h h (h.queue ++ record { node = from; write = w; have = have } ∷ []) (λ own. all_append _ h.queue (record { node = from; write = w; have = have } ∷ []) own ((λ same. let x = away in cc), tt))
asks_served n h from k name s write (deed.copy_returns f q version bytes fits) away = keeps n.me write h _ h.queue (λ own. own)
asks_served n h from k name s write (deed.copy_lowers f q version bytes fits) away =
    cond_both (is_to_lower version (at from h.listed)) _ _ (KeepsAsks n.me write h) (λ w. keeps n.me write h _ h.queue (λ own. own)) (λ w. record { kept = λ own. own; opens = λ own o. cc })

some_same : {A : Type 0} (x y : A) → Some x ≡ Some y → x ≡ y
some_same x y e = cc

-- The start of a section at the home, where no own ask waits.
none_as : (me : ℕ) (write : Bool) (queue : List Asked) → NoOwn me queue → OwnAsks me write queue
none_as me write [] h = tt
none_as me write (ask ∷ queue) h = ((λ same. let x = h.0 in cc), none_as me write queue h.1)

pub starts_as : (me : ℕ) (write : Bool) (h : Home) → NoOwn me h.queue → (home_starts me write h).opened ≡ false → OwnAsks me write (home_starts me write h).home.queue
unfolding home_starts
starts_as me write h none =
    cond_both (not write && is_reading h.mine) _ _ (λ (s : HomeStep). s.opened ≡ false → OwnAsks me write s.home.queue) (λ w o. cc)
    (λ w. cond_both (is_empty h.queue && is_servable h (own_ask me write)) _ _ (λ (s : HomeStep). s.opened ≡ false → OwnAsks me write s.home.queue) (λ v o. cc)
    (λ v o. (serves me write h (h.queue ++ own_ask me write ∷ [])).kept (all_append _ h.queue (own_ask me write ∷ []) (none_as me write h.queue none) ((λ same. refl), tt))))

pub asks_as : (write : Bool) (r : Remote) → (remote_starts write r).opened ≡ false → (x : Bool) → (remote_starts write r).remote.asking ≡ Some x → x ≡ write
unfolding remote_starts
asks_as write r = go write r.copy
  where
    go : (write : Bool) (copy : Option Copy) → (starts_over write copy r).opened ≡ false → (x : Bool) → (starts_over write copy r).remote.asking ≡ Some x → x ≡ write
    go write None = λ o x e. cc
    go false (Some copy) = λ o x e. cc
    go true (Some copy) =
        cond_both copy.exclusive _ _ (λ (s : RemoteStep). s.opened ≡ false → (x : Bool) → s.remote.asking ≡ Some x → x ≡ true) (λ w o x e. cc) (λ w o x e. cc)

-- The region's table at its home, and the side of it elsewhere, that take another value.
with_home_as : (n : Node) (name : Name) (h g : Home) (write : Bool) (q : Name) → home_of n name ≡ Some h → (OwnAsks n.me write h.queue → OwnAsks n.me write g.queue)
    → AskedAs write q n → AskedAs write q (with_home name g n)
with_home_as n name h g write q e more a = record { home = λ x w. go (name_eq name q) refl x (sym (home_put n name h g e q) ∙ w); side = a.side }
  where
    go : (b : Bool) → name_eq name q ≡ b → (x : Home) → (if b then Some g else home_of n q) ≡ Some x → OwnAsks n.me write x.queue
    go true s x w = let same : g ≡ x = cc in subst (λ (y : Home). OwnAsks n.me write y.queue) same (more (a.home h (ap (home_of n) (sym (same_name name q s)) ∙ e)))
    go false s x w = a.home x w

with_side_as : (n : Node) (name : Name) (v : Option Remote) (write : Bool) (q : Name) → ((r : Remote) → v ≡ Some r → (x : Bool) → r.asking ≡ Some x → (o : Remote) × (n.remotes name ≡ Some o) × (o.asking ≡ Some x))
    → AskedAs write q n → AskedAs write q (with_remote name v n)
with_side_as n name v write q had a = record { home = a.home; side = go (name_eq name q) refl }
  where
    go : (b : Bool) → name_eq name q ≡ b → (r : Remote) → (if b then v else n.remotes q) ≡ Some r → (x : Bool) → r.asking ≡ Some x → x ≡ write
    go true s r w x e = let o = had r w x e in a.side o.0 (ap n.remotes (sym (same_name name q s)) ∙ o.1) x o.2
    go false s r w x e = a.side r w x e

-- A message that comes to the node while it waits for the section.
called_as : (r : Remote) (k : Kind) (name : Name) (s : RemoteStep) → CallsBack r k name s → (x : Bool) → s.remote.asking ≡ Some x → CopyFits r.copy r.size → r.asking ≡ Some x
called_as r k name s (deed.wholly q version) x e b = sym (recalled_goes version r b).asking ∙ e
called_as r k name s (deed.to_share q version) x e b = sym (yields_goes version r b).asking ∙ e

copies_as : (j : ℕ) (n : Node) (from : ℕ) (k : Kind) (o : Outcome) (write : Bool) (q : Name) → Copies n (Hears from k) o → Fits j n → IsAway from n.me k → AskedAs write q n → AskedAs write q o.node
unfolding remote_takes_grant
copies_as j n from k o write q (deed.home_serves f x name h s is e y) fits away a = with_home_as n name h s.home write q e (asks_served n h from k name s write is away).kept a
copies_as j n from k o write q (deed.home_serves_own f x name h s is e y) fits away a =
    let b = with_home_as n name h s.home write q e (asks_served n h from k name s write is away).kept a in record { home = b.home; side = b.side }
copies_as j n from k o write q (deed.grant_comes f name version g r e t) fits away a =
    let b = with_side_as n name (Some (remote_takes_grant version g r)) write q (λ z w x v. let none = ap (λ (y : Remote). y.asking) (some_same _ _ w) in cc) a in record { home = b.home; side = b.side }
copies_as j n from k o write q (deed.side_called f x name r s is e) fits away a =
    with_side_as n name (Some s.remote) write q (λ z w x v. (r, e, called_as r k name s is x (ap (λ (y : Remote). y.asking) (some_same _ _ w) ∙ v) (remote_bytes j n name r e fits))) a

lives_as : (n : Node) (from : ℕ) (k : Kind) (o : Outcome) (write : Bool) (q : Name) → Lives n (Hears from k) o → n.activity ≡ Waiting (ForSection q) → AskedAs write q n → AskedAs write q o.node
lives_as n from k o write q (deed.map_comes f name purged size e) waits a = cc
lives_as n from k o write q (deed.drops f name size e c) waits a = let b = with_side_as n name None write q (λ r w x v. cc) a in record { home = b.home; side = b.side }
lives_as n from k o write q _ waits a = record { home = a.home; side = a.side }

rounds_as : (n : Node) (from : ℕ) (k : Kind) (o : Outcome) (write : Bool) (q : Name) → Rounds n (Hears from k) o → AskedAs write q n → AskedAs write q o.node
rounds_as n from k o write q (deed.part_comes f round part b all) a = record { home = a.home; side = a.side }
rounds_as n from k o write q _ a = record { home = a.home; side = a.side }

pub hears_as : (j : ℕ) (n : Node) (from : ℕ) (k : Kind) (o : Outcome) (write : Bool) (q : Name) → Deed n (Hears from k) o → Fits j n → IsAway from n.me k → n.activity ≡ Waiting (ForSection q) → AskedAs write q n → AskedAs write q o.node
hears_as j n from k o write q (deed.copies d) fits away waits a = copies_as j n from k o write q d fits away a
hears_as j n from k o write q (deed.lives d) fits away waits a = lives_as n from k o write q d waits a
hears_as j n from k o write q (deed.rounds d) fits away waits a = rounds_as n from k o write q d a
hears_as j n from k o write q (deed.idles h) fits away waits a = record { home = a.home; side = a.side }

-- A call by which the node begins to wait for the section: nothing of its own was asked before.
none_of_section : (q : Name) (a : Activity) {A : Type 0} → a ≡ Free → A ⊎ (a ≡ Waiting (ForSection q)) → A
none_of_section q a free (inl x) = x
none_of_section q a free (inr w) = cc

pub home_waits_as : (j : ℕ) (n : Node) (write : Bool) (name : Name) (h : Home) → home_of n name ≡ Some h → (home_starts n.me write h).opened ≡ false → n.activity ≡ Free → Fits j n
    → AskedAs write name (with_home name (home_starts n.me write h).home n)
home_waits_as j n write name h e o free fits = record { home = go; side = no_side }
  where
    g : Home
    g = (home_starts n.me write h).home

    go : (x : Home) → home_of (with_home name g n) name ≡ Some x → OwnAsks n.me write x.queue
    go x w =
        let same : g ≡ x = some_same _ _ (sym (cond-true (name_eq name name) (Some g) (home_of n name) (name_self name)) ∙ sym (home_put n name h g e name) ∙ w) in
        subst (λ (y : Home). OwnAsks n.me write y.queue) same (starts_as n.me write h (none_of_section name n.activity free (queue_of j n name h e fits).1) o)

    no_side : (r : Remote) → n.remotes name ≡ Some r → (x : Bool) → r.asking ≡ Some x → x ≡ write
    no_side r w x v = let none = none_of_section name n.activity free (asking_of j n name r w fits) in cc

pub side_waits_as : (j : ℕ) (n : Node) (write : Bool) (name : Name) (r : Remote) → home_of n name ≡ None → n.remotes name ≡ Some r → (remote_starts write r).opened ≡ false
    → AskedAs write name (with_remote name (Some (remote_starts write r).remote) n)
side_waits_as j n write name r none e o = record { home = λ h w. cc; side = go }
  where
    go : (x : Remote) → (with_remote name (Some (remote_starts write r).remote) n).remotes name ≡ Some x → (y : Bool) → x.asking ≡ Some y → y ≡ write
    go x w y v =
        let same : (remote_starts write r).remote ≡ x = some_same _ _ (sym (cond-true (name_eq name name) (Some (remote_starts write r).remote) (n.remotes name) (name_self name)) ∙ w) in
        asks_as write r o y (ap (λ (z : Remote). z.asking) same ∙ v)

-- The section that opens is to write where that was asked.
asks_some : (g : Granted) (r : Remote) (a : Option Bool) → r.asking ≡ a → grant_fits g r ≡ true → (x : Bool) × (r.asking ≡ Some x) × (asks_to_write r.asking ≡ x)
asks_some (Shared bytes) r None e h = let w = ap asks_to_read e in cc
asks_some (Exclusive bytes) r None e h = let w = ap asks_to_write e in cc
asks_some Upgrade r None e h = let w = ap asks_to_write e in cc
asks_some g r (Some x) e h = (x, e, ap asks_to_write e)

pub granted_as : (n : Node) (name : Name) (g : Granted) (r : Remote) (write : Bool) → n.remotes name ≡ Some r → grant_fits g r ≡ true → AskedAs write name n → asks_to_write r.asking ≡ write
granted_as n name g r write e fits a = let x = asks_some g r r.asking refl fits in x.2 ∙ a.side r e x.0 x.1

pub served_own_as : (n : Node) (h : Home) (from : ℕ) (k : Kind) (name : Name) (s : HomeStep) (write : Bool) → Serves n h from k name s → home_of n name ≡ Some h → s.opened ≡ true → IsAway from n.me k → AskedAs write name n → is_writing s.home.mine ≡ write
served_own_as n h from k name s write is e o away a = (asks_served n h from k name s write is away).opens (a.home h e) o

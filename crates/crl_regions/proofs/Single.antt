-- No two messages with bytes are under way to a node under one key, and each such message has the size that its
-- addressee knows.
use Rattle.std.proofs.Common.{◌≡◌, ◌≢◌, inl, inr, ℕ, ◌==◌, Bool, true, false, None, Some, Option, List, [], ◌∷◌, length, if◌then◌else◌, refl, ap, sym, ◌∙◌, subst}
use Rattle.std.specs.List.{AllByRecursion}
use Rattle.std.proofs.lemmas.Bool.{cond-true, cond-false, eqb-true, eqb-false, eq-eqb, and_parts}
use Rattle.crl_model.specs.declared.name.Name.{Name}
use Rattle.crl_model.specs.declared.message.Granted.{Granted}
use Rattle.crl_model.specs.declared.message.Granted.TheVariants.{Shared, Exclusive, Upgrade}
use Rattle.crl_model.specs.declared.message.Message.{Message}
use Rattle.crl_model.specs.declared.message.Kind.{Kind}
use Rattle.crl_model.specs.declared.message.Kind.TheVariants as kind
use Rattle.crl_protocol.specs.Parcels.{load_of, Load, OfGrant, OfReturn, OfRelease, Key, key_in, key_of}
use Rattle.crl_protocol.specs.Receiving.{remote_size, home_size, size_for}
use Rattle.crl_protocol.specs.Places.{at, find_all, Took, here, there}
use Rattle.crl_protocol.specs.Mail.{Mail, Ask, Grant, Recall, Yield, Return, Release, kind_about}
use Rattle.crl_protocol.specs.Home.{Home, is_listed, bytes_fit, return_fits}
use Rattle.crl_protocol.specs.Remote.{Remote, grant_fits, asks_to_read, asks_to_write}
use Rattle.crl_protocol.specs.Node.{Node, home_of}
use Rattle.crl_flight.specs.Flight.{Under, is_key, is_at, messages_of}
use Rattle.crl_flight.proofs.Laws.{key_same}
use Rattle.crl_flight.specs.Coming.{Alone}
use Rattle.crl_coherence.specs.Region.{Flying, Region, flies}
use Rattle.crl_coherence.specs.Pairs.{Freed, pair_of, of_node, granted_in, returned_in, released_in, HasVersion, Distinct}
use Rattle.crl_coherence.specs.Coherent.{IsCoherent}
use Rattle.crl_coherence.proofs.Laws.{took_some, took_all, took_nothing, grants_one, returns_one}
use Rattle.crl_regions.specs.View.{mail_in, other_end, flown, flying, side, sight}
use Rattle.crl_regions.proofs.Acts.{about_here}
use Rattle.crl_safety.specs.Tests.{HasTable}
use Rattle.crl_regions.specs.MailFits.{Tables, FitsTables, MailFits, AllMailFits}
use Rattle.crl_regions.proofs.Messages.{Passes}
use Rattle.crl_deeds.proofs.Laws.{all_took}

-- What the mail of a message with bytes is.
abbrev pub LoadMail : Load → ℕ → Mail → Type 0
LoadMail OfGrant v (Grant version granted) = version ≡ v
LoadMail OfReturn v (Return version bytes) = version ≡ v
LoadMail OfRelease v (Release version bytes) = version ≡ v
LoadMail _ v _ = ⊥

of_grant : (v : ℕ) (m : Mail) → LoadMail OfGrant v m → (granted : Granted) × (m ≡ Grant v granted)
of_grant v (Grant version granted) e = (granted, ap (λ x. Grant x granted) e)
of_grant v (Ask write have) e = absurd e
of_grant v (Recall version) e = absurd e
of_grant v (Yield version) e = absurd e
of_grant v (Return version bytes) e = absurd e
of_grant v (Release version bytes) e = absurd e

of_return : (v : ℕ) (m : Mail) → LoadMail OfReturn v m → (bytes : Option (List ℕ)) × (m ≡ Return v bytes)
of_return v (Return version bytes) e = (bytes, ap (λ x. Return x bytes) e)
of_return v (Ask write have) e = absurd e
of_return v (Recall version) e = absurd e
of_return v (Yield version) e = absurd e
of_return v (Grant version granted) e = absurd e
of_return v (Release version bytes) e = absurd e

of_release : (v : ℕ) (m : Mail) → LoadMail OfRelease v m → (bytes : List ℕ) × (m ≡ Release v bytes)
of_release v (Release version bytes) e = (bytes, ap (λ x. Release x bytes) e)
of_release v (Ask write have) e = absurd e
of_release v (Recall version) e = absurd e
of_release v (Yield version) e = absurd e
of_release v (Grant version granted) e = absurd e
of_release v (Return version bytes) e = absurd e

pub record KeyFacts (tables : Tables) (m : Message) (key : Key) : Type 0 where
  pub mail : Mail
  pub is : flying key.name m ≡ Some (flies (other_end key.name m) mail)
  pub load : LoadMail key.load key.version mail
  pub sender : key.sender ≡ m.sender
  pub other : other_end key.name m ≢ key.name.home
  pub there : HasTable (tables key.name)

from_home : (name : Name) (m : Message) → m.sender ≡ name.home → (m.addressee == name.home) ≡ false → other_end name m ≢ name.home
from_home name m e other f = eqb-false m.addressee name.home other (sym (cond-true (m.sender == name.home) m.addressee m.sender (eq-eqb m.sender name.home e)) ∙ f)

to_home : (name : Name) (m : Message) → (m.sender == name.home) ≡ false → other_end name m ≢ name.home
to_home name m other f = eqb-false m.sender name.home other (sym (cond-false (m.sender == name.home) m.addressee m.sender other) ∙ f)

facts_of : (tables : Tables) (m : Message) (key k : Key) (mail : Mail) → ◌≡◌ {A = Option Key} (Some k) (Some key) → m.kind ≡ kind_about k.name mail → LoadMail k.load k.version mail → k.sender ≡ m.sender → other_end k.name m ≢ k.name.home → HasTable (tables k.name)
    → KeyFacts tables m key
facts_of tables m key k mail same e load sender other t =
    let w : k ≡ key = cc in
    subst (λ x. KeyFacts tables m x) w (record {
      mail = mail;
      is = ap (λ x. flown (other_end k.name m) (mail_in k.name x)) e ∙ ap (λ o. flown (other_end k.name m) o) (about_here k.name mail);
      load = load;
      sender = sender;
      other = other;
      there = t;
    })

pub key_facts : (tables : Tables) (m : Message) (key : Key) (x : Kind) → m.kind ≡ x → key_in m.sender x ≡ Some key → FitsTables tables m.sender m.addressee x → KeyFacts tables m key
key_facts tables m key (kind.Grant name version (Shared bytes)) e k f =
    facts_of tables m key (record { sender = m.sender; name = name; load = OfGrant; version = version }) (Grant version (Shared bytes)) k e refl refl (from_home name m f.0 f.1) f.2
key_facts tables m key (kind.Grant name version (Exclusive bytes)) e k f =
    facts_of tables m key (record { sender = m.sender; name = name; load = OfGrant; version = version }) (Grant version (Exclusive bytes)) k e refl refl (from_home name m f.0 f.1) f.2
key_facts tables m key (kind.Return name version (Some bytes)) e k f =
    facts_of tables m key (record { sender = m.sender; name = name; load = OfReturn; version = version }) (Return version (Some bytes)) k e refl refl (to_home name m f.1) f.2
key_facts tables m key (kind.Release name version bytes) e k f =
    facts_of tables m key (record { sender = m.sender; name = name; load = OfRelease; version = version }) (Release version bytes) k e refl refl (to_home name m f.1) f.2
key_facts tables m key (kind.Grant name version Upgrade) e k f = cc
key_facts tables m key (kind.Return name version None) e k f = cc
key_facts tables m key (kind.InfoAsk name) e k f = cc
key_facts tables m key (kind.InfoIs name t) e k f = cc
key_facts tables m key (kind.Ask name write have) e k f = cc
key_facts tables m key (kind.Recall name version) e k f = cc
key_facts tables m key (kind.Yield name version) e k f = cc
key_facts tables m key (kind.DeleteAsk name) e k f = cc
key_facts tables m key (kind.DeleteIs name t) e k f = cc
key_facts tables m key (kind.Purge name) e k f = cc
key_facts tables m key (kind.Purged name) e k f = cc
key_facts tables m key (kind.Come round p) e k f = cc
key_facts tables m key (kind.Result round fold) e k f = cc

-- Of one node two grants, two returns, or two releases of a version aren't under way.
selected : {A : Type 0} (n : ℕ) (select : Mail → Option A) (m : Mail) (x : A) → select m ≡ Some x → of_node n select (flies n m) ≡ Some x
selected n select m x e = cond-true (n == n) (select m) None (eq-eqb n n refl) ∙ e

has_took : {f : Freed} {fs rest : List Freed} → Took f fs rest → HasVersion f.version fs
has_took here = inl refl
has_took (there t) = inr (has_took t)

distinct_took : {f : Freed} {fs rest : List Freed} → Took f fs rest → Distinct fs → HasVersion f.version rest → ⊥
distinct_took here d h = d.0 h
distinct_took (there {xs = fs} t) d (inl e) = d.0 (subst (λ v. HasVersion v fs) e (has_took t))
distinct_took (there t) d (inr h) = distinct_took t d.1 h

clash : (me : ℕ) (g : Region) (n v : ℕ) (load : Load) (a b : Mail) (rest more : List Flying) → IsCoherent me g → n ≢ me → LoadMail load v a → LoadMail load v b → Took (flies n a) g.flight rest → Took (flies n b) rest more → ⊥
clash me g n v OfGrant a b rest more k other la lb t u =
    let x = of_grant v a la in let y = of_grant v b lb in
    let p = pair_of g.home.listed g.home.queue g.remotes g.flight n in
    let one = took_all (record { version = v; what = x.0 }) (find_all (of_node n granted_in) g.flight) (find_all (of_node n granted_in) rest)
    (took_some (of_node n granted_in) (subst (λ m. Took (flies n m) g.flight rest) x.1 t) (record { version = v; what = x.0 }) (selected n granted_in (Grant v x.0) (record { version = v; what = x.0 }) refl))
    (grants_one g.home.last g.array p (k.loose.pairs n other)) in
    took_nothing (took_some (of_node n granted_in) (subst (λ m. Took (flies n m) rest more) y.1 u) (record { version = v; what = y.0 }) (selected n granted_in (Grant v y.0) (record { version = v; what = y.0 }) refl)) one.1
clash me g n v OfReturn a b rest more k other la lb t u =
    let x = of_return v a la in let y = of_return v b lb in
    let p = pair_of g.home.listed g.home.queue g.remotes g.flight n in
    let one = took_all (record { version = v; bytes = x.0 }) (find_all (of_node n returned_in) g.flight) (find_all (of_node n returned_in) rest)
    (took_some (of_node n returned_in) (subst (λ m. Took (flies n m) g.flight rest) x.1 t) (record { version = v; bytes = x.0 }) (selected n returned_in (Return v x.0) (record { version = v; bytes = x.0 }) refl))
    (returns_one g.home.last g.array p (k.loose.pairs n other)) in
    took_nothing (took_some (of_node n returned_in) (subst (λ m. Took (flies n m) rest more) y.1 u) (record { version = v; bytes = y.0 }) (selected n returned_in (Return v y.0) (record { version = v; bytes = y.0 }) refl)) one.1
clash me g n v OfRelease a b rest more k other la lb t u =
    let x = of_release v a la in let y = of_release v b lb in
    let s = took_some (of_node n released_in) (subst (λ m. Took (flies n m) g.flight rest) x.1 t) (record { version = v; bytes = x.0 }) (selected n released_in (Release v x.0) (record { version = v; bytes = x.0 }) refl) in
    let r = took_some (of_node n released_in) (subst (λ m. Took (flies n m) rest more) y.1 u) (record { version = v; bytes = y.0 }) (selected n released_in (Release v y.0) (record { version = v; bytes = y.0 }) refl) in
    distinct_took s (k.loose.pairs n other).distinct (has_took r)

-- So each message with bytes is alone.
pub took_message : {u : Under} {us others : List Under} → Took u us others → Took u.message (messages_of us) (messages_of others)
took_message here = here
took_message (there t) = there (took_message t)

pub all_by_took : {A : Type 0} (P : A → Type 0) (xs : List A) → ((x : A) (rest : List A) → Took x xs rest → P x) → AllByRecursion P xs
all_by_took P [] h = tt
all_by_took P (x ∷ xs) h = (h x xs here, all_by_took P xs (λ y rest t. h y (x ∷ rest) (there t)))

not_true : (b : Bool) → (b ≡ true → ⊥) → b ≡ false
not_true true h = absurd (h refl)
not_true false h = refl

key_is : (key : Key) (o : Option Key) → is_key key o ≡ true → o ≡ Some key
key_is key None e = cc
key_is key (Some k) e = ap (λ x. Some x) (sym (key_same key k e))

end_same : (q : Name) (m l : Message) → m.sender ≡ l.sender → m.addressee ≡ l.addressee → other_end q m ≡ other_end q l
end_same q m l e f = ap (λ s. if s == q.home then m.addressee else s) e ∙ ap (λ a. if l.sender == q.home then a else l.sender) f

pub alone_in : (nodes : ℕ → Node) (tables : Tables) (arrays : Name → List ℕ) (us : List Under) → AllMailFits tables (messages_of us)
    → ((q : Name) (h : Home) → tables q ≡ Some h → IsCoherent q.home (sight q h nodes (messages_of us) (arrays q))) → Alone us
alone_in nodes tables arrays us fair coherent u others t key e =
    all_by_took (λ v. is_at u.message.addressee key v ≡ false) others (λ v rest s. not_true (is_at u.message.addressee key v) (λ w. both v rest s w))
  where
    parts : MailFits tables u.message × AllMailFits tables (messages_of others)
    parts = all_took (MailFits tables) (took_message t) fair

    one : KeyFacts tables u.message key
    one = key_facts tables u.message key u.message.kind refl e parts.0

    n : ℕ
    n = other_end key.name u.message

    both : (v : Under) (rest : List Under) → Took v others rest → is_at u.message.addressee key v ≡ true → ⊥
    both v rest s w =
        let h = and_parts (v.message.addressee == u.message.addressee) (is_key key (key_of v.message)) w in
        let two = key_facts tables v.message key v.message.kind refl (key_is key (key_of v.message) h.1) (all_took (MailFits tables) (took_message s) parts.1).0 in
        let same : other_end key.name v.message ≡ n = end_same key.name v.message u.message (sym two.sender ∙ one.sender) (eqb-true v.message.addressee u.message.addressee h.0) in
        clash key.name.home (sight key.name one.there.0 nodes (messages_of us) (arrays key.name)) n key.version key.load one.mail two.mail
        (find_all (flying key.name) (messages_of others)) (find_all (flying key.name) (messages_of rest)) (coherent key.name one.there.0 one.there.1) one.other one.load two.load
        (took_some (flying key.name) (took_message t) (flies n one.mail) one.is)
        (subst (λ j. Took (flies j two.mail) (find_all (flying key.name) (messages_of others)) (find_all (flying key.name) (messages_of rest))) same
        (took_some (flying key.name) (took_message s) (flies (other_end key.name v.message) two.mail) two.is))

-- Its size is known where it comes.
shared_size : (bytes : List ℕ) (size : ℕ) (o : Option Remote) → grant_fits (Shared bytes) (side size o) ≡ true → remote_size o ≡ Some (length bytes)
shared_size bytes size None e = cc
shared_size bytes size (Some r) e = let h = and_parts (asks_to_read r.asking) (length bytes == r.size) e in ap (λ x. Some x) (sym (eqb-true (length bytes) r.size h.1))

exclusive_size : (bytes : List ℕ) (size : ℕ) (o : Option Remote) → grant_fits (Exclusive bytes) (side size o) ≡ true → remote_size o ≡ Some (length bytes)
exclusive_size bytes size None e = cc
exclusive_size bytes size (Some r) e = let h = and_parts (asks_to_write r.asking) (length bytes == r.size) e in ap (λ x. Some x) (sym (eqb-true (length bytes) r.size h.1))

home_sized : (o : Option Home) (g : Home) (len : ℕ) → o ≡ Some g → len ≡ g.size → home_size o ≡ Some len
home_sized o g len e f = ap home_size e ∙ ap (λ x. Some x) (sym f)

return_sized : (from version : ℕ) (bytes : List ℕ) (g : Home) → return_fits from version (Some bytes) g ≡ true → length bytes ≡ g.size
return_sized from version bytes g e = eqb-true (length bytes) g.size (and_parts (is_listed version (at from g.listed)) (bytes_fit (Some bytes) (at from g.listed) g.size) e).1

pub size_known : (i : ℕ) (tables : Tables) (n : Node) (from : ℕ) (key : Key) (x : Kind) → key_in from x ≡ Some key → FitsTables tables from i x → Passes from x n
    → ((name : Name) (h : Home) → tables name ≡ Some h → name.home ≡ i → home_of n name ≡ Some h) → size_for key.load key.name n ≡ Some (length (load_of x))
size_known i tables n from key (kind.Grant name version (Shared bytes)) k f p home =
    let same : record { sender = from; name = name; load = OfGrant; version = version } ≡ key = cc in
    subst (λ (y : Key). size_for y.load y.name n ≡ Some (length bytes)) same (shared_size bytes p.0 (n.remotes name) p.1)
size_known i tables n from key (kind.Grant name version (Exclusive bytes)) k f p home =
    let same : record { sender = from; name = name; load = OfGrant; version = version } ≡ key = cc in
    subst (λ (y : Key). size_for y.load y.name n ≡ Some (length bytes)) same (exclusive_size bytes p.0 (n.remotes name) p.1)
size_known i tables n from key (kind.Return name version (Some bytes)) k f p home =
    let same : record { sender = from; name = name; load = OfReturn; version = version } ≡ key = cc in
    let there = home name f.2.0 f.2.1 f.0 in
    subst (λ (y : Key). size_for y.load y.name n ≡ Some (length bytes)) same (home_sized (home_of n name) f.2.0 (length bytes) there (return_sized from version bytes f.2.0 (p f.2.0 there).0))
size_known i tables n from key (kind.Release name version bytes) k f p home =
    let same : record { sender = from; name = name; load = OfRelease; version = version } ≡ key = cc in
    let there = home name f.2.0 f.2.1 f.0 in
    subst (λ (y : Key). size_for y.load y.name n ≡ Some (length bytes)) same (home_sized (home_of n name) f.2.0 (length bytes) there (eqb-true (length bytes) f.2.0.size (p f.2.0 there).0))
size_known i tables n from key (kind.Grant name version Upgrade) k f p home = cc
size_known i tables n from key (kind.Return name version None) k f p home = cc
size_known i tables n from key (kind.InfoAsk name) k f p home = cc
size_known i tables n from key (kind.InfoIs name t) k f p home = cc
size_known i tables n from key (kind.Ask name write have) k f p home = cc
size_known i tables n from key (kind.Recall name version) k f p home = cc
size_known i tables n from key (kind.Yield name version) k f p home = cc
size_known i tables n from key (kind.DeleteAsk name) k f p home = cc
size_known i tables n from key (kind.DeleteIs name t) k f p home = cc
size_known i tables n from key (kind.Purge name) k f p home = cc
size_known i tables n from key (kind.Purged name) k f p home = cc
size_known i tables n from key (kind.Come round p0) k f p home = cc
size_known i tables n from key (kind.Result round fold) k f p home = cc

-- What holds of all nodes after each event of a run, and what it says of a message that comes.
use Rattle.std.proofs.Common.{◌≡◌, ◌≢◌, ◌⊎◌, inl, inr, ℕ, suc, ◌+◌, ◌-◌, ◌==◌, Bool, true, false, ◌||◌, None, Some, Option, List, [], ◌∷◌, ◌++◌, refl, ap, sym, ◌∙◌, subst, arith}
use Rattle.std.proofs.lemmas.Bool.{cond-true, cond-false, eqb-true, eqb-false, eq-eqb, ne_eqb}
use Rattle.crl_model.specs.declared.name.Name.{Name}
use Rattle.crl_model.specs.declared.directory.Section.{Section}
use Rattle.crl_model.specs.declared.directory.Section.TheVariants as section
use Rattle.crl_model.specs.declared.directory.Asked.{Asked}
use Rattle.crl_model.specs.declared.message.Message.{Message}
use Rattle.crl_model.specs.declared.message.Kind.{Kind}
use Rattle.crl_model.specs.declared.message.Kind.TheVariants as kind
use Rattle.crl_protocol.specs.Places.{at, find_all, Took}
use Rattle.crl_protocol.specs.Mail.{Mail, Ask, Grant, Return, Release, kind_about}
use Rattle.crl_protocol.specs.Home.{Home, home_takes_ask, home_takes_return, home_takes_release, return_fits, release_fits}
use Rattle.crl_protocol.specs.Remote.{Copy, Remote, grant_fits}
use Rattle.crl_protocol.specs.Sections.{section_at}
use Rattle.crl_protocol.specs.Node.{Node, Activity, Waiting, ForSection, at_serial, home_of, is_mine, lifetime_of}
use Rattle.crl_protocol.specs.Handlers.{is_queued, is_queued_in}
use Rattle.crl_protocol.specs.World.{World}
use Rattle.crl_protocol.specs.Parcels.{Piece, PartsGathered}
use Rattle.crl_flight.specs.Flight.{Under, messages_of}
use Rattle.crl_coherence.specs.Region.{Flying, Region, flies}
use Rattle.crl_coherence.specs.Pairs.{Given, AskPlace, SectionFits, pair_of, of_node, asked_in}
use Rattle.crl_coherence.specs.Coherent.{IsCoherent}
use Rattle.crl_coherence.proofs.Laws.{took_some, took_nothing}
use Rattle.crl_coherence.proofs.Laws.{fits_grant, fits_return, fits_release, fits_ask, queued_none}
use Rattle.crl_coherence.proofs.Laws.{grant_opens, asked_quiet}
use Rattle.crl_coherence.proofs.Laws.{return_opens, release_opens}
use Rattle.crl_regions.specs.MailFits.{HasSize, FitsTables, MailFits, AllMailFits}
use Rattle.crl_regions.specs.View.{UnderWay, mail_in, flown, flying, side, sight, table_of, tables_of}
use Rattle.crl_regions.proofs.Acts.{expected, about_here, home_is}
use Rattle.crl_regions.proofs.Sections.{Local}
use Rattle.crl_regions.proofs.MappedOrCached.{IsMappedOrCached}
use Rattle.crl_regions.proofs.Addressed.{Addressed}
use Rattle.crl_regions.proofs.Asking.{WaitsAsking}
use Rattle.crl_regions.proofs.Sizes.{SizesFit, OwnTables}
use Rattle.crl_regions.proofs.Messages.{Passes}
use Rattle.crl_deeds.specs.NodeFacts.{AskingFits, Fits, Seen, seen, OwnFits, LiveFits}
use Rattle.crl_deeds.specs.Counts.{SectionsFit}

-- us is what is under way, and the arrays are the bytes of each region in the single machine.
pub record AllNodesHold (w : World) (arrays : Name → List ℕ) (us : List Under) : Type 0 where
  pub fits : (i : ℕ) → Fits i (w.nodes i)
  pub agrees : (i : ℕ) (q : Name) → expected (home_of (w.nodes i) q) ((w.nodes i).remotes q) ≡ section_at q (w.nodes i).sections
  pub sections : (i : ℕ) → SectionsFit (w.nodes i)
  pub cached : (i : ℕ) → IsMappedOrCached (w.nodes i)
  pub addressed : Addressed w
  pub asks : (i : ℕ) → WaitsAsking (w.nodes i)
  pub sizes : (i : ℕ) (q : Name) (r : Remote) → (w.nodes i).remotes q ≡ Some r → HasSize r.size (table_of q w)
  pub named_sizes : (i : ℕ) → SizesFit (tables_of w) (w.nodes i)
  pub mail : AllMailFits (tables_of w) (messages_of us)
  pub flies : UnderWay w us
  pub coherent : (q : Name) (h : Home) → table_of q w ≡ Some h → IsCoherent q.home (sight q h w.nodes (messages_of us) (arrays q))

pub local : (w : World) (arrays : Name → List ℕ) (us : List Under) (i : ℕ) → AllNodesHold w arrays us → Local i (w.nodes i)
local w arrays us i k = record {
  fits = k.fits i;
  agrees = k.agrees i;
  reads = (k.sections i).each;
  cached = (k.cached i).cached;
  held = (k.cached i).held;
}

-- a table at a node is the region's
pub table_at : (w : World) (arrays : Name → List ℕ) (us : List Under) (i : ℕ) (name : Name) (h : Home) → AllNodesHold w arrays us → home_of (w.nodes i) name ≡ Some h → (i ≡ name.home) × (table_of name w ≡ Some h)
table_at w arrays us i name h k e =
    let same : i ≡ name.home = sym (k.fits i).me ∙ eqb-true (w.nodes i).me name.home (home_is (w.nodes i) name h e) in (same, subst (λ j. home_of (w.nodes j) name ≡ Some h) same e)

own_live : (b : Bool) (v : Seen) → OwnFits b v → LiveFits v.stage v.home
own_live true v own = own.live
own_live false v own = subst (λ s. LiveFits s v.home) (sym own.unknown) tt

pub live_at : (w : World) (arrays : Name → List ℕ) (us : List Under) (i : ℕ) → AllNodesHold w arrays us → (name : Name) → LiveFits (lifetime_of (w.nodes i) name).stage (home_of (w.nodes i) name)
live_at w arrays us i k name = own_live (is_mine (w.nodes i) name) (seen (w.nodes i) name) ((k.fits i).each name).own

pub own_tables : (w : World) (arrays : Name → List ℕ) (us : List Under) (i : ℕ) → AllNodesHold w arrays us → OwnTables (tables_of w) (w.nodes i)
own_tables w arrays us i k = record { there = λ name h e. (table_at w arrays us i name h k e).1; live = live_at w arrays us i k }

-- Mail under way is under way in the region.
pub to_home_took : (name : Name) (m : Message) (mail : Mail) (messages rest : List Message) → m.kind ≡ kind_about name mail → (m.sender == name.home) ≡ false → Took m messages rest
    → Took (flies m.sender mail) (find_all (flying name) messages) (find_all (flying name) rest)
to_home_took name m mail messages rest e other t =
    took_some (flying name) t (flies m.sender mail) (ap (λ k. flown k (mail_in name m.kind)) (cond-false (m.sender == name.home) m.addressee m.sender other) ∙ ap (λ o. flown m.sender o) (ap (λ k. mail_in name k) e ∙ about_here name mail))

pub from_home_took : (name : Name) (m : Message) (mail : Mail) (messages rest : List Message) → m.kind ≡ kind_about name mail → m.sender ≡ name.home → Took m messages rest
    → Took (flies m.addressee mail) (find_all (flying name) messages) (find_all (flying name) rest)
from_home_took name m mail messages rest e home t =
    took_some (flying name) t (flies m.addressee mail)
    (ap (λ k. flown k (mail_in name m.kind)) (cond-true (m.sender == name.home) m.addressee m.sender (eq-eqb m.sender name.home home)) ∙ ap (λ o. flown m.addressee o) (ap (λ k. mail_in name k) e ∙ about_here name mail))

-- A node whose ask is queued or under way waits for the section of that region.
idle_place : (o : Option Bool) (p : List Asked) (gs : List Given) → AskPlace o p gs → o ≡ None → p ≡ []
idle_place None [] [] a e = refl
idle_place None [] (g ∷ gs) a e = absurd a
idle_place None (x ∷ p) gs a e = absurd a
idle_place (Some w) p gs a e = cc

pub left_none : {A : Type 0} (xs ys : List A) → xs ++ ys ≡ [] → (xs ≡ []) × (ys ≡ [])
left_none [] ys e = (refl, e)
left_none (x ∷ xs) ys e = cc

side_asks : (size : ℕ) (o : Option Remote) (q : Name) (a : Activity) → AskingFits q o a → ((side size o).asking ≡ None) ⊎ (a ≡ Waiting (ForSection q))
side_asks size None q a f = inl refl
side_asks size (Some r) q a f = f

asks_or_waits : (w : World) (arrays : Name → List ℕ) (us : List Under) (q : Name) (h : Home) (n : ℕ) → AllNodesHold w arrays us → table_of q w ≡ Some h → n ≢ q.home
    → let p = pair_of h.listed h.queue (λ j. side h.size ((w.nodes j).remotes q)) (find_all (flying q) (messages_of us)) n in (p.pending ≡ []) ⊎ ((w.nodes n).activity ≡ Waiting (ForSection q))
asks_or_waits w arrays us q h n k there other =
    let p = pair_of h.listed h.queue (λ j. side h.size ((w.nodes j).remotes q)) (find_all (flying q) (messages_of us)) n in
    elim (side_asks h.size ((w.nodes n).remotes q) q (w.nodes n).activity ((k.fits n).each q).asking) [
      | inl none ↦ inl (idle_place p.remote.asking p.pending p.grants ((k.coherent q h there).loose.pairs n other).ask none)
      | inr waits ↦ inr waits
    ]

-- at most one ask of a node is queued at a home
queued_in : (n : ℕ) (homes : List (Option Home)) → ((s : ℕ) (h : Home) → at s homes ≡ Some h → is_queued n h.queue ≡ false) → is_queued_in n homes ≡ false
queued_in n [] f = refl
queued_in n (None ∷ homes) f = queued_in n homes (λ s h e. f (suc s) h e)
queued_in n (Some h ∷ homes) f = let first = f 0 h refl in let others = queued_in n homes (λ s g e. f (suc s) g e) in ap (λ b. b || is_queued_in n homes) first ∙ others

serial_at : {A : Type 0} (s : ℕ) (xs : List (Option A)) → at_serial (s + 1) xs ≡ at s xs
serial_at s xs =
    let e : s + 1 - 1 ≡ s = omega arith in cond-false (s + 1 == 0) None (at (s + 1 - 1) xs) (ne_eqb (s + 1) 0 (λ w. omega arith)) ∙ ap (λ m. at m xs) e

pub none_queued : (w : World) (arrays : Name → List ℕ) (us : List Under) (i : ℕ) (name : Name) (h : Home) (n : ℕ) (write : Bool) (have : ℕ) (rest : List Flying) → AllNodesHold w arrays us → table_of name w ≡ Some h → name.home ≡ i → n ≢ name.home
    → Took (flies n (Ask write have)) (find_all (flying name) (messages_of us)) rest → is_queued_in n (w.nodes i).homes ≡ false
none_queued w arrays us i name h n write have rest k there at_i other took = queued_in n (w.nodes i).homes each
  where
    waits : (w.nodes n).activity ≡ Waiting (ForSection name)
    waits = elim (asks_or_waits w arrays us name h n k there other) [
      | inl none ↦ absurd (took_nothing (took_some (of_node n (asked_in n)) took (record { node = n; write = write; have = have }) (grind arith)) (left_none _ _ none).1)
      | inr a ↦ a
    ]

    each : (s : ℕ) (g : Home) → at s (w.nodes i).homes ≡ Some g → is_queued n g.queue ≡ false
    each s g e = elim (asks_or_waits w arrays us q g n k at_q (λ x. other (x ∙ sym at_i))) [
      | inl none ↦ queued_none n g.queue (left_none _ _ none).0
      | inr a ↦ (let same : name ≡ q = (let both : Waiting (ForSection name) ≡ Waiting (ForSection q) = sym waits ∙ a in cc) in
          let table : h ≡ g = (let both : Some h ≡ Some g = sym there ∙ subst (λ x. table_of x w ≡ Some g) (sym same) at_q in cc) in
          subst (λ (x : Home). is_queued n x.queue ≡ false) table (fits_ask name.home (sight name h w.nodes (messages_of us) (arrays name)) n write have rest (k.coherent name h there) other took))
    ]
      where
        q : Name
        q = record { home = i; serial = s + 1 }

        at_q : table_of q w ≡ Some g
        at_q = cond-true (i == (w.nodes i).me) _ _ (eq-eqb i (w.nodes i).me (sym (k.fits i).me)) ∙ serial_at s (w.nodes i).homes ∙ e

-- A message that is taken out of the inbox passes the tests.
section_idle : (s : Section) (c : Option Copy) (w : Bool) → SectionFits s c (Some w) → s ≡ section.Closed
section_idle section.Closed c w f = refl
section_idle (section.Reading count) None w f = absurd f
section_idle (section.Reading count) (Some c) w f = absurd f
section_idle section.Writing None w f = absurd f
section_idle section.Writing (Some c) w f = absurd f

pub passes : (w : World) (arrays : Name → List ℕ) (us : List Under) (i : ℕ) (m : Message) (inbox : List Piece) (parcels : PartsGathered) (rest : List Message) → AllNodesHold w arrays us → m.addressee ≡ i → MailFits (tables_of w) m
    → Took m (messages_of us) rest → Passes m.sender m.kind (record (w.nodes i) { inbox = inbox; parcels = parcels })
passes w arrays us i m inbox parcels rest k to fair took = go m.kind refl fair
  where
    n : Node
    n = record (w.nodes i) { inbox = inbox; parcels = parcels }

    region : (name : Name) → Home → Region
    region name h = sight name h w.nodes (messages_of us) (arrays name)

    table : (name : Name) (h g : Home) → table_of name w ≡ Some h → home_of n name ≡ Some g → (n.me ≡ name.home) × (h ≡ g)
    table name h g there e =
        let t = table_at w arrays us i name g k e in ((k.fits i).me ∙ t.0, (let both : Some h ≡ Some g = sym there ∙ t.1 in cc))

    go : (x : Kind) → m.kind ≡ x → FitsTables (tables_of w) m.sender m.addressee x → Passes m.sender x n
    go (kind.Ask name write have) e f =
        let h = f.2.0 in let there = f.2.1 in let other = eqb-false m.sender name.home f.1 in
        let t = to_home_took name m (Ask write have) (messages_of us) rest e f.1 took in (
          none_queued w arrays us i name h m.sender write have _ k there (f.0 ∙ to) other t,
          λ g x o. absurd (let u = table name h g there x in
              asked_quiet name.home (region name h) (record { node = m.sender; write = write; have = have }) (k.coherent name h there) other
              (subst (λ (y : Home). (home_takes_ask name.home (record { node = m.sender; write = write; have = have }) y).opened ≡ true) (sym u.1)
              (subst (λ y. (home_takes_ask y (record { node = m.sender; write = write; have = have }) g).opened ≡ true) u.0 o))),
        )
    go (kind.Return name version bytes) e f = λ g x.
        let h = f.2.0 in let there = f.2.1 in let other = eqb-false m.sender name.home f.1 in
        let t = to_home_took name m (Return version bytes) (messages_of us) rest e f.1 took in
        let u = table name h g there x in (
          subst (λ y. return_fits m.sender version bytes y ≡ true) u.1 (fits_return name.home (region name h) m.sender version bytes _ (k.coherent name h there) other t),
          λ o. subst (λ (y : Home). y.mine ≡ section.Closed) u.1
              (return_opens name.home (region name h) m.sender version bytes _ (k.coherent name h there) other t
              (subst (λ (y : Home). (home_takes_return name.home m.sender bytes y).opened ≡ true) (sym u.1) (subst (λ y. (home_takes_return y m.sender bytes g).opened ≡ true) u.0 o))).0,
        )
    go (kind.Release name version bytes) e f = λ g x.
        let h = f.2.0 in let there = f.2.1 in let other = eqb-false m.sender name.home f.1 in
        let t = to_home_took name m (Release version bytes) (messages_of us) rest e f.1 took in
        let u = table name h g there x in (
          subst (λ y. release_fits bytes y ≡ true) u.1 (fits_release name.home (region name h) m.sender version bytes _ (k.coherent name h there) other t),
          λ o. subst (λ (y : Home). y.mine ≡ section.Closed) u.1
              (release_opens name.home (region name h) m.sender version bytes _ (k.coherent name h there) other t
              (subst (λ (y : Home). (home_takes_release name.home m.sender version bytes y).opened ≡ true) (sym u.1) (subst (λ y. (home_takes_release y m.sender version bytes g).opened ≡ true) u.0 o))).0,
        )
    go (kind.Grant name version what) e f =
        let h = f.2.0 in let there = f.2.1 in
        let other = eqb-false m.addressee name.home f.1 in
        let t = from_home_took name m (Grant version what) (messages_of us) rest e f.0 took in
        let fits = fits_grant name.home (region name h) m.addressee version what _ (k.coherent name h there) other t in
        let asks = grant_opens name.home (region name h) m.addressee version what _ (k.coherent name h there) other t in
        let kept = ((k.coherent name h there).loose.pairs m.addressee other).section in
        let closed : (side h.size ((w.nodes m.addressee).remotes name)).here ≡ section.Closed =
        section_idle (side h.size ((w.nodes m.addressee).remotes name)).here (side h.size ((w.nodes m.addressee).remotes name)).copy asks.0
        (subst (λ o. SectionFits (side h.size ((w.nodes m.addressee).remotes name)).here (side h.size ((w.nodes m.addressee).remotes name)).copy o) asks.1 kept) in
        (h.size, subst (λ j. grant_fits what (side h.size ((w.nodes j).remotes name)) ≡ true) to fits, subst (λ j. (side h.size ((w.nodes j).remotes name)).here ≡ section.Closed) to closed)
    go (kind.InfoAsk name) e f = tt
    go (kind.InfoIs name t) e f = tt
    go (kind.Recall name version) e f = tt
    go (kind.Yield name version) e f = tt
    go (kind.DeleteAsk name) e f = tt
    go (kind.DeleteIs name t) e f = tt
    go (kind.Purge name) e f = tt
    go (kind.Purged name) e f = tt
    go (kind.Come round part) e f = tt
    go (kind.Result round fold) e f = tt

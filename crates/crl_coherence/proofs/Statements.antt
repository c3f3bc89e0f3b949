-- What is known of a coherent region, from the lemmas.
use Rattle.std.proofs.Common.{◌≡◌, Bool, true, false, refl, length, ◌∙◌, inr, ℕ}
use Rattle.crl_protocol.specs.Home.{home_takes_ask}
use Rattle.crl_coherence.proofs.Opens.{call_opens, grant_opens, home_opens, asked_quiet, grant_shown}
use Rattle.crl_coherence.proofs.Keeps.{return_opens, release_opens}
use Rattle.crl_coherence.proofs.Fits.{fits_grant, fits_return, fits_release, fits_ask}
use Rattle.crl_coherence.proofs.Waits.{waits_other, waits_home}
use Rattle.crl_coherence.specs.Directory.{between}
use Rattle.crl_coherence.proofs.Regions.{kept, own_ask, kept_listed, older_unlisted, different, released, unlisted_writing, shared_reading, unserved, called, for_head, head_plain, head_returns, released_array}
use Rattle.crl_coherence.proofs.Stands.{ask_stands, ask_rests, ask_closed, version_stands, nothing_stands, open_copy, plain_uncalled, recall_stands, yield_stands, listed_called, unlisted_called, leaving_listed, lowering_listed, given_listed, named_stands, unnamed_stands, grant_bytes, copy_bytes, return_bytes, sized}
use Rattle.crl_coherence.proofs.Facts.{listed_version}
use Rattle.crl_coherence.specs.Region.{Region}
use Rattle.crl_coherence.specs.Coherent.{IsCoherent}
use Rattle.crl_coherence.specs.Facts.{OpensRightly, ShowsTheArray, CopiesStandOnce, MessagesFit, WhoWaitsIsBlocked, AsksStandOnce, VersionsStandOnce, ExclusiveIsAlone, MarksHaveTheirMessage, HeadsWait, BytesAreTheArray}

never : (b : Bool) → (b ≡ true → ⊥) → b ≡ false
never true h = absurd (h refl)
never false h = refl

pub opens_rightly : (me : ℕ) (g : Region) → IsCoherent me g → OpensRightly me g
opens_rightly me g k = record {
  by_call = λ n write other may idle o. (call_opens me g n write k other may idle o).0;
  by_grant = λ n version granted rest. grant_opens me g n version granted rest k;
  at_home = λ write may idle o. (home_opens me g write k o).0;
  by_ask = λ ask other. never (home_takes_ask me ask g.home).opened (asked_quiet me g ask k other);
  by_return = λ n version bytes rest other took o. let u = return_opens me g n version bytes rest k other took o in (u.0, u.1);
  by_release = λ n version bytes rest other took o. let u = release_opens me g n version bytes rest k other took o in (u.0, u.1);
}

pub shows_the_array : (me : ℕ) (g : Region) → IsCoherent me g → ShowsTheArray me g
shows_the_array me g k = record {
  by_call = λ n write other may idle o. (call_opens me g n write k other may idle o).1;
  by_grant = λ n version granted rest. grant_shown me g n version granted rest k;
  at_home = λ write may idle o. (home_opens me g write k o).1;
  by_return = λ n version bytes rest other took o. (return_opens me g n version bytes rest k other took o).2;
  by_release = λ n version bytes rest other took o. (release_opens me g n version bytes rest k other took o).2;
}

pub copies_once : (me : ℕ) (g : Region) → IsCoherent me g → CopiesStandOnce me g
copies_once me g k = record {
  alone = λ n m l j e x f. k.loose.alone n m l j e x f;
  places = λ n other. (k.loose.pairs n other).places;
}

pub messages_are_fit : (me : ℕ) (g : Region) → IsCoherent me g → MessagesFit me g
messages_are_fit me g k = record {
  grants = λ n version granted rest. fits_grant me g n version granted rest k;
  returns = λ n version bytes rest. fits_return me g n version bytes rest k;
  releases = λ n version bytes rest. fits_release me g n version bytes rest k;
  asks = λ n write have rest. fits_ask me g n write have rest k;
}

pub waiting_is_blocked : (me : ℕ) (g : Region) → IsCoherent me g → WhoWaitsIsBlocked me g
waiting_is_blocked me g k = record {
  head = k.head;
  other = λ n. waits_other me g n k;
  home = waits_home me g k;
}

pub asks_once : (me : ℕ) (g : Region) → IsCoherent me g → AsksStandOnce me g
asks_once me g k = record {
  waits = λ n write other e. ask_stands g.home.last g.array (between g n) write e (kept me g k n other);
  rests = λ n other e. ask_rests g.home.last g.array (between g n) e (kept me g k n other);
  closed = λ n other e. ask_closed g.home.last g.array (between g n) e (kept me g k n other);
  home = λ e. own_ask me g k e;
}

pub versions_once : (me : ℕ) (g : Region) → IsCoherent me g → VersionsStandOnce me g
versions_once me g k = record {
  listed = λ n l e. version_stands g.home.last g.array (between g n) l e (kept_listed me g k n l e);
  unlisted = λ n other e. nothing_stands g.home.last g.array (between g n) e (kept me g k n other);
  home = k.loose.own;
  older = λ n m grant copy l other e f listed. older_unlisted me g k n m grant copy l other e f listed;
  bounds = λ n l e. listed_version g.home.last g.array (between g n) l e (kept_listed me g k n l e);
  different = λ n m l j e f v. different me g k n m l j e f v;
  sections = λ n other e. open_copy g.home.last g.array (between g n) e (kept me g k n other);
  releases = λ n other. (kept me g k n other).distinct;
  one_sender = λ n m version other more i j. k.loose.distinct version n m other more (inr i) (inr j);
  released = λ n m l other e i. released me g k n m l other e i;
}

pub exclusive_alone : (me : ℕ) (g : Region) → IsCoherent me g → ExclusiveIsAlone me g
exclusive_alone me g k = record {
  alone = λ n m l j e x f. k.loose.alone n m l j e x f;
  writing = λ n w. unlisted_writing me g k n w;
  reading = λ n count l r e. shared_reading me g k n count l r e;
}

pub marks_have_message : (me : ℕ) (g : Region) → IsCoherent me g → MarksHaveTheirMessage me g
marks_have_message me g k = record {
  plain = λ n l e p. plain_uncalled g.home.last g.array (between g n) l e p (kept_listed me g k n l e);
  recalled = λ n l e r. recall_stands g.home.last g.array (between g n) l e r (kept_listed me g k n l e);
  yielding = λ n l e r. yield_stands g.home.last g.array (between g n) l e r (kept_listed me g k n l e);
  listed_bound = λ n version l e i. listed_called g.home.last version g.array (between g n) l e i (kept_listed me g k n l e);
  unlisted_bound = λ n version other e i. unlisted_called g.home.last version g.array (between g n) e i (kept me g k n other);
  rests = λ n other e. (kept me g k n other).idle e;
  leaving = λ n other e. leaving_listed g.home.last g.array (between g n) e (kept me g k n other);
  lowering = λ n other e. lowering_listed g.home.last g.array (between g n) e (kept me g k n other);
  given = λ n copy l e f i v. given_listed g.home.last g.array (between g n) copy l e f i v (kept_listed me g k n l i);
}

pub head_waits : (me : ℕ) (g : Region) → IsCoherent me g → HeadsWait me g
head_waits me g k = record {
  unserved = λ a q e. unserved me g k a q e;
  called = λ a q n l e f b other. called me g k a q n l e f b other;
  marked = λ n l e r. for_head me g k n l e r;
  named = λ n a other i least. named_stands g.home.last g.array (between g n) a i least (kept me g k n other);
  unnamed = λ n a other i none. unnamed_stands g.home.last g.array (between g n) a i none (kept me g k n other);
  returned = λ a q l e f b. head_returns me g k a q l e f b;
  kept = λ a q l e f. head_plain me g k a q l e f;
}

pub bytes_of_array : (me : ℕ) (g : Region) → IsCoherent me g → BytesAreTheArray me g
bytes_of_array me g k = record {
  home = λ shared. k.loose.bytes shared;
  grants = λ n grant other i. grant_bytes g.home.last g.array (between g n) grant i (kept me g k n other);
  copies = λ n copy other e. copy_bytes g.home.last g.array (between g n) copy e (kept me g k n other);
  returns = λ n back bytes other i e. return_bytes g.home.last g.array bytes (between g n) back i e (kept me g k n other);
  releases = λ n m l freed other e i v. released_array me g k n m l freed other e i v;
  sizes = λ n freed other i. sized (length g.array) (between g n).releases freed i (kept me g k n other).sized ∙ k.loose.size;
}

-- While a section of the region is open to write, no other node has one open.
use Rattle.std.proofs.Common.{◌≡◌, ◌≢◌, ℕ, ◌==◌, Bool, true, false, if◌then◌else◌, refl, sym, ◌∙◌}
use Rattle.std.proofs.lemmas.Bool.{eqb-true, eqb-false}
use Rattle.crl_model.specs.declared.directory.Section.TheVariants.{Closed, Writing}
use Rattle.crl_coherence.specs.Region.{Region}
use Rattle.crl_coherence.specs.Coherent.{IsCoherent, node_section}
use Rattle.crl_coherence.proofs.Facts.{section_closed}
use Rattle.crl_coherence.proofs.Opens.{reader_at, writer_at, reader_is, own_shut}
use Rattle.crl_coherence.proofs.Regions.{unlisted_writing}

beside_home : (me : ℕ) (g : Region) (m : ℕ) → IsCoherent me g → m ≢ me → g.home.mine ≡ Writing → (g.remotes m).here ≡ Closed
beside_home me g m k other writes =
    section_closed (g.remotes m).here (λ is_open. let l = reader_at me g.array g.home g.home.queue g.remotes g.flight k.loose m other is_open in let none = unlisted_writing me g k m writes in let there = l.1 in cc)

beside_side : (me : ℕ) (g : Region) (n m : ℕ) → IsCoherent me g → n ≢ me → m ≢ me → n ≢ m → (g.remotes n).here ≡ Writing → (g.remotes m).here ≡ Closed
beside_side me g n m k other there apart writes =
    let l = writer_at me g.array g.home g.home.queue g.remotes g.flight k.loose n other writes in
    section_closed (g.remotes m).here (λ is_open. apart (reader_is me g.array g.home g.home.queue g.remotes g.flight k.loose n m l.0 l.1 l.2 there is_open))

home_beside : (me : ℕ) (g : Region) (n : ℕ) → IsCoherent me g → n ≢ me → (g.remotes n).here ≡ Writing → g.home.mine ≡ Closed
home_beside me g n k other writes =
    let l = writer_at me g.array g.home g.home.queue g.remotes g.flight k.loose n other writes in own_shut me g.array g.home g.home.queue g.remotes g.flight k.loose n l.0 l.1 l.2

pub writer_alone : (me : ℕ) (g : Region) (n m : ℕ) → IsCoherent me g → n ≢ m → node_section me g n ≡ Writing → node_section me g m ≡ Closed
writer_alone me g n m k apart = go (n == me) (m == me) refl refl
  where
    go : (b c : Bool) → (n == me) ≡ b → (m == me) ≡ c → (if b then g.home.mine else (g.remotes n).here) ≡ Writing → (if c then g.home.mine else (g.remotes m).here) ≡ Closed
    go true true e f = absurd (apart (eqb-true n me e ∙ sym (eqb-true m me f)))
    go true false e f = beside_home me g m k (eqb-false m me f)
    go false true e f = home_beside me g n k (eqb-false n me e)
    go false false e f = beside_side me g n m k (eqb-false n me e) (eqb-false m me f) apart

-- Where a section is open, the bytes at its node's table or side are the array's.
use Rattle.std.proofs.Common.{◌≡◌, ◌≢◌, ℕ, ◌==◌, Bool, true, false, if◌then◌else◌, refl, ap, ◌∙◌}
use Rattle.std.proofs.lemmas.Bool.{eqb-false}
use Rattle.crl_model.specs.declared.directory.Section.{Section}
use Rattle.crl_model.specs.declared.directory.Section.TheVariants as section
use Rattle.crl_protocol.specs.Sectioning.{copy_bytes}
use Rattle.crl_coherence.specs.Region.{Region}
use Rattle.crl_coherence.specs.Coherent.{IsCoherent, MineFits, node_section, bytes_at_node}
use Rattle.crl_coherence.specs.Directory.{between}
use Rattle.crl_coherence.proofs.Stands as stands

mine_shared : (s : Section) (x : Bool) → s ≢ section.Closed → MineFits s x → x ≡ false
mine_shared section.Closed x n f = absurd (n refl)
mine_shared (section.Reading k) x n f = f
mine_shared section.Writing x n f = absurd f

at_home : (me : ℕ) (g : Region) → IsCoherent me g → g.home.mine ≢ section.Closed → g.home.bytes ≡ g.array
at_home me g k n = k.loose.bytes (λ m l e. mine_shared g.home.mine l.exclusive n (k.loose.mine m l e))

at_side : (me : ℕ) (g : Region) (n : ℕ) → IsCoherent me g → n ≢ me → (g.remotes n).here ≢ section.Closed → copy_bytes (g.remotes n).copy ≡ g.array
at_side me g n k other opened =
    let c = stands.open_copy g.home.last g.array (between g n) opened (k.loose.pairs n other) in
    ap copy_bytes c.1 ∙ stands.copy_bytes g.home.last g.array (between g n) c.0 c.1 (k.loose.pairs n other)

pub open_bytes : (me : ℕ) (g : Region) (n : ℕ) → IsCoherent me g → node_section me g n ≢ section.Closed → bytes_at_node me g n ≡ g.array
open_bytes me g n k = go (n == me) refl
  where
    go : (b : Bool) → (n == me) ≡ b → ◌≢◌ {A = Section} (if b then g.home.mine else (g.remotes n).here) section.Closed → (if b then g.home.bytes else copy_bytes (g.remotes n).copy) ≡ g.array
    go true e opened = at_home me g k opened
    go false e opened = at_side me g n k (eqb-false n me e) opened

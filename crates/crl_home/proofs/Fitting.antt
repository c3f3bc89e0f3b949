-- What is true of a home's table stays so.
use Rattle.std.proofs.Common.{◌≡◌, ℕ, suc, List, ◌∷◌, arith, length}
use Rattle.std.specs.declared.option.Option.{Option}
use Rattle.crl_model.specs.declared.directory.Listing.{Listing}
use Rattle.crl_home.specs.declared.waiting.Waiting.{Waiting}
use Rattle.crl_home.specs.Fits.{IsFit}

-- the head is taken off, and there are as many places for copies as before
pub fit_after : {size : ℕ} {bytes : List ℕ} {listed listed2 : List (Option Listing)} {queue : List Waiting} (w : Waiting) {rest : List Waiting} → length listed2 ≡ length listed → queue ≡ w ∷ rest → IsFit size bytes listed queue → IsFit size bytes listed2 rest
fit_after w l e f =
    let g = rw e at f in
    record {
      few = rw l g.few;
      sized = g.sized;
      nodes = λ k d h. rw l (g.nodes (suc k) d (omega arith));
      sheets = λ k d h. g.sheets (suc k) d (omega arith);
    }

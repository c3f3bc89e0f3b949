-- What is true of a home's table: there are few nodes, each ask is one of theirs and has paper for the
-- pieces of the region's bytes, and these are of the region's size.
use Rattle.std.specs.Prelude.{ℕ, ◌<◌, ◌≤◌, ◌≡◌, List, length, All, map}
use Rattle.std.specs.declared.option.Option.{Option}
use Rattle.crl_model.specs.declared.directory.Listing.{Listing}
use Rattle.crl_model.specs.declared.directory.Asked.{Asked}
use Rattle.crl_home.specs.declared.waiting.Waiting.{Waiting}

pub record IsFit (size : ℕ) (bytes : List ℕ) (listed : List (Option Listing)) (queue : List Waiting) : Type 0 where
  pub few : length listed ≤ 64
  pub sized : length bytes ≡ size
  pub nodes : All (λ (w : Waiting). w.asked.node < length listed) queue
  pub sheets : All (λ (w : Waiting). w.sheets ≡ size) queue

abbrev pub asks_of : List Waiting → List Asked
asks_of queue = map (λ (w : Waiting). w.asked) queue

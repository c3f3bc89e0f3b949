-- What the machine answers to an entry, and the changes that its methods make.
use Rattle.std.specs.Prelude.{◌≡◌, ℕ, Bool, true, false}
use Rattle.std.specs.Bool.{MatchBool}
use Rattle.crl_model.specs.declared.name.Name.{Name}
use Rattle.crl_model.specs.declared.entry.What.{What}
use Rattle.crl_model.specs.declared.entry.What.TheVariants.{Create, Map, Come, Deleted, Came, Refused}
use Rattle.crl_machine.specs.declared.share.Share.{Share}
use Rattle.crl_model.specs.Names.{at_pair}
use Rattle.crl_machine.specs.SingleMachine.{State, Applies, change}

-- the row applies, and what it changes is changed
pub record IsStep (old : State) (n : ℕ) (what : What) (new : State) : Type 0 where
  pub legal : Applies old n what
  pub made : new ≡ change old n what

-- the row doesn't apply, and nothing changes
pub record IsNoStep (old : State) (n : ℕ) (what : What) (new : State) : Type 0 where
  pub illegal : Applies old n what → ⊥
  pub kept : new ≡ old

abbrev pub Judges : State → ℕ → What → State → Bool → Type 0
Judges old n what new b = MatchBool b (IsStep old n what new) (IsNoStep old n what new)

-- a row of a node that waits for nothing, and no refusal
abbrev pub is_free_row : What → Bool
is_free_row (Deleted name) = false
is_free_row (Came round fold) = false
is_free_row (Refused kind place why) = false
is_free_row _ = true

-- an entry that may need memory: a create, a coming to a round, and a map of a node that hasn't the region mapped
abbrev pub NeedsMemory : State → ℕ → What → Type 0
NeedsMemory s n (Create name size) = Unit {0}
NeedsMemory s n (Come part) = Unit {0}
NeedsMemory s n (Map name size) = s.maps n name ≡ 0
NeedsMemory s n _ = ⊥

-- the node's map count and read sections of the region are these
abbrev pub with_share : State → ℕ → Name → Share → State
with_share s n name share = record s {
  maps = at_pair s.maps n name share.maps;
  reads = at_pair s.reads n name share.reads;
}

abbrev pub the_share : State → ℕ → Name → Share
the_share s n name = record { maps = s.maps n name; reads = s.reads n name }

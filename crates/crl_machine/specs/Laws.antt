-- What holds of every legal history, in words of its own.
use Rattle.std.specs.Prelude.{◌≡◌, ◌≢◌, ℕ, ◌<◌, ◌≤◌, true, List, [], ◌∷◌, if◌then◌else◌, replicate}
use Rattle.crl_model.specs.declared.name.Name.{Name}
use Rattle.crl_model.specs.declared.stage.Stage.TheVariants.{Unknown}
use Rattle.crl_model.specs.declared.entry.What.{What}
use Rattle.crl_model.specs.declared.entry.What.TheVariants.{Create, Map, Unmap, StartRead, Read, StartWrite, Write, Flush, Deleting, Deleted, Come, Came, Refused}
use Rattle.crl_model.specs.declared.entry.Entry.{Entry}
use Rattle.crl_model.specs.Names.{name_eq}
use Rattle.crl_machine.specs.SingleMachine.{State}

-- the bytes that the newest create or write section of the region left, in a history that follows these bytes
abbrev pub left_by : Name → What → List ℕ → List ℕ
left_by q (Create name size) old = if name_eq name q then replicate size 0 else old
left_by q (Write name before after) old = if name_eq name q then after else old
left_by q (Map name size) old = old
left_by q (Unmap name) old = old
left_by q (Flush name) old = old
left_by q (StartRead name) old = old
left_by q (Read name seen) old = old
left_by q (StartWrite name) old = old
left_by q (Deleting name) old = old
left_by q (Deleted name) old = old
left_by q (Come part) old = old
left_by q (Came round fold) old = old
left_by q (Refused kind place why) old = old

abbrev pub last_left : Name → List Entry → List ℕ → List ℕ
last_left q [] old = old
last_left q (e ∷ es) old = last_left q es (left_by q e.what old)

-- where a write section is open no other section is
pub record IsExclusive (s : State) : Type 0 where
  pub alone : (q : Name) (m k : ℕ) → m < s.nodes → k < s.nodes → s.writes m q ≡ true → s.writes k q ≡ true → m ≡ k
  pub unread : (q : Name) (m k : ℕ) → m < s.nodes → k < s.nodes → s.writes m q ≡ true → s.reads k q ≡ 0

-- the home of a name is a node, which has used its serial
pub record IsUsed (s : State) (q : Name) : Type 0 where
  pub home : q.home < s.nodes
  pub counted : 1 ≤ q.serial
  pub used : q.serial ≤ s.used q.home

-- each name that isn't Unknown is such a name
abbrev pub AreNamed : State → Type 0
AreNamed s = (q : Name) → s.stage q ≢ Unknown → IsUsed s q

-- A delete begins at the home.
use Rattle.std.proofs.Common.{◌≡◌, ℕ, Bool, true, false, refl, [], ◌∷◌, if◌then◌else◌}
use Rattle.std.proofs.lemmas.Bool.{eq-eqb}
use Rattle.std.specs.declared.option.Option.{Option}
use Rattle.std.specs.declared.option.Option.TheVariants.{None}
use Rattle.crl_model.specs.declared.name.Name.{Name}
use Rattle.crl_model.specs.declared.stage.Stage.{Stage}
use Rattle.crl_model.specs.declared.stage.Stage.TheVariants.{Unknown, Live, Going, Gone}
use Rattle.crl_model.specs.declared.call.Call.TheVariants as call
use Rattle.crl_model.specs.declared.call.Refusal.{Refusal}
use Rattle.crl_model.specs.Names.{at_node}
use Rattle.crl_protocol.specs.Lifetimes.{Lifetime, no_lifetime, lifetime_begins_delete, lifetime_takes_purged}
use Rattle.crl_protocol.specs.Node.{Node, Activity, Waiting, ForDelete, is_mine, lifetime_of, with_lifetime}
use Rattle.crl_protocol.specs.Calls.{is_gone, purges, delete_entries, deletes_own}
use Rattle.crl_protocol.specs.Handlers.{begins_delete}
use Rattle.crl_protocol.specs.Verdict.{verdict, by_stage}
use Rattle.crl_desk.specs.Desks.{acted}
use Rattle.crl_naming.specs.Lives.{lifetime_in_delete, lifetime_without, recorded_one, posted_these, deleting_by, deleted_by}

live_by : (b : Bool) (l : Lifetime) → (if b then l else no_lifetime).stage ≡ Live → b ≡ true
live_by true l e = refl
live_by false l e = cc

-- only a home has a live region
pub live_is_mine : (n : Node) (name : Name) → (lifetime_of n name).stage ≡ Live → is_mine n name ≡ true
live_is_mine n name e = live_by (is_mine n name) (n.lifetimes name.serial) e

-- once the delete has begun the node has the lifetime of that
pub begun_here : (n : Node) (name : Name) (deleter nodes : ℕ) (lifetimes : ℕ → Lifetime) → nodes ≡ n.nodes → is_mine n name ≡ true
    → lifetimes ≡ at_node n.lifetimes name.serial (lifetime_begins_delete nodes deleter (n.lifetimes name.serial))
    → lifetime_of (record n { lifetimes = lifetimes }) name ≡ lifetime_in_delete deleter name n
begun_here n name deleter nodes lifetimes k m e = rw (e, k, m, eq-eqb name.serial name.serial refl) refl

-- the same of the lifetime once a node parted with the region
missing_by : (b : Bool) (l : Lifetime) (from : ℕ) → (if b then l else no_lifetime).missing from ≡ true → b ≡ true
missing_by true l from e = refl
missing_by false l from e = cc

pub missing_is_mine : (n : Node) (name : Name) (from : ℕ) → (lifetime_of n name).missing from ≡ true → is_mine n name ≡ true
missing_is_mine n name from e = missing_by (is_mine n name) (n.lifetimes name.serial) from e

pub ended_here : (n : Node) (name : Name) (from nodes : ℕ) (lifetimes : ℕ → Lifetime) → nodes ≡ n.nodes → is_mine n name ≡ true
    → lifetimes ≡ at_node n.lifetimes name.serial (lifetime_takes_purged nodes from (n.lifetimes name.serial))
    → lifetime_of (record n { lifetimes = lifetimes }) name ≡ lifetime_without from name n
ended_here n name from nodes lifetimes k m e = rw (e, k, m, eq-eqb name.serial name.serial refl) refl

-- of a delete that isn't refused the home has a live region
by_live : (s : Stage) → by_stage s ≡ None → s ≡ Live
by_live Unknown e = cc
by_live Live e = refl
by_live (Going d) e = cc
by_live Gone e = cc

home_reason : (b : Bool) (o p : Option Refusal) → (if b then o else p) ≡ None → b ≡ true → o ≡ None
home_reason true o p e m = e
home_reason false o p e m = cc

pub delete_is_live : (n : Node) (name : Name) → verdict n (call.Delete name) ≡ None → is_mine n name ≡ true → (lifetime_of n name).stage ≡ Live
unfolding verdict
delete_is_live n name v m = by_live (lifetime_of n name).stage (home_reason (is_mine n name) (by_stage (lifetime_of n name).stage) _ v m)

pub gone_entries : (deleter : ℕ) (name : Name) (s : Stage) → is_gone s ≡ true → delete_entries deleter name s ≡ deleting_by deleter name ∷ deleted_by deleter name ∷ []
gone_entries deleter name Unknown e = cc
gone_entries deleter name Live e = cc
gone_entries deleter name (Going d) e = cc
gone_entries deleter name Gone e = refl

going_entries : (deleter : ℕ) (name : Name) (s : Stage) → is_gone s ≡ false → delete_entries deleter name s ≡ deleting_by deleter name ∷ []
going_entries deleter name Unknown e = refl
going_entries deleter name Live e = refl
going_entries deleter name (Going d) e = refl
going_entries deleter name Gone e = cc

-- the nodes that asked are told, and the home's own delete waits
pub own_waits : (at : ℕ) (name : Name) (l : Lifetime) (n mid told : Node) (activity : Activity) → is_gone l.stage ≡ false
    → mid ≡ with_lifetime name l n → lifetime_of mid name ≡ l
    → told ≡ posted_these (purges mid name (lifetime_of mid name)) (recorded_one at (deleting_by mid.me name) mid) → activity ≡ Waiting (ForDelete name)
    → record told { activity = activity } ≡ acted at (deletes_own name l n)
own_waits at name l n mid told activity g m h t w = rw (t, h, m, w, g, going_entries n.me name l.stage g) refl

pub asked_waits : (at from : ℕ) (name : Name) (l : Lifetime) (n mid told : Node) → is_gone l.stage ≡ false
    → mid ≡ with_lifetime name l n → lifetime_of mid name ≡ l
    → told ≡ posted_these (purges mid name (lifetime_of mid name)) (recorded_one at (deleting_by from name) mid)
    → told ≡ acted at (begins_delete from name l n)
asked_waits at from name l n mid told g m h t = rw (t, h, m, g, going_entries from name l.stage g) refl

-- Names, and what holds of a node where its activity turns from one to another.
use Rattle.std.proofs.Common.{◌≡◌, ℕ, Bool, true, false, None, Some, Option, refl, subst}
use Rattle.std.proofs.Math.Logic.{◌⊎◌, inl, inr}
use Rattle.crl_model.specs.declared.name.Name.{Name}
use Rattle.crl_model.specs.declared.stage.Stage.{Stage}
use Rattle.crl_model.specs.declared.stage.Stage.TheVariants as stage
use Rattle.crl_model.specs.Names.{name_eq}
pub use Rattle.crl_model.proofs.Laws.{same_name, name_eq_self as name_self}
use Rattle.crl_protocol.specs.Home.{Home}
use Rattle.crl_protocol.specs.Remote.{Remote}
use Rattle.crl_protocol.specs.Node.{Activity, Waiting, ForSection, ForDelete}
use Rattle.crl_deeds.specs.NodeFacts.{Seen, QueueFits, AskingFits, GoingFits, WaitFits, Holds}

pub by_test : (name q : Name) (P : Bool → Name → Type 0) (b : Bool) → name_eq name q ≡ b → P true name → (name_eq name q ≡ false → P false q) → P b q
by_test name q P true e here there = subst (λ x. P true x) (same_name name q e) here
by_test name q P false e here there = there e

pub other_name : (name q : Name) → name_eq name q ≡ false → name ≡ q → ⊥
other_name name q e s = let w = subst (λ x. name_eq name x ≡ true) s (name_self name) in cc

-- what holds at the name and at all others, where a value was changed at the name
pub by_name : (name : Name) (P : Bool → Name → Type 0) → P true name → ((q : Name) → name_eq name q ≡ false → P false q) → (q : Name) → P (name_eq name q) q
by_name name P here there q = by_test name q P (name_eq name q) refl here (there q)

-- The activity doesn't concern the name: nothing there waits for it.
pub record Apart (q : Name) (a : Activity) : Type 0 where
  pub section : a ≡ Waiting (ForSection q) → ⊥
  pub delete : a ≡ Waiting (ForDelete q) → ⊥

pub either_way : {A B C : Type 0} → A ⊎ B → (B → ⊥) → A ⊎ C
either_way (inl a) h = inl a
either_way (inr b) h = absurd (h b)

pub queue_calm : (me : ℕ) (q : Name) (h : Option Home) (a b : Activity) → (a ≡ Waiting (ForSection q) → ⊥) → QueueFits me q h a → QueueFits me q h b
queue_calm me q None a b apart f = tt
queue_calm me q (Some h) a b apart f = (f.0, either_way f.1 apart)

pub asking_calm : (q : Name) (r : Option Remote) (a b : Activity) → (a ≡ Waiting (ForSection q) → ⊥) → AskingFits q r a → AskingFits q r b
asking_calm q None a b apart f = tt
asking_calm q (Some r) a b apart f = either_way f apart

pub going_calm : (me : ℕ) (q : Name) (s : Stage) (a b : Activity) → (a ≡ Waiting (ForDelete q) → ⊥) → GoingFits me q s a → GoingFits me q s b
going_calm me q stage.Unknown a b apart f = tt
going_calm me q stage.Live a b apart f = tt
going_calm me q (stage.Going deleter) a b apart f = either_way f apart
going_calm me q stage.Gone a b apart f = tt

-- the node turns from one activity to another, where the name isn't concerned
pub calm : (me : ℕ) (q : Name) (a b : Activity) (v : Seen) → Apart q a → WaitFits q b v.mine v.mapping → Holds me q a v → Holds me q b v
calm me q a b v apart w h = record {
  sections = h.sections;
  own = h.own;
  queue = queue_calm me q v.home a b apart.section h.queue;
  asking = asking_calm q v.remote a b apart.section h.asking;
  going = going_calm me q v.stage a b apart.delete h.going;
  waiting = w;
}

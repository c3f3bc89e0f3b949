-- What a step does to a region's home and to another node, in numbers, and what holds of the two throughout.
use Rattle.std.proofs.Common.{◌≡◌, ℕ, ◌+◌, ◌≤◌, subst, sym, arith}

-- Of the home: whether it was asked by the node, whether the node is missing, whether the region is deleted. Of the
-- node: its sound entries, its doomed entry, whether its map was answers, and whether it waits for a map.
pub record AtHome : Type 0 where
  pub asked : ℕ
  pub missing : ℕ
  pub deleted : ℕ

pub record AtSide : Type 0 where
  pub sound : ℕ
  pub doomed : ℕ
  pub marked : ℕ
  pub waits : ℕ

-- With InfoIs (that it is there) to the node, Purges to it, and Purgeds from it under way.
pub record Agrees (h : AtHome) (s : AtSide) (live orders answers : ℕ) : Type 0 where
  pub missing : orders + answers ≡ h.missing
  pub had : s.sound ≤ h.asked
  pub told : live ≤ h.asked
  pub doomed : s.doomed ≤ h.deleted
  pub marked : s.marked ≤ h.deleted
  pub purged_entry : h.deleted + s.sound ≤ 1 + orders
  pub purged_map : h.deleted + live ≤ 1 + (orders + s.marked)

-- A step of the home, by what it sends and what comes.
pub data HomeRule (h : AtHome) (live orders answers : ℕ) (k : AtHome) : Type 0 where
  keeps : k.asked ≡ h.asked → k.missing ≡ h.missing → k.deleted ≡ h.deleted → live ≡ 0 → orders ≡ 0 → answers ≡ 0 → HomeRule h live orders answers k
  tells : h.deleted ≡ 0 → k.asked ≡ 1 → k.missing ≡ h.missing → k.deleted ≡ 0 → orders ≡ 0 → answers ≡ 0 → HomeRule h live orders answers k
  begins : h.deleted ≡ 0 → h.missing ≡ 0 → k.asked ≡ h.asked → k.missing ≡ h.asked → k.deleted ≡ 1 → live ≡ 0 → orders ≡ h.asked → answers ≡ 0 → HomeRule h live orders answers k
  counts : h.missing ≡ 1 → answers ≡ 1 → k.asked ≡ h.asked → k.missing ≡ 0 → k.deleted ≡ h.deleted → live ≡ 0 → orders ≡ 0 → HomeRule h live orders answers k
  loses : h.missing ≡ 0 → answers ≡ 1 → HomeRule h live orders answers k

pub home_rule_as : (h k : AtHome) (l p q l' p' q' : ℕ) → l ≡ l' → p ≡ p' → q ≡ q' → HomeRule h l' p' q' k → HomeRule h l p q k
home_rule_as h k l p q l' p' q' a b c r = subst (λ x. HomeRule h x p q k) (sym a) (subst (λ x. HomeRule h l' x q k) (sym b) (subst (λ x. HomeRule h l' p' x k) (sym c) r))

-- A step of the node, by what comes.
pub data SideRule (s : AtSide) (live orders answers : ℕ) (t : AtSide) : Type 0 where
  stays : t.sound ≤ s.sound → t.doomed ≤ s.doomed → t.marked ≡ s.marked → orders ≡ 0 → answers ≡ 0 → SideRule s live orders answers t
  quits : t.sound ≤ s.sound → t.doomed ≤ s.doomed → t.marked ≡ 0 → t.waits ≡ 0 → orders ≡ 0 → answers ≡ 0 → SideRule s live orders answers t
  maps : live ≡ 1 → t.sound + s.marked ≤ 1 → t.doomed ≤ s.marked → t.marked ≡ 0 → t.waits ≡ 0 → orders ≡ 0 → answers ≡ 0 → SideRule s live orders answers t
  heeds : orders ≡ 1 → answers ≡ 1 → t.sound ≡ 0 → t.doomed ≤ 1 → t.marked ≤ 1 → t.waits ≤ t.marked → SideRule s live orders answers t

pub home_agrees : (h k : AtHome) (s : AtSide) (l p q live orders answers live' orders' answers' : ℕ) → HomeRule h l p q k → h.deleted ≤ 1 → h.asked ≤ 1 → live' ≡ live + l → orders' ≡ orders + p → answers' + q ≡ answers → live' ≤ 1
    → Agrees h s live orders answers → Agrees k s live' orders' answers'
home_agrees h k s l p q live orders answers live' orders' answers' (keeps e f d a b c) few one x y z m g =
    record { missing = omega (arith, g.missing); had = omega (arith, g.had); told = omega (arith, g.told); doomed = omega (arith, g.doomed); marked = omega (arith, g.marked); purged_entry = omega (arith, g.purged_entry); purged_map = omega (arith, g.purged_map) }
home_agrees h k s l p q live orders answers live' orders' answers' (tells d a b c e f) few one x y z m g =
    record { missing = omega (arith, g.missing); had = omega (arith, g.had); told = omega (arith, g.told); doomed = omega (arith, g.doomed); marked = omega (arith, g.marked); purged_entry = omega (arith, g.had); purged_map = omega (arith, g.purged_map) }
home_agrees h k s l p q live orders answers live' orders' answers' (begins d n a b c e f i) few one x y z m g =
    record { missing = omega (arith, g.missing); had = omega (arith, g.had); told = omega (arith, g.told); doomed = omega (arith, g.doomed); marked = omega (arith, g.marked); purged_entry = omega (arith, g.had); purged_map = omega (arith, g.told) }
home_agrees h k s l p q live orders answers live' orders' answers' (counts d n a b c e f) few one x y z m g =
    record { missing = omega (arith, g.missing); had = omega (arith, g.had); told = omega (arith, g.told); doomed = omega (arith, g.doomed); marked = omega (arith, g.marked); purged_entry = omega (arith, g.purged_entry); purged_map = omega (arith, g.purged_map) }
home_agrees h k s l p q live orders answers live' orders' answers' (loses d n) few one x y z m g = absurd (let w = g.missing in omega arith)

pub side_agrees : (h : AtHome) (s t : AtSide) (l p q live orders answers live' orders' answers' : ℕ) → SideRule s l p q t → h.deleted ≤ 1 → h.missing ≤ h.deleted → h.asked ≤ 1 → live' + l ≡ live → orders' + p ≡ orders → answers' ≡ answers + q → live' ≤ t.waits
    → Agrees h s live orders answers → Agrees h t live' orders' answers'
side_agrees h s t l p q live orders answers live' orders' answers' (stays a b c d e) few going one x y z m g =
    record { missing = omega (arith, g.missing); had = omega (arith, g.had); told = omega (arith, g.told); doomed = omega (arith, g.doomed); marked = omega (arith, g.marked); purged_entry = omega (arith, g.purged_entry); purged_map = omega (arith, g.purged_map) }
side_agrees h s t l p q live orders answers live' orders' answers' (quits a b c d e f) few going one x y z m g =
    record { missing = omega (arith, g.missing); had = omega (arith, g.had); told = omega (arith, g.told); doomed = omega (arith, g.doomed); marked = omega (arith, g.marked); purged_entry = omega (arith, g.purged_entry); purged_map = omega (arith, g.purged_map) }
side_agrees h s t l p q live orders answers live' orders' answers' (maps a b c d e f i) few going one x y z m g =
    record { missing = omega (arith, g.missing); had = omega (arith, g.told); told = omega (arith, g.told); doomed = omega (arith, g.marked); marked = omega (arith, g.marked); purged_entry = omega (arith, g.purged_map); purged_map = omega (arith, g.purged_map) }
side_agrees h s t l p q live orders answers live' orders' answers' (heeds a b c d e f) few going one x y z m g =
    record { missing = omega (arith, g.missing); had = omega (arith, g.had); told = omega (arith, g.told); doomed = omega (arith, g.missing); marked = omega (arith, g.missing); purged_entry = omega (arith, g.missing); purged_map = omega (arith, g.missing) }

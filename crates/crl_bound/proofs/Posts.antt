-- A deed leaves the counts of what was sent and recorded as they are.
use Rattle.std.proofs.Common.{◌≡◌, refl}
use Rattle.crl_model.specs.declared.call.Call.{Call}
use Rattle.crl_model.specs.declared.entry.What.{What}
use Rattle.crl_protocol.specs.Node.{Node, Outcome}
use Rattle.crl_deeds.specs.Deeds.{Cause, Copies, Lives, Rounds, Notes, Deed, copies, lives, rounds, notes, home_opens, made, comes_away, flushes_own}

posted_copies : (n : Node) (cause : Cause) (o : Outcome) → Copies n cause o → o.node.posted ≡ n.posted
posted_copies n cause o (home_opens c write name h is e v x) = refl
posted_copies n cause o _ = refl

posted_lives : (n : Node) (cause : Cause) (o : Outcome) → Lives n cause o → o.node.posted ≡ n.posted
posted_lives n cause o (made size e) = refl
posted_lives n cause o _ = refl

posted_rounds : (n : Node) (cause : Cause) (o : Outcome) → Rounds n cause o → o.node.posted ≡ n.posted
posted_rounds n cause o (comes_away part other fits) = refl
posted_rounds n cause o _ = refl

posted_notes : (n : Node) (c : Call) (w : What) (m : Node) → Notes n c w m → m.posted ≡ n.posted
posted_notes n c w m (flushes_own name mine closed) = refl
posted_notes n c w m _ = refl

pub deed_posted : (n : Node) (cause : Cause) (o : Outcome) → Deed n cause o → o.node.posted ≡ n.posted
deed_posted n cause o (copies d) = posted_copies n cause o d
deed_posted n cause o (lives d) = posted_lives n cause o d
deed_posted n cause o (rounds d) = posted_rounds n cause o d
deed_posted n cause o (notes d) = posted_notes n _ _ _ d
deed_posted n cause o _ = refl

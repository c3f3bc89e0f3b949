-- A node after a call: its counts, its outbox, and the event.
use Rattle.std.proofs.Common.{◌≡◌, ◌∙◌, refl, sym, ap, subst, ℕ, ◌≤◌, length, arith}
use Rattle.std.proofs.lemmas.List.{length-append}
use Rattle.std.specs.declared.option.Option.TheVariants.{None}
use Rattle.std.proofs.Common.{List}
use Rattle.crl_model.specs.declared.name.Name.{Name}
use Rattle.crl_model.specs.declared.call.Call.{Call}
use Rattle.crl_model.specs.declared.call.Call.TheVariants.{EndRead, EndWrite}
use Rattle.crl_model.specs.declared.event.Event.TheVariants as event
use Rattle.crl_protocol.specs.Node.{Node, Outcome, Answer}
use Rattle.crl_protocol.specs.Sectioning.{ends_read, ends_write}
use Rattle.crl_protocol.specs.Verdict.{verdict}
use Rattle.crl_protocol.specs.World.{commits, noted_call}
use Rattle.crl_member.specs.Members.{CallIsDone}
use Rattle.crl_protocol.specs.Parcels.{pieces_in}
use Rattle.crl_protocol.specs.Calls.{node_calls}
use Rattle.crl_protocol.specs.Calls as calls
use Rattle.crl_desk.specs.Desks.{acted}
use Rattle.crl_node.specs.Nodes.{IsFew, concluded, KeepsCounts}
use Rattle.crl_node.proofs.Acts.{taken_is}
use Rattle.crl_node.proofs.Concludes.{concluded_is}
use Rattle.crl_node.proofs.Keeping.{call_keeps, call_keeps_outbox}

pub few_after : (at : ℕ) (o : Outcome) (n m : Node) → m ≡ acted at o → KeepsCounts n o.node → IsFew n → IsFew m
few_after at o n m is keeps few = subst (λ (x : Node). IsFew x) (sym is) (rw keeps.posted (rw keeps.notes few))

pub outbox_after : (at : ℕ) (o : Outcome) (n m : Node) → m ≡ acted at o → o.node.outbox ≡ n.outbox → length n.outbox ≤ length m.outbox
outbox_after at o n m is same = rw is (rw same (rw (length-append n.outbox (pieces_in o.posts)) (omega arith)))

-- after a call
pub call_few : (at : ℕ) (c : Call) (n m : Node) → m ≡ acted at (node_calls c n) → IsFew n → IsFew m
call_few at c n m is few = few_after at (node_calls c n) n m is (call_keeps n c) few

pub call_before : (at : ℕ) (c : Call) (n m : Node) (before : ℕ) → m ≡ acted at (node_calls c n) → before ≡ length n.outbox → before ≤ length m.outbox
call_before at c n m before is same = rw same (outbox_after at (node_calls c n) n m is (call_keeps_outbox n c))

pub call_node : (at : ℕ) (c noted : Call) (n m new : Node) (before : ℕ) → m ≡ acted at (node_calls c n) → before ≡ length n.outbox
    → new ≡ concluded at (event.Call n.me noted) before m → new ≡ commits at (event.Call n.me noted) (node_calls c n)
call_node at c noted n m new before is same ends =
    ends ∙ ap (λ k. concluded at (event.Call n.me noted) k m) same ∙ concluded_is at (event.Call n.me noted) (node_calls c n) m n.outbox is (call_keeps_outbox n c)

pub call_told : (at : ℕ) (c noted : Call) (n m new : Node) (before : ℕ) (answer : Answer) → m ≡ acted at (node_calls c n) → answer ≡ (node_calls c n).answer → noted ≡ noted_call (verdict n c) c
    → before ≡ length n.outbox → new ≡ concluded at (event.Call n.me noted) before m → CallIsDone at c n new answer
call_told at c noted n m new before answer is answers notes same ends = record {
  node = call_node at c noted n m new before is same ends ∙ ap (λ x. commits at (event.Call n.me x) (node_calls c n)) notes;
  answer = answers;
}

-- The end of a section is the call of its end.
taken_at : (at : ℕ) (c : Call) (n m : Node) (o : Outcome) → verdict n c ≡ None → calls.takes_call c n ≡ o → m ≡ acted at o → m ≡ acted at (node_calls c n)
taken_at at c n m o allowed word is = is ∙ sym (ap (λ (x : Outcome). acted at x) (taken_is n c allowed ∙ word))

pub end_read_acts : (at : ℕ) (q name : Name) (n m : Node) → q ≡ name → verdict n (EndRead name) ≡ None → m ≡ acted at (ends_read q n) → m ≡ acted at (node_calls (EndRead name) n)
unfolding calls.takes_call
end_read_acts at q name n m same allowed is = taken_at at (EndRead name) n m (ends_read name n) allowed refl (is ∙ ap (λ (x : Name). acted at (ends_read x n)) same)

pub end_write_acts : (at : ℕ) (q name : Name) (after bytes : List ℕ) (n m : Node) → q ≡ name → after ≡ bytes → verdict n (EndWrite name bytes) ≡ None
    → m ≡ acted at (ends_write q after n) → m ≡ acted at (node_calls (EndWrite name bytes) n)
unfolding calls.takes_call
end_write_acts at q name after bytes n m same equal allowed is =
    taken_at at (EndWrite name bytes) n m (ends_write name bytes n) allowed refl (is ∙ ap (λ (x : Name). acted at (ends_write x after n)) same ∙ ap (λ (x : List ℕ). acted at (ends_write name x n)) equal)

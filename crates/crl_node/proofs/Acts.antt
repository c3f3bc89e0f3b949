-- A call that is taken, from its word in the protocol.
use Rattle.std.proofs.Common.{◌≡◌, ◌∙◌, refl, sym, ap, ℕ, Bool, true, false}
use Rattle.std.specs.declared.option.Option.TheVariants.{None}
use Rattle.crl_model.specs.declared.name.Name.{Name}
use Rattle.crl_model.specs.declared.call.Call.{Call}
use Rattle.crl_protocol.specs.Node.{Node, Outcome, Answer}
use Rattle.crl_protocol.specs.Sectioning.{starts}
use Rattle.crl_protocol.specs.Calls.{call_or_refuse, node_calls}
use Rattle.crl_protocol.specs.Calls as calls
use Rattle.crl_protocol.specs.Verdict.{verdict}
use Rattle.crl_protocol.specs.World.{noted_call, without_bytes}
use Rattle.crl_sectioning.specs.Starts.{start_call}
use Rattle.crl_desk.specs.declared.desk.Desk.{Desk}
use Rattle.crl_desk.specs.Desks.{state, acted, HasRoom}
use Rattle.crl_node.specs.Nodes.{ActIsDone}

-- what a call does that isn't refused
pub taken_is : (n : Node) (c : Call) → verdict n c ≡ None → node_calls c n ≡ calls.takes_call c n
taken_is n c allowed = ap (λ o. call_or_refuse o c n) allowed

pub act_done : (at : ℕ) (c noted : Call) (n mid : Node) (word : Node → Outcome) (new : Desk) (answer : Answer) → verdict n c ≡ None → mid ≡ n → ((m : Node) → calls.takes_call c m ≡ word m)
    → state new ≡ acted at (word mid) → answer ≡ (word mid).answer → noted ≡ without_bytes c → HasRoom 0 0 1 new → ActIsDone at c n new (record { answer = answer; noted = noted })
act_done at c noted n mid word new answer allowed same is acts answers notes room =
    let o : node_calls c n ≡ word mid = taken_is n c allowed ∙ is n ∙ sym (ap word same) in
    record {
      node = acts ∙ sym (ap (λ (x : Outcome). acted at x) o);
      answer = answers ∙ sym (ap (λ (x : Outcome). x.answer) o);
      noted = notes ∙ sym (ap (λ v. noted_call v c) allowed);
      room = room;
    }

pub start_taken : (write : Bool) (name : Name) (m : Node) → calls.takes_call (start_call write name) m ≡ starts write name m
unfolding calls.takes_call
start_taken true name m = refl
start_taken false name m = refl

pub start_noted : (write : Bool) (name : Name) → start_call write name ≡ without_bytes (start_call write name)
start_noted true name = refl
start_noted false name = refl

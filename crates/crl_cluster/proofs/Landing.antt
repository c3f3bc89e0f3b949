-- What the event of one node leaves of it, and that this is its node after the history with the event behind it.
use Rattle.std.proofs.Common.{◌≡◌, ◌≢◌, ℕ, if◌then◌else◌, List, [], ◌∷◌, ◌++◌, length, refl, sym, ap, ap₂, ◌∙◌, subst, eq-eqb, ne_eqb, Option, Some, None}
use Rattle.crl_model.specs.Names.{at_node}
use Rattle.crl_model.specs.declared.call.Call.{Call}
use Rattle.crl_model.specs.declared.event.Event.{Event}
use Rattle.crl_model.specs.declared.event.Event.TheVariants as event
use Rattle.crl_protocol.specs.Parcels.{Piece}
use Rattle.crl_protocol.specs.Places.{Taken, take_out}
use Rattle.crl_model.specs.declared.call.Call.TheVariants.{EndRead, EndWrite}
use Rattle.crl_model.specs.declared.name.Name.{Name}
use Rattle.crl_protocol.specs.Home.{Home, HomeStep}
use Rattle.crl_protocol.specs.Remote.{Remote, RemoteStep}
use Rattle.crl_protocol.specs.Sectioning.{ends_over_home, ends_over_remote, after_home_end, after_remote, closes}
use Rattle.crl_protocol.specs.Node.{Node, Answer, Outcome, Done, home_of}
use Rattle.crl_protocol.specs.Verdict.{verdict}
use Rattle.crl_protocol.specs.Calls.{node_calls, call_or_refuse, takes_call}
use Rattle.crl_protocol.specs.World.{World, new_world, step, commits, noted_call, collects, handles_at, carries, put_in, IsRunFrom}
use Rattle.crl_member.specs.Members.{CallIsDone, CollectIsDone, node_after_handle, after_taken, after_sent, after_put, addressee_of}
use Rattle.crl_turns.specs.declared.turned.Shape.{Shape}
use Rattle.crl_cluster.specs.Standing.{world_at}
use Rattle.crl_cluster.proofs.Worlds.{events_at, me_at}
use Rattle.crl_deeds.proofs.Laws.{world_grows}

at_here : {A : Type 0} (f : ℕ → A) (i : ℕ) (v : A) → at_node f i v i ≡ v
at_here f i v = ap (λ b. if b then v else f i) (eq-eqb i i refl)

module _ (s : Shape) (i : ℕ) (before : List Event) (run : IsRunFrom (new_world s.parts s.extra) before) (at : ℕ) (place : at ≡ length before) (n : Node) (is : n ≡ (world_at s before).nodes i) where
  abbrev w : World
  w = world_at s before

  -- the outcome of the node's event, noted with the node's number
  lands_as : (E : ℕ → Event) (e : Event) (o : Node → Outcome) (new : Node) → (step e w).world.nodes i ≡ at_node w.nodes i (commits w.events (E i) (o (w.nodes i))) i
      → new ≡ commits at (E n.me) (o n) → new ≡ (world_at s (before ++ e ∷ [])).nodes i
  lands_as E e o new there did =
      did ∙ ap₂ (λ (k : ℕ) (m : Node). commits k (E m.me) (o m)) (place ∙ sym (events_at s before run)) is
      ∙ ap (λ k. commits w.events (E k) (o (w.nodes i))) (me_at s before run i)
      ∙ sym (there ∙ at_here w.nodes i _) ∙ sym (ap (λ (u : World). u.nodes i) (world_grows (new_world s.parts s.extra) before e))

  pub call_lands : (c : Call) (new : Node) (answer : Answer) → CallIsDone at c n new answer → new ≡ (world_at s (before ++ event.Call i c ∷ [])).nodes i
  unfolding step
  call_lands c new answer did = lands_as_call c new did.node
    where
      lands_as_call : (c : Call) (new : Node) → new ≡ commits at (event.Call n.me (noted_call (verdict n c) c)) (node_calls c n) → new ≡ (world_at s (before ++ event.Call i c ∷ [])).nodes i
      lands_as_call c new did =
          did ∙ ap₂ (λ (k : ℕ) (m : Node). commits k (event.Call m.me (noted_call (verdict m c) c)) (node_calls c m)) (place ∙ sym (events_at s before run)) is
          ∙ ap (λ k. commits w.events (event.Call k (noted_call (verdict (w.nodes i) c) c)) (node_calls c (w.nodes i))) (me_at s before run i)
          ∙ sym (at_here w.nodes i _) ∙ sym (ap (λ (u : World). u.nodes i) (world_grows (new_world s.parts s.extra) before (event.Call i c)))

  pub call_answers : (c : Call) (new : Node) (answer : Answer) → CallIsDone at c n new answer → answer ≡ (step (event.Call i c) w).answer
  unfolding step
  call_answers c new answer did = did.answer ∙ ap (λ (m : Node). (node_calls c m).answer) is

  pub collect_lands : (new : Node) (answer : Answer) → CollectIsDone at n new answer → new ≡ (world_at s (before ++ event.Collect i ∷ [])).nodes i
  unfolding step
  collect_lands new answer did = lands_as (λ k. event.Collect k) (event.Collect i) (λ (m : Node). collects m.activity m) new refl did.node

  pub collect_answers : (new : Node) (answer : Answer) → CollectIsDone at n new answer → answer ≡ (step (event.Collect i) w).answer
  unfolding step
  collect_answers new answer did = did.answer ∙ ap (λ (m : Node). (collects m.activity m).answer) is

  handled_here : (e : Event) (o : Option (Taken Piece)) → (o ≡ None → ⊥) → (handles_at i e o w).world.nodes i ≡ after_taken w.events e o (w.nodes i)
  handled_here e None there = absurd (there refl)
  handled_here e (Some t) there = at_here w.nodes i _

  pub handle_lands : (place_in : ℕ) (new : Node) → (take_out place_in (w.nodes i).inbox ≡ None → ⊥) → new ≡ node_after_handle at place_in n → new ≡ (world_at s (before ++ event.Handle i place_in ∷ [])).nodes i
  unfolding step
  handle_lands place_in new there did =
      did ∙ ap₂ (λ (k : ℕ) (m : Node). node_after_handle k place_in m) (place ∙ sym (events_at s before run)) is
      ∙ ap (λ k. after_taken w.events (event.Handle k place_in) (take_out place_in (w.nodes i).inbox) (w.nodes i)) (me_at s before run i)
      ∙ sym (handled_here (event.Handle i place_in) (take_out place_in (w.nodes i).inbox) there)
      ∙ sym (ap (λ (u : World). u.nodes i) (world_grows (new_world s.parts s.extra) before (event.Handle i place_in)))

-- A piece that goes to another node: what is left of its sender, and of its addressee.
at_else : {A : Type 0} (f : ℕ → A) (i m : ℕ) (v : A) → i ≢ m → at_node f i v m ≡ f m
at_else f i m v apart = ap (λ b. if b then v else f m) (ne_eqb i m apart)

sent_here : (i : ℕ) (e : Event) (o : Option (Taken Piece)) (w : World) → (o ≡ None → ⊥) → addressee_of o ≢ i → (carries i e o w).world.nodes i ≡ after_sent w.events e o (w.nodes i)
sent_here i e None w there apart = absurd (there refl)
sent_here i e (Some t) w there apart = at_else (at_node w.nodes i _) t.taken.message.addressee i _ apart ∙ at_here w.nodes i _

put_there : (i : ℕ) (e : Event) (o : Option (Taken Piece)) (w : World) → (o ≡ None → ⊥) → addressee_of o ≢ i → (carries i e o w).world.nodes (addressee_of o) ≡ after_put o (w.nodes (addressee_of o))
put_there i e None w there apart = absurd (there refl)
put_there i e (Some t) w there apart =
    at_here (at_node w.nodes i _) t.taken.message.addressee _ ∙ ap (put_in t.taken) (at_else w.nodes i t.taken.message.addressee _ (λ same. apart (sym same)))

module _ (s : Shape) (i j place : ℕ) (before : List Event) (run : IsRunFrom (new_world s.parts s.extra) before) (at : ℕ) (at_is : at ≡ length before)
    (n m : Node) (n_is : n ≡ (world_at s before).nodes i) (m_is : m ≡ (world_at s before).nodes j)
    (there : take_out place ((world_at s before).nodes i).outbox ≡ None → ⊥) (to : addressee_of (take_out place ((world_at s before).nodes i).outbox) ≡ j) (apart : j ≢ i) where
  abbrev v : World
  v = world_at s before

  abbrev o : Option (Taken Piece)
  o = take_out place (v.nodes i).outbox

  away : addressee_of o ≢ i
  away same = apart (sym to ∙ same)

  pub carry_sends : (new : Node) → new ≡ after_sent at (event.Carry n.me place) (take_out place n.outbox) n → new ≡ (world_at s (before ++ event.Carry i place ∷ [])).nodes i
  unfolding step
  carry_sends new did =
      did ∙ ap₂ (λ (k : ℕ) (x : Node). after_sent k (event.Carry x.me place) (take_out place x.outbox) x) (at_is ∙ sym (events_at s before run)) n_is
      ∙ ap (λ k. after_sent v.events (event.Carry k place) o (v.nodes i)) (me_at s before run i)
      ∙ sym (sent_here i (event.Carry i place) o v there away)
      ∙ sym (ap (λ (u : World). u.nodes i) (world_grows (new_world s.parts s.extra) before (event.Carry i place)))

  pub carry_puts : (new : Node) → new ≡ after_put (take_out place n.outbox) m → new ≡ (world_at s (before ++ event.Carry i place ∷ [])).nodes j
  unfolding step
  carry_puts new did =
      did ∙ ap₂ (λ (x y : Node). after_put (take_out place x.outbox) y) n_is m_is
      ∙ sym (subst (λ k. (carries i (event.Carry i place) o v).world.nodes k ≡ after_put o (v.nodes k)) to (put_there i (event.Carry i place) o v there away))
      ∙ sym (ap (λ (u : World). u.nodes j) (world_grows (new_world s.parts s.extra) before (event.Carry i place)))

-- An end that is allowed is answered with Done.
end_over : (name : Name) (at_home : Home → HomeStep) (at_other : Remote → RemoteStep) (r : Option Remote) (n : Node) → (ends_over_remote name at_other r n).answer ≡ Done
unfolding after_remote
end_over name at_home at_other None n = refl
end_over name at_home at_other (Some r) n = refl

end_answer : (name : Name) (at_home : Home → HomeStep) (at_other : Remote → RemoteStep) (o : Option Home) (n : Node) → (ends_over_home name at_home at_other o n).answer ≡ Done
unfolding after_home_end
end_answer name at_home at_other None n = end_over name at_home at_other (n.remotes name) n
end_answer name at_home at_other (Some h) n = refl

pub read_answers : (n : Node) (name : Name) → verdict n (EndRead name) ≡ None → (node_calls (EndRead name) n).answer ≡ Done
unfolding takes_call
read_answers n name allowed = ap (λ v. (call_or_refuse v (EndRead name) n).answer) allowed ∙ end_answer name _ _ (home_of n name) (closes name n)

pub write_answers : (n : Node) (name : Name) (after : List ℕ) → verdict n (EndWrite name after) ≡ None → (node_calls (EndWrite name after) n).answer ≡ Done
unfolding takes_call
write_answers n name after allowed = ap (λ v. (call_or_refuse v (EndWrite name after) n).answer) allowed ∙ end_answer name _ _ (home_of n name) (closes name n)

use Rattle.std.proofs.Common.{◌≡◌, ◌∙◌, ◌<◌, ap, sym, subst, length, List, [], Bool}
use Rattle.std.specs.Prelude.{vec_len}
use Rattle.std.proofs.lemmas.List.{length-map}
use Rattle.crl_world.specs.Seen.{world_seen}
use Rattle.crl_world.specs.Choosing.{choices_by, left_in}
use Rattle.crl_run.specs.Turning.{IsNextOf, node_of}
use Rattle.crl_run.proofs.Remaining.{node_there, many_stay, left_then}
use Rattle.crl_run.proofs.TurnSteps.{turn_counted, turn_can, turn_over, turn_done}
use Rattle.crl_run.proofs.turning.take_turn.Goals as goal

pub next_choice-requires : goal.next_choice-requires
next_choice-requires g c =
    ap (λ (l : List Bool). length l) c.as_slice.ensures.value
    ∙ turn_counted _ (world_seen g.N.Member.state c.args.world.now) c.args.players.now c.args.left.now.items c.requires.left c.requires.some
    ∙ length-map c.args.world.now.nodes g.N.Member.state

pub returns-in_default-clause-turn : goal.returns-in_default-clause-turn
returns-in_default-clause-turn g c =
    let w = world_seen g.N.Member.state c.args.world.now in
    turn_over _ w c.args.players.now c.args.left.now.items c.requires.left c.args.order.now c.next_choice.new.order
    (subst (λ l. choices_by (left_in l) w ≡ []) c.as_slice.ensures.value (c.in_default.ensures))

pub take_choice-requires-clause-can : goal.take_choice-requires-clause-can
take_choice-requires-clause-can g c =
    let w = world_seen g.N.Member.state c.args.world.now in
    turn_can _ w c.args.players.now c.args.left.now.items c.requires.left c.args.order.now c.next_choice.new.order c.in-Some.choice
    (subst (λ l. IsNextOf (choices_by (left_in l) w) c.args.order.now c.next_choice.new.order c.in-Some.choice) c.as_slice.ensures.value c.in-Some.ensures) c.requires.some

pub has_left-requires-clause-node : goal.has_left-requires-clause-node
has_left-requires-clause-node g c =
    let w = world_seen g.N.Member.state c.args.world.now in
    let v = world_seen g.N.Member.state c.take_choice.new.world in
    let can = turn_can _ w c.args.players.now c.args.left.now.items c.requires.left c.args.order.now c.next_choice.new.order c.in-Some.choice
    (subst (λ l. IsNextOf (choices_by (left_in l) w) c.args.order.now c.next_choice.new.order c.in-Some.choice) c.as_slice.ensures.value c.in-Some.ensures) c.requires.some in
    subst (λ n. n < length c.take_choice.new.players) (sym c.node_of-i.ensures)
    (subst (λ n. node_of c.in-Some.choice < n) (sym (many_stay _ w v c.args.players.now c.take_choice.new.players c.in-Some.choice c.in_ok-take_choice.ensures can)) (node_there _ w c.args.players.now c.in-Some.choice can))

pub index_mut-requires : goal.index_mut-requires
index_mut-requires g c =
    let w = world_seen g.N.Member.state c.args.world.now in
    let can = turn_can _ w c.args.players.now c.args.left.now.items c.requires.left c.args.order.now c.next_choice.new.order c.in-Some.choice
    (subst (λ l. IsNextOf (choices_by (left_in l) w) c.args.order.now c.next_choice.new.order c.in-Some.choice) c.as_slice.ensures.value c.in-Some.ensures) c.requires.some in
    let long = ap (λ (l : List Bool). length l) c.as_slice.ensures.value in
    subst (λ n. n < vec_len c.args.left.now) (sym c.node_of-i.ensures)
    (subst (λ n. node_of c.in-Some.choice < n) (sym c.requires.left.many ∙ sym long ∙ c.as_slice.ensures.len) (node_there _ w c.args.players.now c.in-Some.choice can))

pub returns-clause-turn : goal.returns-clause-turn
returns-clause-turn g c =
    let w = world_seen g.N.Member.state c.args.world.now in
    turn_done _ w c.args.players.now c.args.left.now.items c.requires.left c.args.order.now c.next_choice.new.order (world_seen g.N.Member.state c.take_choice.new.world) c.take_choice.new.players c.in-Some.choice
    (subst (λ l. IsNextOf (choices_by (left_in l) w) c.args.order.now c.next_choice.new.order c.in-Some.choice) c.as_slice.ensures.value c.in-Some.ensures)
    c.in_ok-take_choice.ensures

pub returns-clause-left : goal.returns-clause-left
returns-clause-left g c =
    let w = world_seen g.N.Member.state c.args.world.now in
    let v = world_seen g.N.Member.state c.take_choice.new.world in
    let can = turn_can _ w c.args.players.now c.args.left.now.items c.requires.left c.args.order.now c.next_choice.new.order c.in-Some.choice
    (subst (λ l. IsNextOf (choices_by (left_in l) w) c.args.order.now c.next_choice.new.order c.in-Some.choice) c.as_slice.ensures.value c.in-Some.ensures) c.requires.some in
    let then = left_then _ w v c.args.players.now c.take_choice.new.players c.in-Some.choice c.in_ok-take_choice.ensures can c.args.left.now.items c.requires.left in
    rw (c.has_left.ensures, c.node_of-i.ensures) then

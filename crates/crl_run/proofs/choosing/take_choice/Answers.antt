use Rattle.std.proofs.Common.{◌<◌, subst, []}
use Rattle.std.proofs.lemmas.List.{length-map, get_or_default}
use Rattle.std.proofs.lemmas.Result.{on_ok_weaker}
use Rattle.crl_model.specs.declared.event.Event.TheVariants as event
use Rattle.crl_run.specs.Making.{IsKeptFrom}
use Rattle.crl_run.specs.PlayerState.{PlayerState}
use Rattle.crl_world.specs.Seen.{world_seen}
use Rattle.crl_run.proofs.Choices.{some_counted, some_safe, some_piece, some_leaves, some_framed, collect_may, handle_may, carry_may, answer_chosen, handle_chosen, carry_chosen}
use Rattle.crl_run.proofs.choosing.take_choice.Goals as goal
use Rattle.crl_deeds.proofs.Laws.{collect_node, handle_node, carry_node}

pub bounds-players-i : goal.bounds-players-i
bounds-players-i g c =
    let w = world_seen g.N.Member.state c.args.world.now in
    subst (λ n. c.in-Collect.i < n) (some_counted _ w c.args.players.now c.args.choice c.requires.can) (collect_node c.in-Collect.i w (collect_may _ w c.args.players.now c.args.choice c.in-Collect.i c.in-Collect.is c.requires.can))

pub collect_answer-requires-clause-node : goal.collect_answer-requires-clause-node
collect_answer-requires-clause-node g c =
    let w = world_seen g.N.Member.state c.args.world.now in
    subst (λ n. c.in-Collect.i < n) (length-map c.args.world.now.nodes g.N.Member.state) (collect_node c.in-Collect.i w (collect_may _ w c.args.players.now c.args.choice c.in-Collect.i c.in-Collect.is c.requires.can))

pub collect_answer-requires-clause-safe : goal.collect_answer-requires-clause-safe
collect_answer-requires-clause-safe g c = some_safe _ (world_seen g.N.Member.state c.args.world.now) c.args.players.now c.args.choice c.requires.can c.requires.few

pub handle_message-requires-clause-node : goal.handle_message-requires-clause-node
handle_message-requires-clause-node g c =
    let w = world_seen g.N.Member.state c.args.world.now in
    subst (λ n. c.in-Handle.i < n) (length-map c.args.world.now.nodes g.N.Member.state) (handle_node c.in-Handle.i c.in-Handle.place w (handle_may _ w c.args.players.now c.args.choice c.in-Handle.i c.in-Handle.place c.in-Handle.is c.requires.can))

pub handle_message-requires-clause-safe : goal.handle_message-requires-clause-safe
handle_message-requires-clause-safe g c = some_safe _ (world_seen g.N.Member.state c.args.world.now) c.args.players.now c.args.choice c.requires.can c.requires.few

pub handle_message-requires-clause-piece : goal.handle_message-requires-clause-piece
handle_message-requires-clause-piece g c =
    let w = world_seen g.N.Member.state c.args.world.now in
    some_piece _ w c.args.players.now c.args.choice c.requires.can c.in-Handle.i c.in-Handle.place (handle_node c.in-Handle.i c.in-Handle.place w (handle_may _ w c.args.players.now c.args.choice c.in-Handle.i c.in-Handle.place c.in-Handle.is c.requires.can))

pub carry_message-requires-clause-node : goal.carry_message-requires-clause-node
carry_message-requires-clause-node g c =
    let w = world_seen g.N.Member.state c.args.world.now in
    subst (λ n. c.in-Carry.i < n) (length-map c.args.world.now.nodes g.N.Member.state) (carry_node c.in-Carry.i c.in-Carry.place w (carry_may _ w c.args.players.now c.args.choice c.in-Carry.i c.in-Carry.place c.in-Carry.is c.requires.can))

pub carry_message-requires-clause-safe : goal.carry_message-requires-clause-safe
carry_message-requires-clause-safe g c = some_safe _ (world_seen g.N.Member.state c.args.world.now) c.args.players.now c.args.choice c.requires.can c.requires.few

pub carry_message-requires-clause-elsewhere : goal.carry_message-requires-clause-elsewhere
carry_message-requires-clause-elsewhere g c =
    let w = world_seen g.N.Member.state c.args.world.now in
    some_leaves _ w c.args.players.now c.args.choice c.requires.can c.in-Carry.i c.in-Carry.place (carry_node c.in-Carry.i c.in-Carry.place w (carry_may _ w c.args.players.now c.args.choice c.in-Carry.i c.in-Carry.place c.in-Carry.is c.requires.can))

pub carry_message-requires-clause-in_table : goal.carry_message-requires-clause-in_table
carry_message-requires-clause-in_table g c =
    let w = world_seen g.N.Member.state c.args.world.now in
    some_framed _ w c.args.players.now c.args.choice c.requires.can c.requires.few c.in-Carry.i c.in-Carry.place (carry_node c.in-Carry.i c.in-Carry.place w (carry_may _ w c.args.players.now c.args.choice c.in-Carry.i c.in-Carry.place c.in-Carry.is c.requires.can))

pub returns-in-Collect : goal.returns-in-Collect
returns-in-Collect g c =
    let w = world_seen g.N.Member.state c.args.world.now in
    let v = world_seen g.N.Member.state c.collect_answer.new.world in
    let within = subst (λ n. c.in-Collect.i < n) (some_counted _ w c.args.players.now c.args.choice c.requires.can) (collect_node c.in-Collect.i w (collect_may _ w c.args.players.now c.args.choice c.in-Collect.i c.in-Collect.is c.requires.can)) in
    let same = get_or_default c.args.players.now c.in-Collect.i c.index-players-i.result (record { place = 0; guards = []; room = 0 }) within in
    on_ok_weaker c.collect_answer.result
    (λ h. answer_chosen _ w c.args.players.now c.args.choice v c.in-Collect.i c.collect_answer.new.player c.in-Collect.is
    (subst (λ (p : PlayerState). IsKeptFrom (event.Collect c.in-Collect.i) w v p.place p.guards c.collect_answer.new.player) same h)) c.collect_answer.ensures

pub returns-in-Handle : goal.returns-in-Handle
returns-in-Handle g c =
    on_ok_weaker c.handle_message.result
    (λ h. handle_chosen _ (world_seen g.N.Member.state c.args.world.now) c.args.players.now c.args.choice (world_seen g.N.Member.state c.handle_message.new.world) c.in-Handle.i c.in-Handle.place c.in-Handle.is h) c.handle_message.ensures

pub returns-in-Carry : goal.returns-in-Carry
returns-in-Carry g c =
    on_ok_weaker c.carry_message.result
    (λ h. carry_chosen _ (world_seen g.N.Member.state c.args.world.now) c.args.players.now c.args.choice (world_seen g.N.Member.state c.carry_message.new.world) c.in-Carry.i c.in-Carry.place c.in-Carry.is h) c.carry_message.ensures

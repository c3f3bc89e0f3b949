use Rattle.std.proofs.Common.{◌≡◌, ◌<◌, ◌∙◌, ap, sym, subst, length, map, drop, suc, [], ◌∷◌, List, arith, get_or}
use Rattle.std.proofs.lemmas.List.{length-map, get_or_default, get_or-map}
use Rattle.std.proofs.lemmas.Result.{on_ok_weaker}
use Rattle.crl_model.specs.declared.choice.Choice.TheVariants as choice
use Rattle.crl_model.specs.declared.statement.Statement.{Statement}
use Rattle.crl_protocol.specs.Chosen.{block_of}
use Rattle.crl_run.specs.Making.{MayTake, HasTaken}
use Rattle.crl_run.specs.PlayerState.{PlayerState}
use Rattle.crl_run.specs.Playing.{player_of}
use Rattle.crl_world.specs.Seen.{world_seen}
use Rattle.crl_run.proofs.Choices.{some_safe, some_below, some_within, some_take, statement_done, short_there}
use Rattle.crl_run.proofs.choosing.choose_statement.Goals as goal

pub bounds-players-i : goal.bounds-players-i
bounds-players-i g c = some_below _ (world_seen g.N.Member.state c.args.world.now) c.args.players.now c.args.i c.requires.can

pub bounds-blocks-i : goal.bounds-blocks-i
bounds-blocks-i g c = subst (λ n. c.args.i < n) (sym c.requires.nodes) (some_below _ (world_seen g.N.Member.state c.args.world.now) c.args.players.now c.args.i c.requires.can)

pub bounds-players-i-2 : goal.bounds-players-i-2
bounds-players-i-2 g c = some_below _ (world_seen g.N.Member.state c.args.world.now) c.args.players.now c.args.i c.requires.can

pub statement-statement-requires : goal.statement-statement-requires
statement-statement-requires g c =
    let w = world_seen g.N.Member.state c.args.world.now in
    let below = some_below _ w c.args.players.now c.args.i c.requires.can in
    let listed = subst (λ n. c.args.i < n) (sym c.requires.nodes) below in
    let player = get_or_default c.args.players.now c.args.i (record { place = 0; guards = []; room = 0 }) c.index-players-i.result below in
    let block : block_of (map (λ b. b.items) c.args.blocks.now) c.args.i ≡ c.as_slice-statements.result.now =
    get_or-map (λ b. b.items) c.args.blocks.now c.args.i c.index-blocks-i.result [] listed ∙ ap (λ b. b.items) (sym c.index-blocks-i.is) ∙ sym c.as_slice-statements.ensures.value in
    subst (λ (p : PlayerState). p.place < length c.as_slice-statements.result.now) player
    (subst (λ (l : List Statement). (player_of c.args.players.now c.args.i).place < length l) block (some_within _ w c.args.players.now c.args.i c.requires.can))

pub take_statement-requires-clause-safe : goal.take_statement-requires-clause-safe
take_statement-requires-clause-safe g c = some_safe _ (world_seen g.N.Member.state c.args.world.now) c.args.players.now (choice.Statement c.args.i) c.requires.can c.requires.few

pub take_statement-requires-clause-place : goal.take_statement-requires-clause-place
take_statement-requires-clause-place g c =
    let w = world_seen g.N.Member.state c.args.world.now in
    let below = some_below _ w c.args.players.now c.args.i c.requires.can in
    let listed = subst (λ n. c.args.i < n) (sym c.requires.nodes) below in
    let second = get_or_default c.args.players.now c.args.i (record { place = 0; guards = []; room = 0 }) c.index-players-i-2.result below in
    let block : block_of (map (λ b. b.items) c.args.blocks.now) c.args.i ≡ c.as_slice-statements.result.now =
    get_or-map (λ b. b.items) c.args.blocks.now c.args.i c.index-blocks-i.result [] listed ∙ ap (λ b. b.items) (sym c.index-blocks-i.is) ∙ sym c.as_slice-statements.ensures.value in
    let within = subst (λ (p : PlayerState). p.place < length c.as_slice-statements.result.now) second
    (subst (λ (l : List Statement). (player_of c.args.players.now c.args.i).place < length l) block (some_within _ w c.args.players.now c.args.i c.requires.can)) in
    let short = c.as_slice-statements.type_inv.0 in
    omega arith

pub take_statement-requires-clause-short : goal.take_statement-requires-clause-short
take_statement-requires-clause-short g c =
    let w = world_seen g.N.Member.state c.args.world.now in
    let below = some_below _ w c.args.players.now c.args.i c.requires.can in
    let listed = subst (λ n. c.args.i < n) (sym c.requires.nodes) below in
    let block : block_of (map (λ b. b.items) c.args.blocks.now) c.args.i ≡ c.as_slice-statements.result.now =
    get_or-map (λ b. b.items) c.args.blocks.now c.args.i c.index-blocks-i.result [] listed ∙ ap (λ b. b.items) (sym c.index-blocks-i.is) ∙ sym c.as_slice-statements.ensures.value in
    let place = (get_or c.args.players.now c.args.i c.index-players-i.result).place in
    short_there (map (λ b. b.items) c.args.blocks.now) c.args.i place c.statement-statement.result.now _ c.requires.short
    (subst (λ n. c.args.i < n) (sym (length-map c.args.blocks.now (λ b. b.items))) listed)
    (ap (λ (l : List Statement). drop place l) block ∙ c.statement-statement.ensures)

pub take_statement-requires-clause-may : goal.take_statement-requires-clause-may
take_statement-requires-clause-may g c =
    let w = world_seen g.N.Member.state c.args.world.now in
    let below = some_below _ w c.args.players.now c.args.i c.requires.can in
    let listed = subst (λ n. c.args.i < n) (sym c.requires.nodes) below in
    let default : PlayerState = record { place = 0; guards = []; room = 0 } in
    let first = get_or_default c.args.players.now c.args.i c.index-players-i.result default below in
    let second = get_or_default c.args.players.now c.args.i default c.index-players-i-2.result below in
    let block : block_of (map (λ b. b.items) c.args.blocks.now) c.args.i ≡ c.as_slice-statements.result.now =
    get_or-map (λ b. b.items) c.args.blocks.now c.args.i c.index-blocks-i.result [] listed ∙ ap (λ b. b.items) (sym c.index-blocks-i.is) ∙ sym c.as_slice-statements.ensures.value in
    subst (λ (p : PlayerState). MayTake c.args.i c.statement-statement.result.now w p.guards) second
    (some_take _ w c.args.players.now c.args.i c.requires.can c.statement-statement.result.now
    (subst (λ (l : List Statement). drop (player_of c.args.players.now c.args.i).place l ≡ c.statement-statement.result.now ∷ drop (suc (player_of c.args.players.now c.args.i).place) l) (sym block)
    (subst (λ (p : PlayerState). drop p.place c.as_slice-statements.result.now ≡ c.statement-statement.result.now ∷ drop (suc p.place) c.as_slice-statements.result.now) first c.statement-statement.ensures)))

pub returns : goal.returns
returns g c =
    let w = world_seen g.N.Member.state c.args.world.now in
    let v = world_seen g.N.Member.state c.take_statement.new.world in
    let below = some_below _ w c.args.players.now c.args.i c.requires.can in
    let listed = subst (λ n. c.args.i < n) (sym c.requires.nodes) below in
    let default : PlayerState = record { place = 0; guards = []; room = 0 } in
    let first = get_or_default c.args.players.now c.args.i c.index-players-i.result default below in
    let second = get_or_default c.args.players.now c.args.i c.index-players-i-2.result default below in
    let block : block_of (map (λ b. b.items) c.args.blocks.now) c.args.i ≡ c.as_slice-statements.result.now =
    get_or-map (λ b. b.items) c.args.blocks.now c.args.i c.index-blocks-i.result [] listed ∙ ap (λ b. b.items) (sym c.index-blocks-i.is) ∙ sym c.as_slice-statements.ensures.value in
    let next = subst (λ (l : List Statement). drop (player_of c.args.players.now c.args.i).place l ≡ c.statement-statement.result.now ∷ drop (suc (player_of c.args.players.now c.args.i).place) l) (sym block)
    (subst (λ (p : PlayerState). drop p.place c.as_slice-statements.result.now ≡ c.statement-statement.result.now ∷ drop (suc p.place) c.as_slice-statements.result.now) first c.statement-statement.ensures) in
    on_ok_weaker c.take_statement.result
    (λ h. statement_done _ w c.args.players.now c.args.i c.statement-statement.result.now next v c.take_statement.new.player
    (subst (λ (p : PlayerState). HasTaken c.args.i c.statement-statement.result.now w v p c.take_statement.new.player) second h)) c.take_statement.ensures

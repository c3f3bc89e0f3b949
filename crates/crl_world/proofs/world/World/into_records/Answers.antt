use Rattle.std.proofs.Common.{◌≡◌, ◌++◌, List, [], length, map, sym, ap, ◌∙◌, arith}
use Rattle.std.proofs.lemmas.List.{append-nil, nil_from_length}
use Rattle.crl_model.specs.declared.journal.Recorded.{Recorded}
use Rattle.crl_protocol.specs.Node.{Node}
use Rattle.crl_journal.specs.Merging.{all_lists}
use Rattle.crl_world.specs.Members.{Members}
use Rattle.crl_world.proofs.Totals.{records_in}
use Rattle.crl_world.proofs.world.World.into_records.Goals as goal

pub returns : goal.returns
returns g c =
    let records : List g.row.N.Denot → List (List Recorded) = λ ms. map (λ (n : Node). n.records) (map g.N.Member.state ms) in
    let few : length c.loop-nodes.nodes.items ≡ 0 = grind arith in
    let none : c.loop-nodes.nodes.items ≡ [] = nil_from_length c.loop-nodes.nodes.items few in
    sym (append-nil (all_lists c.loop-nodes.lists.items)) ∙ ap (λ ms. all_lists c.loop-nodes.lists.items ++ records ms) (sym none) ∙ c.loop-nodes.invariant
    ∙ ap (λ (s : Members g.row.N.Denot). records s.nodes) c.self.view_is ∙ records_in c.args.self.capacity (map g.N.Member.state c.args.self.nodes)

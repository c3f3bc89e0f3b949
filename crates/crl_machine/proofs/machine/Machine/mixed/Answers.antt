use Rattle.std.proofs.Common.{◌≡◌, ◌∙◌, rules}
use Rattle.crl_machine.specs.Seen.{state}
use Rattle.crl_machine.proofs.States.{only_told}
use Rattle.crl_machine.proofs.machine.Machine.mixed.Goals as goal

pub returns : goal.returns
unfolding state
returns c =
    let kind : c.args.kind ≡ c.kind_in.result = search rules in
    record {
      legal = (c.if-not-is_full.ensures, c.if-not-is_mixed.ensures, kind ∙ c.kind_in.ensures);
      made = c.tell.ensures ∙ only_told (state c.args.self.now) c.args.node _;
    }

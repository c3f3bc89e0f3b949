use Rattle.crl_protocol.proofs.worked.refusals.Goals as goal
use Rattle.crl_protocol.proofs.Computed.Refusals.{section_rules, names_and_sizes, unreal_names}

pub returns : goal.returns
returns c = record {
  section_rules = section_rules;
  names_and_sizes = names_and_sizes;
  unreal_names = unreal_names;
}

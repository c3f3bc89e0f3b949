use Rattle.crl_protocol.proofs.worked.lines.Goals as goal
use Rattle.crl_protocol.proofs.Computed.Lines.{delete_by_another_lines}

pub returns : goal.returns
returns c = delete_by_another_lines

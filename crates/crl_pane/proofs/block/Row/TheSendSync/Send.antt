use denote.RattleType.{RattleType}
use denote.Param.Send.{IsSend}
use Rattle.crl_pane.proofs.Crosses.{Row-send}
use Rattle.crl_pane.specs.contracts.block.Row.{the_row}

pub send : (R : RattleType) → IsSend R → IsSend (the_row R)
send = Row-send

use denote.RattleType.{RattleType}
use denote.Param.Send.{IsSync}
use Rattle.crl_pane.proofs.Crosses.{Row-sync}
use Rattle.crl_pane.specs.contracts.block.Row.{the_row}

pub sync : (R : RattleType) → IsSync R → IsSync (the_row R)
sync = Row-sync

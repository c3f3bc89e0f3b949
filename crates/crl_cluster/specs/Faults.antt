-- Why an event was not done, by why it was not appended.
use Rattle.crl_turns.specs.declared.faults.AppendFault.{AppendFault}
use Rattle.crl_turns.specs.declared.faults.AppendFault.TheVariants as append
use Rattle.crl_cluster.specs.declared.faults.StepFault.{StepFault}
use Rattle.crl_cluster.specs.declared.faults.StepFault.TheVariants as fault

abbrev pub fault_of : AppendFault → StepFault
fault_of (append.Moved saw found) = fault.Moved saw found
fault_of append.Spent = fault.Spent

-- A fault of reading as one of judging.
use Rattle.crl_account_reader.specs.declared.fault.AccountFault.{AccountFault}
use Rattle.crl_account_reader.specs.declared.fault.AccountFault.TheVariants as account_faults
use Rattle.crl_check.specs.declared.fault.CheckFault.{CheckFault}
use Rattle.crl_check.specs.declared.fault.CheckFault.TheVariants as faults

abbrev pub fault_of : AccountFault → CheckFault
fault_of (account_faults.BadLine line) = faults.BadLine line
fault_of account_faults.OutOfMemory = faults.OutOfMemory

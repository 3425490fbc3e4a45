-- The texts of faults, as they are printed. This project's rules.
use Rattle.std.specs.Prelude.{ℕ, List, codes}
use Rattle.cb_client.specs.declared.client_fault.ClientFault.{ClientFault}
use Rattle.cb_client.specs.declared.client_fault.ClientFault.TheVariants as fault

-- the number and the name of a client's fault
abbrev pub fault_text : ClientFault → List ℕ
fault_text fault.NotWelcome = codes "1 NotWelcome"
fault_text fault.NoTransaction = codes "2 NoTransaction"
fault_text fault.TransactionOpen = codes "3 TransactionOpen"
fault_text fault.Committing = codes "4 Committing"
fault_text fault.Waiting = codes "5 Waiting"
fault_text fault.PageRange = codes "6 PageRange"
fault_text fault.NotRead = codes "7 NotRead"
fault_text fault.NotHere = codes "8 NotHere"
fault_text fault.NotWritable = codes "9 NotWritable"
fault_text fault.WrongLength = codes "10 WrongLength"
fault_text fault.PoolFull = codes "11 PoolFull"
fault_text fault.Exhausted = codes "12 Exhausted"
fault_text fault.Memory = codes "13 Memory"

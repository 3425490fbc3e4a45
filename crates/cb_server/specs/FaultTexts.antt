-- The texts of faults, as they are printed. This project's rules.
use Rattle.std.specs.Prelude.{ℕ, List, codes}
use Rattle.cb_server.specs.declared.server_fault.ServerFault.{ServerFault}
use Rattle.cb_server.specs.declared.server_fault.ServerFault.TheVariants as fault

-- the number and the name of a server's fault
abbrev pub fault_text : ServerFault → List ℕ
fault_text fault.Exhausted = codes "1 Exhausted"
fault_text fault.Memory = codes "2 Memory"

-- The texts of faults, as they are printed. This project's rules.
use Rattle.std.specs.Prelude.{ℕ, List, codes}
use Rattle.cb_worker.specs.declared.worker_fault.WorkerFault.{WorkerFault}
use Rattle.cb_worker.specs.declared.worker_fault.WorkerFault.TheVariants as fault

-- the number and the name of a worker's fault
abbrev pub fault_text : WorkerFault → List ℕ
fault_text (fault.Client _) = codes "1 Client"
fault_text (fault.Office _) = codes "2 Office"
fault_text fault.Halted = codes "3 Halted"

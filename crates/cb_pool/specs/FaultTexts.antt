-- The texts of faults, as they are printed. This project's rules.
use Rattle.std.specs.Prelude.{ℕ, List, codes}
use Rattle.cb_pool.specs.declared.pool.PoolFault.{PoolFault}
use Rattle.cb_pool.specs.declared.pool.PoolFault.TheVariants as fault

-- the number and the name of a pool's fault
abbrev pub fault_text : PoolFault → List ℕ
fault_text fault.Full = codes "1 Full"
fault_text fault.Memory = codes "2 Memory"

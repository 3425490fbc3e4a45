-- A chooser's refusal as the pool's.
use Rattle.cb_twoq.specs.declared.chooser.ChooseFault.{ChooseFault}
use Rattle.cb_twoq.specs.declared.chooser.ChooseFault.TheVariants as choose_fault
use Rattle.cb_pool.specs.declared.pool.PoolFault.{PoolFault}
use Rattle.cb_pool.specs.declared.pool.PoolFault.TheVariants as fault

-- the fault of the same name
abbrev pub fault_of : ChooseFault → PoolFault
fault_of choose_fault.Full = fault.Full
fault_of choose_fault.Memory = fault.Memory

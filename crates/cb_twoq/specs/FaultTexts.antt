-- The texts of faults, as they are printed. This project's rules.
use Rattle.std.specs.Prelude.{ℕ, List, codes}
use Rattle.cb_twoq.specs.declared.chooser.ChooseFault.{ChooseFault}
use Rattle.cb_twoq.specs.declared.chooser.ChooseFault.TheVariants as fault

-- the number and the name of a chooser's fault
abbrev pub fault_text : ChooseFault → List ℕ
fault_text fault.Full = codes "1 Full"
fault_text fault.Memory = codes "2 Memory"

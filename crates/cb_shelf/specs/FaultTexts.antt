-- The texts of faults, as they are printed. This project's rules.
use Rattle.std.specs.Prelude.{ℕ, List, codes}
use Rattle.cb_shelf.specs.declared.fault.ShelfFault.{ShelfFault}
use Rattle.cb_shelf.specs.declared.fault.ShelfFault.TheVariants as fault

-- the number and the name of a shelf's fault
abbrev pub fault_text : ShelfFault → List ℕ
fault_text fault.Shape = codes "1 Shape"
fault_text fault.Store = codes "2 Store"
fault_text fault.Memory = codes "3 Memory"

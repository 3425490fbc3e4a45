-- The texts of faults, as they are printed. This project's rules.
use Rattle.std.specs.Prelude.{ℕ, List, codes}
use Rattle.cb_office.specs.declared.tally.TallyFault.{TallyFault}
use Rattle.cb_office.specs.declared.tally.TallyFault.TheVariants as fault

-- the number and the name of a tally's fault
abbrev pub fault_text : TallyFault → List ℕ
fault_text fault.Double = codes "1 Double"
fault_text fault.Stranger = codes "2 Stranger"

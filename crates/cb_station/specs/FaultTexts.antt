-- The texts of faults, as they are printed. This project's rules.
use Rattle.std.specs.Prelude.{ℕ, List, codes}
use Rattle.cb_station.specs.declared.office_fault.OfficeFault.{OfficeFault}
use Rattle.cb_station.specs.declared.office_fault.OfficeFault.TheVariants as fault

-- the number and the name of a station's fault
abbrev pub fault_text : OfficeFault → List ℕ
fault_text fault.Foreign = codes "1 Foreign"
fault_text fault.NotHeld = codes "2 NotHeld"
fault_text fault.NotLive = codes "3 NotLive"
fault_text fault.Joined = codes "4 Joined"
fault_text fault.Old = codes "5 Old"
fault_text fault.Exhausted = codes "6 Exhausted"
fault_text fault.Memory = codes "7 Memory"

-- What is printed of a text that is no schedule. This project's words.
use Rattle.std.specs.Prelude.{ℕ, List, ◌++◌, codes}
use Rattle.std.specs.Fmt.{decimal}
use Rattle.cb_transcript.specs.declared.text.ScheduleFault.{ScheduleFault}
use Rattle.cb_transcript.specs.declared.text.ScheduleFault.TheVariants as fault

-- the line of a faulty line of a schedule: its number, and the fault's name
abbrev pub faulty_line : ℕ → List ℕ → List ℕ
faulty_line line name = codes "schedule line " ++ (decimal line ++ (codes ": " ++ name))

-- the line of a fault
abbrev pub fault_text : ScheduleFault → List ℕ
fault_text (fault.NotText line) = faulty_line line (codes "NotText")
fault_text (fault.Word line) = faulty_line line (codes "Word")
fault_text (fault.Count line) = faulty_line line (codes "Count")
fault_text (fault.Number line) = faulty_line line (codes "Number")
fault_text (fault.Range line) = faulty_line line (codes "Range")
fault_text (fault.Long line) = faulty_line line (codes "Long")
fault_text fault.Memory = codes "memory"

-- What is said of a service that ends before its input does, and the status.
use Rattle.std.specs.Prelude.{◌≡◌, ◌==◌, ℕ, List, [], ◌∷◌, ◌++◌, codes, if◌then◌else◌}
use Rattle.std.specs.Prelude.{Option, Result, Ok, Err}
use Rattle.std.specs.Fmt.{decimal}
use Rattle.std.specs.IoError.{error_kind}
use Rattle.std.specs.Io.KnownBytes.{Appends}
use Rattle.cb_server.specs.declared.server_fault.ServerFault.{ServerFault}
use Rattle.cb_server.specs.declared.server_fault.ServerFault.TheVariants as server
use Rattle.cb_shelf.specs.declared.fault.ShelfFault.{ShelfFault}
use Rattle.cb_shelf.specs.declared.fault.ShelfFault.TheVariants as shelf
use Rattle.cb_serve.specs.Calls.{lacks_memory}
use Rattle.cb_serve.specs.declared.calls.RefusedCall.{RefusedCall}
use Rattle.cb_serve.specs.declared.fault.RoundFault.{RoundFault}
use Rattle.cb_serve.specs.declared.fault.RoundFault.TheVariants as round
use Rattle.cb_serve.specs.declared.fault.ServeFault.{ServeFault}
use Rattle.cb_serve.specs.declared.fault.ServeFault.TheVariants as fault

-- what a fault of the server, and of the tables, is to a round
abbrev pub becomes_of_server : ServerFault → RoundFault
becomes_of_server server.Exhausted = round.Exhausted
becomes_of_server server.Memory = round.Memory

abbrev pub becomes_of_shelf : ShelfFault → RoundFault
becomes_of_shelf shelf.Shape = round.Shape
becomes_of_shelf shelf.Store = round.Store
becomes_of_shelf shelf.Memory = round.Memory

-- the line and the status of an input that couldn't be read, or for want of memory
abbrev pub input_line : RefusedCall → List ℕ
input_line refusal =
    if lacks_memory (error_kind refusal.error) then codes "memory" else codes "input: cannot read"

abbrev pub input_status : RefusedCall → ℕ
input_status refusal = if lacks_memory (error_kind refusal.error) then 4 else 3

-- the line and the status of a round that wasn't finished
abbrev pub round_line : RoundFault → List ℕ
round_line round.Shape = codes "store: Shape"
round_line round.Store = codes "store: Store"
round_line round.Exhausted = codes "store: Exhausted"
round_line (round.Input refusal) = input_line refusal
round_line (round.Output refusal) = codes "cannot write"
round_line round.Memory = codes "memory"

abbrev pub round_status : RoundFault → ℕ
round_status (round.Input refusal) = input_status refusal
round_status (round.Output refusal) = 5
round_status round.Memory = 4
round_status _ = 3

-- so of any fault
abbrev pub line_of : ServeFault → List ℕ
line_of fault.NoFrame = codes "input: no frame"
line_of fault.Cut = codes "input: frame cut"
line_of fault.Endless = codes "input: cannot read"
line_of (fault.Round f) = round_line f

abbrev pub status_of : ServeFault → ℕ
status_of fault.NoFrame = 3
status_of fault.Cut = 3
status_of fault.Endless = 3
status_of (fault.Round f) = round_status f

-- how many frames were passed over, if any were
abbrev pub passed_line : ℕ → List ℕ
passed_line count =
    if count == 0 then [] else codes "passed over " ++ decimal count ++ 10 ∷ []

-- The line of a fault is said, with its status. An output that can't be written is no such end:
-- its error is handed on, and the program says that line and has that status.
abbrev pub PrintsFault : ServeFault → (status : ℕ) → (old new : Option (List ℕ)) → Type 0
PrintsFault f status old new =
    (status ≡ status_of f) × Appends old new (line_of f ++ 10 ∷ [])

-- so of an ending, behind what was passed over
abbrev pub PrintsEnding : {E : Type 0} → ℕ → Result E ServeFault → (status : ℕ)
    → (old new : Option (List ℕ)) → Type 0
PrintsEnding passed (Ok _) status old new = (status ≡ 0) × Appends old new (passed_line passed)
PrintsEnding passed (Err f) status old new = (status ≡ status_of f)
    × Appends old new (passed_line passed ++ (line_of f ++ 10 ∷ []))

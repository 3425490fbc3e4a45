-- How the program ends. This project's rules.
use Rattle.std.specs.Prelude.{◌≡◌, ◌≢◌, ◌⊎◌, ℕ}
use Rattle.std.specs.declared.io.ErrorKind.{ErrorKind}
use Rattle.std.specs.declared.io.ErrorKind.TheVariants as kind

-- what was asked for is done: everything; the serial check said no; wrong words or texts; the store
-- or a worker refused; no memory
abbrev pub IsAnswered : ℕ → Type 0
IsAnswered status = (status ≡ 0) ⊎ (status ≡ 1) ⊎ (status ≡ 2) ⊎ (status ≡ 3) ⊎ (status ≡ 4)

-- the same, or a writer failed
abbrev pub IsStatus : ℕ → Type 0
IsStatus status = IsAnswered status ⊎ (status ≡ 5)

-- what a failure makes of the status: 4 for want of memory, else a writer failed
abbrev pub IsFailed : ErrorKind → ℕ → Type 0
IsFailed e status =
    (e ≡ kind.OutOfMemory → status ≡ 4) × (e ≢ kind.OutOfMemory → status ≡ 5)

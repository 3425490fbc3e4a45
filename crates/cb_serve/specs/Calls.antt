-- Calls of a service's input and output, and why they are refused. This project's rules.
use Rattle.std.specs.Prelude.{◌≡◌, ◌≢◌, ◌⊎◌, ◌≤◌, ◌<◌, ◌-◌, ◌^◌, ℕ, List, length, take}
use Rattle.std.specs.Prelude.{Bool, true, false, Option, Some, None}
use Rattle.std.specs.IoError.{error_kind}
use Rattle.std.specs.Io.KnownBytes.{Consumes, IsAtEnd}
use Rattle.std.specs.declared.io.ErrorKind.{ErrorKind}
use Rattle.std.specs.declared.io.ErrorKind.TheVariants.{Interrupted, OutOfMemory}
use Rattle.cb_serve.specs.declared.calls.RefusedCall.{RefusedCall}

-- no signal interrupted the call, so it isn't made again; or as many calls in a row were
-- interrupted as 64 bits can count
abbrev pub IsFinal : RefusedCall → Type 0
IsFinal refusal = (error_kind refusal.error ≢ Interrupted) ⊎ (refusal.calls ≡ 2 ^ 64 - 1)

-- a signal interrupted the call, which is made again
pub record IsPassing (refusal : RefusedCall) : Type 0 where
  pub interrupted : error_kind refusal.error ≡ Interrupted
  pub few : refusal.calls < 2 ^ 64 - 1

-- how many calls in a row were refused so far
abbrev pub calls_of : Option RefusedCall → ℕ
calls_of (Some refusal) = refusal.calls
calls_of None = 0

-- whether an error is want of memory
abbrev pub lacks_memory : ErrorKind → Bool
lacks_memory OutOfMemory = true
lacks_memory _ = false

-- So many bytes were read, and lie in the room; none where the input has ended.
pub record Reads (old_in new_in : Option (List ℕ)) (count : ℕ) (room : List ℕ) : Type 0 where
  pub within : count ≤ length room
  pub consumes : Consumes old_in new_in (take count room)
  pub ends : count ≡ 0 → IsAtEnd new_in

-- What holds at each turn of the loop of `read_some`.
use Rattle.std.proofs.Common.{◌≡◌, ◌-◌, ◌^◌, IfSome, [], length}
use Rattle.std.specs.Io.KnownBytes.{Consumes}
use Rattle.cb_serve.specs.Calls.{IsPassing, calls_of}
use Rattle.cb_serve.proofs.calls.read_some.Given as goal

-- calls were interrupted, and gave nothing
abbrev pub invariant-loop-count : goal.invariant-loop-count
invariant-loop-count g l = IfSome l.before IsPassing × (length l.room ≡ length l.initial.room)
    × Consumes (g.R.Read.remaining l.initial.input) (g.R.Read.remaining l.input) []

abbrev pub decreases-loop-count : goal.decreases-loop-count
decreases-loop-count g l = (2 ^ 64 - 1) - calls_of l.before

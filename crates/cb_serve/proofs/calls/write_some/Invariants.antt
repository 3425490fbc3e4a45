-- What holds at each turn of the loop of `write_some`.
use Rattle.std.proofs.Common.{◌≡◌, ◌-◌, ◌^◌, IfSome, []}
use Rattle.std.specs.Io.KnownBytes.{Appends}
use Rattle.cb_serve.specs.Calls.{IsPassing, calls_of}
use Rattle.cb_serve.proofs.calls.write_some.Given as goal

-- calls were interrupted, and took nothing
abbrev pub invariant-loop-count : goal.invariant-loop-count
invariant-loop-count g l = IfSome l.before IsPassing × Appends (g.W.Write.contents l.initial.output) (g.W.Write.contents l.output) []

abbrev pub decreases-loop-count : goal.decreases-loop-count
decreases-loop-count g l = (2 ^ 64 - 1) - calls_of l.before

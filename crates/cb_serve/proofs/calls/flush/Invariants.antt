-- What holds at each turn of the loop of `flush`.
use Rattle.std.proofs.Common.{◌≡◌, ◌-◌, ◌^◌, IfSome, []}
use Rattle.std.specs.Io.KnownBytes.{Appends}
use Rattle.cb_serve.specs.Calls.{IsPassing, calls_of}
use Rattle.cb_serve.proofs.calls.flush.Given as goal

-- calls were interrupted
abbrev pub invariant-loop-refused : goal.invariant-loop-refused
invariant-loop-refused g l = IfSome l.before IsPassing × Appends (g.W.Write.contents l.initial.output) (g.W.Write.contents l.output) []

abbrev pub decreases-loop-refused : goal.decreases-loop-refused
decreases-loop-refused g l = (2 ^ 64 - 1) - calls_of l.before

-- What holds at each turn of the loop of `take_all`.
use Rattle.std.proofs.Common.{◌-◌, length}
use Rattle.cb_server.specs.Knowing.{KnowsBelow}
use Rattle.cb_server.specs.ServerValue.{server_of}
use Rattle.cb_serve.proofs.Pieces.{SoFar}
use Rattle.cb_serve.proofs.taking.take_all.Given as goal

-- the pieces so far were taken, and nobody from the end on became known by them
abbrev pub invariant-loop-step : goal.invariant-loop-step
invariant-loop-step l = SoFar l.initial.server l.bytes l.initial.said.items l.said.items l.used l.initial.passed_over l.passed_over l.server
    × (KnowsBelow (server_of l.initial.server) l.end → KnowsBelow (server_of l.server) l.end)

abbrev pub decreases-loop-step : goal.decreases-loop-step
decreases-loop-step l = length l.bytes - l.used

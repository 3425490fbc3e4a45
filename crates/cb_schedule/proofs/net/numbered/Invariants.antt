-- What holds at each turn of the loops of `numbered`.
use Rattle.std.proofs.Common.{◌≡◌, take}
use Rattle.cb_schedule.specs.NetMoves.{sent_as}
use Rattle.cb_schedule.proofs.net.numbered.Given as goal

abbrev pub invariant-loop-index : goal.invariant-loop-index
invariant-loop-index l = l.list.items ≡ sent_as l.first (take l.index l.frames)

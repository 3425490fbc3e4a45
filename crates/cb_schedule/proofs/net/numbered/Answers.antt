-- Goals of `numbered`.
use Rattle.std.proofs.Common.{rules}
use Rattle.cb_schedule.proofs.Packing.{numbered_more}
use Rattle.cb_schedule.proofs.net.numbered.Goals as goal

pub loop-index-preserved : goal.loop-index-preserved
loop-index-preserved c = numbered_more _ c.loop-index.index c.args.frames.now c.index-frames-index.result c.loop-index.list.items _ c.loop-index-test.true c.index-frames-index.is c.loop-index.invariant (search rules)

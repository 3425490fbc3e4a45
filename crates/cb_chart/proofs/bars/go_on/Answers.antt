-- Goals of `go_on`.
use Rattle.cb_chart.proofs.Growing.{still_bars_at}
use Rattle.cb_chart.proofs.bars.go_on.Goals as goal

pub returns : goal.returns
returns c sights at are = still_bars_at sights c.args.copies.now c.args.event c.args.bars.now c.in_ok-longer.longer.items c.begin.new.bars.items at c.in_ok-longer.ensures c.in_ok-begin.ensures are

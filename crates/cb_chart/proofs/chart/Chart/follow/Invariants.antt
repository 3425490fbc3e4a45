-- What holds at each turn of the loops of `Chart::follow`.
use Rattle.std.proofs.Common.{[], take}
use Rattle.cb_chart.specs.Charts.{Shows}
use Rattle.cb_page.specs.Bounds.{Bounds}
use Rattle.cb_chart.proofs.chart.Chart.follow.Given as goal

-- the chart shows the events so far
abbrev pub invariant-loop-index : goal.invariant-loop-index
invariant-loop-index l = (limits : Bounds) → Shows limits [] l.initial.self → Shows limits (take l.index l.events) l.self

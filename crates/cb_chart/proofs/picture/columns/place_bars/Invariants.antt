-- What holds at each turn of the loops of `place_bars`.
use Rattle.std.proofs.Common.{◌≡◌, map, take}
use Rattle.cb_chart.proofs.picture.columns.place_bars.Given as goal

-- the bars so far are placed
abbrev pub invariant-loop-bar : goal.invariant-loop-bar
invariant-loop-bar l = map (λ one. one.bar) l.placed.items ≡ take l.bar-index l.bars

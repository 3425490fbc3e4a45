-- What holds at each turn of the loops of `draw_all`.
use Rattle.std.proofs.Common.{◌≡◌, length}
use Rattle.cb_schedule.proofs.Drawing.{DrawnTo}
use Rattle.cb_schedule.proofs.schedule.draw_all.Given as goal

abbrev pub invariant-loop-drawn : goal.invariant-loop-drawn
invariant-loop-drawn l = record {
  as_many : length l.events.items ≡ l._drawn;
  so_far : DrawnTo l.fn.drawing l.fn.world l.events.items l.drawing l.world;
}

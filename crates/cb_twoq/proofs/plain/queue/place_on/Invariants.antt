-- What holds at each turn of the loops of `place_on`.
use Rattle.std.proofs.Common.{◌≡◌, ◌++◌, take, drop}
use Rattle.cb_twoq.specs.Pages.{has, without}
use Rattle.cb_twoq.proofs.plain.queue.place_on.Given as goal

abbrev pub invariant-loop-i : goal.invariant-loop-i
invariant-loop-i l = (has (drop l.i l.pages.items) l.page ≡ has l.pages.items l.page) × (take l.i l.pages.items ++ without l.page (drop l.i l.pages.items) ≡ without l.page l.pages.items)

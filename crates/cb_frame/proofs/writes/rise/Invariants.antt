-- What holds at each turn of the loops of `rise`.
use Rattle.std.proofs.Common.{◌↔◌, drop, map}
use Rattle.cb_page.specs.Rising.{RisesFrom, IsRising}
use Rattle.cb_frame.specs.Grammar.{page_of}
use Rattle.cb_frame.proofs.writes.rise.Given as goal

-- what is left decides
abbrev pub invariant-loop-write : goal.invariant-loop-write
invariant-loop-write l = RisesFrom l.least (map page_of (drop l.write-index l.writes)) ↔ IsRising (map page_of l.writes)

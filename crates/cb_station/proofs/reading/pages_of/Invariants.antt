-- What holds at each turn of the loops of `pages_of`.
use Rattle.std.proofs.Common.{◌≡◌, map, take}
use Rattle.cb_frame.specs.Grammar.{page_of}
use Rattle.cb_station.proofs.reading.pages_of.Given as goal

abbrev pub invariant-loop-write : goal.invariant-loop-write
invariant-loop-write l = l.pages.items ≡ map page_of (take l.write-index l.writes)

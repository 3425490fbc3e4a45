-- What holds at each turn of the loops of `Copies::clear`.
use Rattle.std.proofs.Common.{◌≡◌, length}
use Rattle.std.specs.List.{count_by}
use Rattle.std.specs.Option.{is_some}
use Rattle.cb_hands.proofs.copies.Copies.clear.Given as goal

abbrev pub invariant-loop-page : goal.invariant-loop-page
invariant-loop-page l = length l.self ≡ length l.initial.self

abbrev pub decreases-loop-page : goal.decreases-loop-page
decreases-loop-page l = count_by is_some l.self

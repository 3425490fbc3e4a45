-- Goals of `Copies::clear`.
use Rattle.cb_hands.proofs.Packing.{none_left}
use Rattle.cb_hands.proofs.copies.Copies.clear.Goals as goal

pub returns : goal.returns
returns c = none_left _ _ c.loop-page.invariant c.in_default.ensures

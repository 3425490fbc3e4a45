-- Goals of `an_ask_sends_at_most_one`.
use Rattle.cb_callbacks.proofs.Bounds.{entering_bounded}
use Rattle.cb_callbacks.proofs.laws.an_ask_sends_at_most_one.Goals as goal

pub returns : goal.returns
returns c = entering_bounded

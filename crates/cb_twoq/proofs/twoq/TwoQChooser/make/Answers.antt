-- Goals of `TwoQChooser::make`.
use Rattle.std.proofs.Common.{rules}
use Rattle.cb_twoq.proofs.twoq.TwoQChooser.make.Goals as goal

pub returns-clause-two_q : goal.returns-clause-two_q
returns-clause-two_q c = search rules

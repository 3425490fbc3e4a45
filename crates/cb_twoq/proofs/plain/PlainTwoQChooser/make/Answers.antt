-- Goals of `PlainTwoQChooser::make`.
use Rattle.std.proofs.Common.{rules}
use Rattle.cb_twoq.proofs.plain.PlainTwoQChooser.make.Goals as goal

pub returns-clause-two_q : goal.returns-clause-two_q
returns-clause-two_q c = search rules

-- Goals of `Outbox::take`.
use Rattle.std.proofs.Common.{rules}
use Rattle.cb_outbox.proofs.outbox.Outbox.take.Goals as goal

pub returns : goal.returns
returns c = search rules

-- Goals of `callback_read`.
use Rattle.cb_protocol.proofs.HeadlineProof.{headline}
use Rattle.cb_protocol.proofs.callback_read.Goals as goal

pub returns : goal.returns
returns c = record { promise = headline }

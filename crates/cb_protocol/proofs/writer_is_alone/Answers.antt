-- Goals of `writer_is_alone`.
use Rattle.cb_protocol.proofs.Laws.{writer_alone}
use Rattle.cb_protocol.proofs.writer_is_alone.Goals as goal

pub returns : goal.returns
returns c = record { law = writer_alone }

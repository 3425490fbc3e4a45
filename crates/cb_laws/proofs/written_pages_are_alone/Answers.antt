-- Goals of `written_pages_are_alone`.
use Rattle.cb_laws.proofs.LastWrites.{last_writes_stand}
use Rattle.cb_laws.proofs.WrittenPages.{pages_written, writes_on_their_way}
use Rattle.cb_laws.proofs.written_pages_are_alone.Goals as goal

pub returns : goal.returns
returns c = record { law = pages_written; on_their_way = writes_on_their_way; stands = last_writes_stand }

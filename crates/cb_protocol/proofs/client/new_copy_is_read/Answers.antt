-- Goals of `new_copy_is_read`.
use Rattle.cb_protocol.proofs.PagesStay.{new_copy_is_read}
use Rattle.cb_protocol.proofs.client.new_copy_is_read.Goals as goal

pub returns : goal.returns
returns c = record { law = new_copy_is_read }

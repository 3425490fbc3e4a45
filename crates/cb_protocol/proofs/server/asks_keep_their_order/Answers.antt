-- Goals of `asks_keep_their_order`.
use Rattle.cb_protocol.proofs.AskOrder.{asks_in_order}
use Rattle.cb_protocol.proofs.server.asks_keep_their_order.Goals as goal

pub returns : goal.returns
returns c = record { law = asks_in_order }

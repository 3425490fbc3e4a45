-- Goals of `messages_in_range`.
use Rattle.cb_protocol.proofs.ServerRangesKept.{server_messages_in_range}
use Rattle.cb_protocol.proofs.ClientRanges.{client_messages_in_range}
use Rattle.cb_protocol.proofs.alone.messages_in_range.Goals as goal

pub returns : goal.returns
returns c = record { client = client_messages_in_range; server = server_messages_in_range }

-- Goals of `messages_are_bounded`.
use Rattle.cb_protocol.proofs.MessagesSent.{settling_sends_at_most, step_sends_at_most}
use Rattle.cb_protocol.proofs.numbers.messages_are_bounded.Goals as goal

pub returns : goal.returns
returns c = record { settling = settling_sends_at_most; step = step_sends_at_most }

-- Goals of `rules_hold_under_any_messages`.
use Rattle.cb_protocol.proofs.LedgerKept.{holds_always}
use Rattle.cb_protocol.proofs.rules_hold_under_any_messages.Goals as goal

pub returns : goal.returns
returns c = record { law = holds_always }

-- What holds at each turn of the loops of `Mailboxes::make_ready`.
use Rattle.std.proofs.Common.{length}
use Rattle.cb_mailboxes.specs.Mailboxes.{AsBefore, current_in}
use Rattle.cb_server_state.specs.States.{server_of}
use Rattle.cb_mailboxes.proofs.mailboxes.Mailboxes.make_ready.Given as goal

abbrev pub invariant-loop : goal.invariant-loop
invariant-loop l = AsBefore (current_in (server_of l.state)) l.initial.self l.self

abbrev pub decreases-loop : goal.decreases-loop
decreases-loop l = length l.self.late

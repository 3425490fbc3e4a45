-- What holds at each turn of the loops of `clients_of`.
use Rattle.std.proofs.Common.{◌≡◌, ℕ, take}
use Rattle.cb_mailboxes.specs.Mailboxes.{is_said_to}
use Rattle.cb_page.specs.Clients.{has}
use Rattle.cb_mailboxes.proofs.mailboxes.clients_of.Given as goal

-- to whom the frames so far are
abbrev pub invariant-loop-frame : goal.invariant-loop-frame
invariant-loop-frame l = (client : ℕ) → has l.clients client ≡ is_said_to client (take l.frame-index l.frames)

-- What holds at each turn of the loops of `everybody`.
use Rattle.std.proofs.Common.{◌≡◌, ◌<◌, ℕ, true}
use Rattle.cb_page.specs.Clients.{has}
use Rattle.cb_mailboxes.proofs.mailboxes.everybody.Given as goal

-- those so far are in
abbrev pub invariant-loop-client : goal.invariant-loop-client
invariant-loop-client l = (other : ℕ) → other < l.client → has l.clients other ≡ true

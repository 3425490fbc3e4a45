-- What holds at each turn of the loops of `empty_mailboxes`.
use Rattle.std.proofs.Common.{◌≡◌, [], replicate}
use Rattle.cb_mailboxes.proofs.mailboxes.empty_mailboxes.Given as goal

abbrev pub invariant-loop-client : goal.invariant-loop-client
invariant-loop-client l = l.mailboxes.items ≡ replicate l._client []

-- Goals of `empty_mailboxes`.
use Rattle.std.proofs.Common.{rules}
use Rattle.cb_mailboxes.proofs.mailboxes.empty_mailboxes.Goals as goal

pub returns : goal.returns
returns c = search rules

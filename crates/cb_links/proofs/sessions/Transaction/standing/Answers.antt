-- Goals of `Transaction::standing`.
use Rattle.std.proofs.Common.{rules}
use Rattle.cb_links.proofs.sessions.Transaction.standing.Goals as goal

pub returns-then-is_doomed : goal.returns-then-is_doomed
returns-then-is_doomed c = search rules

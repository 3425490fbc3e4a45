-- Goals of `Sessions::admit`.
use Rattle.std.proofs.Common.{rules}
use Rattle.cb_links.proofs.sessions.Sessions.admit.Goals as goal

pub returns-then-lt : goal.returns-then-lt
returns-then-lt c = search rules

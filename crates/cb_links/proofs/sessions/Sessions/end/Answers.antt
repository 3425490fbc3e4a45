-- Goals of `Sessions::end`.
use Rattle.std.proofs.Common.{rules}
use Rattle.cb_links.proofs.sessions.Sessions.end.Goals as goal

pub returns : goal.returns
returns c = search rules

-- Goals of `Sessions::begin`.
use Rattle.std.proofs.Common.{rules}
use Rattle.cb_links.proofs.sessions.Sessions.begin.Goals as goal

pub returns : goal.returns
returns c = search rules

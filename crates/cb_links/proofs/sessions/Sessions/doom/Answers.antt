-- Goals of `Sessions::doom`.
use Rattle.std.proofs.Common.{rules}
use Rattle.cb_links.proofs.sessions.Sessions.doom.Goals as goal

pub returns : goal.returns
returns c = search rules

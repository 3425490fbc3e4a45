-- Goals of `Sessions::new`.
use Rattle.std.proofs.Common.{rules}
use Rattle.cb_links.proofs.sessions.Sessions.new.Goals as goal

pub returns : goal.returns
returns c = search rules

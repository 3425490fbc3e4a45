-- Goals of `Sessions::hello`.
use Rattle.std.proofs.Common.{rules}
use Rattle.cb_links.proofs.sessions.Sessions.hello.Goals as goal

pub returns : goal.returns
returns c = search rules

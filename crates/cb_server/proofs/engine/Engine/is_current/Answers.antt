-- Goals of `Engine::is_current`.
use Rattle.std.proofs.Common.{rules}
use Rattle.cb_server.proofs.engine.Engine.is_current.Goals as goal

pub returns : goal.returns
returns c = search rules

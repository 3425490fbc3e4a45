-- Goals of `Engine::is_exhausted_by`.
use Rattle.std.proofs.Common.{rules}
use Rattle.cb_server.proofs.engine.Engine.is_exhausted_by.Goals as goal

pub returns-then-is_current : goal.returns-then-is_current
returns-then-is_current c = search rules

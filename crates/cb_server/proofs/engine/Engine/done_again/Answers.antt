-- Goals of `Engine::done_again`.
use Rattle.std.proofs.Common.{rules}
use Rattle.cb_server.proofs.engine.Engine.done_again.Goals as goal

pub returns-then-get-last_flushed : goal.returns-then-get-last_flushed
returns-then-get-last_flushed c = search rules

-- Goals of `Engine::ask_to_write`.
use Rattle.std.proofs.Common.{rules}
use Rattle.cb_server.proofs.engine.Engine.ask_to_write.Goals as goal

pub returns-else-is_write_holder : goal.returns-else-is_write_holder
returns-else-is_write_holder c = search rules

-- Goals of `Begun::lives`.
use Rattle.std.proofs.Common.{rules}
use Rattle.cb_server.proofs.engine.answers.Begun.lives.Goals as goal

pub returns-in-Ended : goal.returns-in-Ended
returns-in-Ended c = search rules

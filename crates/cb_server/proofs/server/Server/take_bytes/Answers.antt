-- Goals of `Server::take_bytes`.
use Rattle.std.proofs.Common.{rules}
use Rattle.cb_server.proofs.server.Server.take_bytes.Goals as goal

pub returns-in-Ok-take_owned-clause-ok : goal.returns-in-Ok-take_owned-clause-ok
returns-in-Ok-take_owned-clause-ok c = search rules

pub returns-in-Err-take_owned-clause-memory : goal.returns-in-Err-take_owned-clause-memory
returns-in-Err-take_owned-clause-memory c = λ plain same. absurd cc

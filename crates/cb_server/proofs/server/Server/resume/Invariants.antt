-- What holds at each turn of the loops of `Server::resume`.
use Rattle.cb_server.proofs.Resuming.{HasGreeted}
use Rattle.cb_server.proofs.server.Server.resume.Given as goal

-- the clients before this one have greeted it
abbrev pub invariant-loop-client : goal.invariant-loop-client
invariant-loop-client l = HasGreeted l.limits l.fn.store l.floor l.client l.server

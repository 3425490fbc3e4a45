-- Goals of `Server::forget`.
use Rattle.std.proofs.Common.{rules}
use Rattle.cb_server.proofs.Serving.{arises_forgotten}
use Rattle.cb_server.proofs.server.Server.forget.Goals as goal

pub invariant_of-self : goal.invariant_of-self
invariant_of-self c = rw c.forget.ensures (record {
  is = arises_forgotten (record { limits = c.self.inside.limits; state = c.self.inside.engine.callbacks.state }) c.args.number c.self.invariant.is;
  sent = c.self.invariant.sent;
  page_size = c.self.invariant.page_size;
  room = c.self.invariant.room;
  spare = c.self.invariant.spare;
})

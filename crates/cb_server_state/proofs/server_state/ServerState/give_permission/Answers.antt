-- Goals of `ServerState::give_permission`.
use Rattle.std.proofs.Common.{refl}
use Rattle.cb_server_state.proofs.Rows.{sole_is}
use Rattle.cb_server_state.proofs.Changes.{gives}
use Rattle.cb_server_state.proofs.Steps.{permits_write}
use Rattle.cb_server_state.proofs.server_state.ServerState.give_permission.Goals as goal

pub returns-clause-says : goal.returns-clause-says
returns-clause-says c =
    gives c.args.self.now _ c.args.client c.args.page c.args.grant _ c.args.outbox.now c.say.new.self
    (permits_write c.args.self.now c.args.client c.args.page c.args.grant c.txn-txn.result c.set_writer.new.self c.txn-txn.ensures c.set_writer.ensures)
    (rw (c.incarnation-incarnation.ensures, c.txn-txn.ensures) refl) c.say.ensures

pub set_writer-requires-clause-sole : goal.set_writer-requires-clause-sole
set_writer-requires-clause-sole c = sole_is c.args.self.now c.args.client c.args.page c.requires.agree c.requires.sole

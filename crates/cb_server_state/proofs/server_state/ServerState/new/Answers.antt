-- Goals of `ServerState::new`.
use Rattle.cb_server_state.proofs.Steps.{opens}
use Rattle.cb_server_state.proofs.server_state.ServerState.new.Goals as goal

pub returns-clause-server : goal.returns-clause-server
returns-clause-server c =
    rw (c.keep_write.ensures.value, c.in_ok-new.ensures, c.in_ok-new-3.ensures)
    (opens c.args.limits.now c.args.store _ c.in_ok-asks.asks c.in_ok-marks.marks c.in_ok-new-2.ensures c.requires.count c.in_ok-asks.ensures.empty c.in_ok-marks.ensures.none)

-- Goals of `Callbacks::wait_or_doom`.
use Rattle.std.proofs.Common.{◌∙◌, sym}
use Rattle.cb_protocol.specs.WaitsFor.{on_cycle}
use Rattle.cb_server_state.specs.States.{server_of}
use Rattle.cb_callbacks.proofs.Deciding.{room_doomed, waits_doomed, waits_on}
use Rattle.cb_callbacks.proofs.callbacks.Callbacks.wait_or_doom.Goals as goal

pub doom-requires-clause-room : goal.doom-requires-clause-room
doom-requires-clause-room c =
    room_doomed on_cycle (server_of c.args.self.now.state) c.args.client c.args.outbox.now (sym c.closes_cycle.ensures ∙ c.if-closes_cycle.true) c.requires.room

pub returns-then-closes_cycle-clause-decides : goal.returns-then-closes_cycle-clause-decides
returns-then-closes_cycle-clause-decides c =
    waits_doomed on_cycle (server_of c.args.self.now.state) (server_of c.doom.new.self.state) c.args.client c.args.outbox.now c.doom.new.outbox
    (sym c.closes_cycle.ensures ∙ c.if-closes_cycle.true) c.doom.ensures.says

pub returns-else-closes_cycle-clause-decides : goal.returns-else-closes_cycle-clause-decides
returns-else-closes_cycle-clause-decides c =
    waits_on on_cycle (server_of c.args.self.now.state) c.args.client c.args.outbox.now (sym c.closes_cycle.ensures ∙ c.if-closes_cycle.false)

-- Goals of `Client::drop_txn`.
use Rattle.std.proofs.Common.{◌≡◌, Err, rules}
use Rattle.cb_client.proofs.CallSteps.{FindsNone, refused}
use Rattle.cb_client_core.proofs.Ending.{owes}
use Rattle.cb_client.proofs.Ending.{drop_is, drop_keeps, drops, refuses_or_lacks}
use Rattle.cb_client.proofs.FramesFit.{call_frames_fit}
use Rattle.cb_protocol.specs.ClientCalls.{CallDrop}
use Rattle.cb_protocol.specs.Client as protocol
use Rattle.cb_client.proofs.client.Client.drop_txn.Goals as goal

pub returns-in_err-check_open-clause-err : goal.returns-in_err-check_open-clause-err
returns-in_err-check_open-clause-err g c =
    let same : c.from_residual.result ≡ Err c.in_err-check_open.field-0.0 = search rules in
    rw same (refuses_or_lacks _ _ _ (refused _ _ _ (drop_is c.args.self.now _ c.in_err-check_open.ensures.causes)))

pub drop_ends-requires-clause-owes : goal.drop_ends-requires-clause-owes
drop_ends-requires-clause-owes g c = owes _ c.self.invariant

pub returns-in_err-frames-clause-err : goal.returns-in_err-frames-clause-err
returns-in_err-frames-clause-err g c =
    let decided : FindsNone c.args.self.now CallDrop = drop_is c.args.self.now _ c.in_ok-check_open.ensures.causes in
    search rules

pub invariant_of-self : goal.invariant_of-self
invariant_of-self g c = rw (c.in_err-frames.ensures.err.0, c.in_err-frames.ensures.err.1) c.self.invariant

pub invariant_of-self-2 : goal.invariant_of-self-2
invariant_of-self-2 g c = drop_keeps _ c.present_txn-txn.result c.in_ok-frames.frames.items _ _ c.self.invariant (rw (← c.self.view_is) at (drop_is c.args.self.now _ c.in_ok-check_open.ensures.causes)) (rw (← c.self.view_is) at c.present_txn-txn.ensures)
    (rw c.say-said.ensures at (c.in_ok-frames.ensures.ok protocol.Dropped))

pub returns-clause-ok : goal.returns-clause-ok
returns-clause-ok g c = rw (← c.self.view_is) (drops _ c.present_txn-txn.result c.in_ok-frames.frames.items _ _ c.self.invariant (rw (← c.self.view_is) at (drop_is c.args.self.now _ c.in_ok-check_open.ensures.causes)) (rw (← c.self.view_is) at c.present_txn-txn.ensures)
    (rw c.say-said.ensures at (c.in_ok-frames.ensures.ok protocol.Dropped)))

pub returns-clause-fits : goal.returns-clause-fits
returns-clause-fits g c = rw (← c.self.view_is) (call_frames_fit _ _ CallDrop c.in_ok-frames.frames.items c.self.invariant (drops _ c.present_txn-txn.result c.in_ok-frames.frames.items _ _ c.self.invariant (rw (← c.self.view_is) at (drop_is c.args.self.now _ c.in_ok-check_open.ensures.causes)) (rw (← c.self.view_is) at c.present_txn-txn.ensures)
    (rw c.say-said.ensures at (c.in_ok-frames.ensures.ok protocol.Dropped))))

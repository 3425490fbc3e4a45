-- Goals of `called`.
use Rattle.std.proofs.Common.{◌≡◌, true, refl}
use Rattle.cb_client.specs.FramesTaken.{is_for}
use Rattle.cb_layer_tests.proofs.client.laws.called.Goals as goal

pub returns-in-Ok : goal.returns-in-Ok
returns-in-Ok g c = λ no incarnation welcomed operations.
    let taken = rw c.frame-frame.ensures at c.in-Ok.ensures.ok in
    c.callbacks_are_answered.ensures _ _ c.args.page c.args.grant _ welcomed (taken.own (rw (no, incarnation) refl)) operations

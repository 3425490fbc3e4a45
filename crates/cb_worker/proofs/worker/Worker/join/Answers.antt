-- Goals of `Worker::join`.
use Rattle.std.proofs.Common.{◌≡◌, ◌≤◌, ℕ, Err, arith, rules, subst}
use Rattle.std.proofs.lemmas.Grind.{common_steps}
use Rattle.cb_client_core.specs.ClientState.{new_state}
use Rattle.cb_hands.specs.Hands.{HandState}
use Rattle.cb_worker.proofs.Entering.{has_joined, not_here, not_let_in, unmade, unwelcomed}
use Rattle.cb_worker.specs.Entering.{TriesToLeave}
use Rattle.cb_worker.specs.declared.worker_fault.WorkerFault.TheVariants as worker
use Rattle.cb_worker.proofs.worker.Worker.join.Goals as goal

pub returns-then-not-has_client-clause-why : goal.returns-then-not-has_client-clause-why
returns-then-not-has_client-clause-why g c =
    let out : c.args.limits.now.clients ≤ c.args.client = grind (arith, common_steps) in
    not_here c.args.limits.now c.args.client out

pub returns-in_err-hand-clause-why : goal.returns-in_err-hand-clause-why
returns-in_err-hand-clause-why g c =
    let is : c.from_residual.result ≡ Err (worker.Office c.in_err-hand.field-0.0) = search rules in
    rw is (not_let_in c.args.limits.now c.args.client c.in_err-hand.field-0.0 c.in_err-hand.ensures)

pub returns-in_default-clause-why : goal.returns-in_default-clause-why
returns-in_default-clause-why g c = unmade c.args.limits.now c.args.client c.in_ok-hand.hand c.in_ok-hand.ensures c.unjoin.ensures

pub returns-in-Err-clause-why : goal.returns-in-Err-clause-why
returns-in-Err-clause-why g c =
    let made = subst (λ (i : ℕ). c.in-Ok.client ≡ new_state c.args.client i c.args.limits.now) c.incarnation.ensures c.in-Ok.ensures.state in
    let joined = has_joined c.args.limits.now c.args.client c.in_ok-hand.hand c.in-Ok.client c.new.result c.in-Err.worker c.in_ok-hand.ensures made c.new.ensures c.in-Err.ensures.refused in
    let leaves : TriesToLeave c.in-Err.worker.hand = subst (λ (h : HandState). TriesToLeave h) c.into_hand.ensures c.unjoin-in-Err.ensures in
    unwelcomed c.args.limits.now c.args.client c.in-Err.worker c.in-Err.fault joined leaves c.in-Err.ensures.why

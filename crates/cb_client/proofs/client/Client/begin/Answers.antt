-- Goals of `Client::begin`.
use Rattle.std.proofs.Common.{◌≡◌, Err, refl, rules}
use Rattle.cb_client.proofs.CallSteps.{begin_keeps, begins, refused}
use Rattle.cb_client.proofs.client.Client.begin.Goals as goal

pub returns-in_err-txn : goal.returns-in_err-txn
returns-in_err-txn g c =
    let same : c.from_residual.result ≡ Err c.in_err-txn.field-0.0 = search rules in
    rw same (refused _ _ _ c.in_err-txn.ensures.decided, refl)

pub invariant_of-self : goal.invariant_of-self
invariant_of-self g c = rw c.begin.ensures
    (begin_keeps _ c.in_ok-txn.txn (rw (← c.self.view_is) at c.in_ok-txn.ensures.decided) (rw (← c.self.view_is) at c.in_ok-txn.ensures.next) c.self.invariant)

pub returns : goal.returns
returns g c = (refl, rw (c.begin.ensures, ← c.self.view_is) (begins _ c.in_ok-txn.txn (rw (← c.self.view_is) at c.in_ok-txn.ensures.decided) (rw (← c.self.view_is) at c.in_ok-txn.ensures.next)))

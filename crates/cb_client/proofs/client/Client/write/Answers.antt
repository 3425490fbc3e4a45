-- Goals of `Client::write`.
use Rattle.std.proofs.Common.{◌≡◌, Err, refl, rules}
use Rattle.cb_client.proofs.CallSteps.{refused}
use Rattle.cb_client.proofs.Calling.{write_keeps, writes}
use Rattle.cb_client.proofs.client.Client.write.Goals as goal

pub returns-in_err-check_write : goal.returns-in_err-check_write
returns-in_err-check_write g c =
    let same : c.from_residual.result ≡ Err c.in_err-check_write.field-0.0 = search rules in
    rw same (refused _ _ _ c.in_err-check_write.ensures.decided, refl)

pub invariant_of-self : goal.invariant_of-self
invariant_of-self g c = write_keeps _ c.args.page c.args.bytes.now _ c.write.ensures (rw (← c.self.view_is) at c.in_ok-check_write.ensures.decided) (rw (← c.self.view_is) at (c.in_ok-check_write.ensures.no_ask refl)) c.self.invariant

pub returns : goal.returns
returns g c = rw (← c.self.view_is) (writes _ c.args.page c.args.bytes.now _ c.write.ensures (rw (← c.self.view_is) at c.in_ok-check_write.ensures.decided))

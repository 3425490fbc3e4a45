-- Goals of `Client::want`.
use Rattle.std.proofs.Common.{◌≡◌, Err, refl, sym, rules}
use Rattle.cb_client.proofs.CallSteps.{refused}
use Rattle.cb_client.proofs.Refusals.{want_is}
use Rattle.cb_client.proofs.Calling.{ask_want_keeps, asks_want, want_keeps, wants}
use Rattle.cb_client.proofs.client.Client.want.Goals as goal

pub returns-in_err-check_read-clause-by_table : goal.returns-in_err-check_read-clause-by_table
returns-in_err-check_read-clause-by_table g c =
    let same : c.from_residual.result ≡ Err c.in_err-check_read.field-0.0 = search rules in
    rw same (refused _ _ _ (want_is c.args.self.now c.args.page _ c.in_err-check_read.ensures.causes), refl)

pub invariant_of-self : goal.invariant_of-self
invariant_of-self g c =
    let none = want_is c.args.self.now c.args.page _ c.in_ok-check_read.ensures.causes in
    want_keeps _ c.args.page _ c.want.ensures (rw (← c.self.view_is) at none) (sym c.if-may_write.ensures) (rw (← c.self.view_is) at (c.in_ok-check_read.ensures.no_ask refl)) c.self.invariant

pub returns-then-may_write-clause-by_table : goal.returns-then-may_write-clause-by_table
returns-then-may_write-clause-by_table g c =
    let none = want_is c.args.self.now c.args.page _ c.in_ok-check_read.ensures.causes in
    rw (← c.self.view_is) (wants _ c.args.page _ c.want.ensures (rw (← c.self.view_is) at none) (sym c.if-may_write.ensures))

pub invariant_of-self-2 : goal.invariant_of-self-2
invariant_of-self-2 g c =
    let none = want_is c.args.self.now c.args.page _ c.in_ok-check_read.ensures.causes in
    ask_want_keeps _ c.args.page _ c.want-2.ensures _ _ (rw (← c.self.view_is) at none) (sym c.if-may_write.ensures)
    (rw (← c.self.view_is) at c.grant_of-grant.ensures) (rw (← c.self.view_is) at c.present_txn-txn.ensures) c.self.invariant

pub returns-clause-by_table : goal.returns-clause-by_table
returns-clause-by_table g c =
    let none = want_is c.args.self.now c.args.page _ c.in_ok-check_read.ensures.causes in
    rw (c.say-ask.ensures, ← c.self.view_is) (asks_want _ c.args.page _ c.want-2.ensures _ _ (rw (← c.self.view_is) at none) (sym c.if-may_write.ensures)
    (rw (← c.self.view_is) at c.grant_of-grant.ensures) (rw (← c.self.view_is) at c.present_txn-txn.ensures))

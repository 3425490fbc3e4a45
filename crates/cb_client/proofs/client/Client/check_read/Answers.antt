-- Goals of `Client::check_read`.
use Rattle.std.proofs.Common.{◌≡◌, true, false, Err, sym, rules}
use Rattle.cb_page.specs.Flags.{has}
use Rattle.cb_client.proofs.Refusals.{read_bare, read_free, read_shut, read_unlocked}
use Rattle.cb_client.proofs.client.Client.check_read.Goals as goal

pub returns-in_err-check_page-clause-causes : goal.returns-in_err-check_page-clause-causes
returns-in_err-check_page-clause-causes g c =
    let same : c.from_residual.result ≡ Err c.in_err-check_page.field-0.0 = search rules in
    rw same (read_shut c.args.self.now c.args.page _ c.in_err-check_page.ensures.causes)

pub returns-then-not-is_locked-clause-causes : goal.returns-then-not-is_locked-clause-causes
returns-then-not-is_locked-clause-causes g c =
    let locked : has c.args.self.now.locks.locked c.args.page ≡ false = rw (← c.self.view_is) (sym c.if-not-is_locked.ensures) in
    read_unlocked c.args.self.now c.args.page c.in_ok-check_page.ensures.causes locked

pub returns-then-not-is_here-clause-causes : goal.returns-then-not-is_here-clause-causes
returns-then-not-is_here-clause-causes g c =
    let locked : has c.args.self.now.locks.locked c.args.page ≡ true = rw (← c.self.view_is) (sym c.if-not-is_locked.ensures) in
    read_bare c.args.self.now c.args.page c.in_ok-check_page.ensures.causes locked (sym c.if-not-is_here.ensures.here)

pub returns-clause-causes : goal.returns-clause-causes
returns-clause-causes g c =
    let locked : has c.args.self.now.locks.locked c.args.page ≡ true = rw (← c.self.view_is) (sym c.if-not-is_locked.ensures) in
    read_free c.args.self.now c.args.page c.in_ok-check_page.ensures.causes locked (sym c.if-not-is_here.ensures.here)

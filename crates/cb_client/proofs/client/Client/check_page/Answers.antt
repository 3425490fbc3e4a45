-- Goals of `Client::check_page`.
use Rattle.std.proofs.Common.{◌≡◌, Err, sym, rules}
use Rattle.cb_client.proofs.Refusals.{page_free, page_past, page_shut}
use Rattle.cb_client.proofs.client.Client.check_page.Goals as goal

pub returns-in_err-check_finish-clause-causes : goal.returns-in_err-check_finish-clause-causes
returns-in_err-check_finish-clause-causes g c =
    let same : c.from_residual.result ≡ Err c.in_err-check_finish.field-0.0 = search rules in
    rw same (page_shut c.args.self.now c.args.page _ c.in_err-check_finish.ensures.decided)

pub returns-then-is_past-clause-causes : goal.returns-then-is_past-clause-causes
returns-then-is_past-clause-causes g c = page_past c.args.self.now c.args.page c.in_ok-check_finish.ensures.decided (sym c.if-is_past.ensures.value)

pub returns-clause-causes : goal.returns-clause-causes
returns-clause-causes g c = page_free c.args.self.now c.args.page c.in_ok-check_finish.ensures.decided (sym c.if-is_past.ensures.value)

-- Goals of `take_off`.
use Rattle.std.proofs.Common.{sym, ◌∙◌, ap}
use Rattle.cb_twoq.specs.Pages.{has}
use Rattle.cb_twoq.proofs.Orders.{newest_removed}
use Rattle.cb_twoq.proofs.twoq.steps.take_off.Goals as goal

pub returns-clause-pages : goal.returns-clause-pages
returns-clause-pages c =
    let e = c.shift_remove.ensures.keys in
    rw e (newest_removed c.args.page c.args.pages.now.keys (ap (λ l. has l c.args.page) (sym e) ∙ c.shift_remove.ensures.updates.1))

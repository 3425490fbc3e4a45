-- Goals of `Chart::empty`.
use Rattle.cb_chart.proofs.Drawing.{opens, shows_none}
use Rattle.cb_chart.proofs.chart.Chart.empty.Goals as goal

pub returns : goal.returns
returns c =
    let new = c.in_ok-new.ensures in
    shows_none c.args.limits.now _ (opens c.args.limits.now c.in_ok-new.field-0 c.in_ok-store.store c.in_ok-store.ensures new.limits new.told new.packets new.represents)
    c.new-2.ensures.items c.new-3.ensures.items c.new-4.ensures.items c.new-5.ensures.items

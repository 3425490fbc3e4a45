-- Goals of `Chart::new`.
use Rattle.cb_chart.proofs.chart.Chart.new.Goals as goal

pub returns-clause-shows : goal.returns-clause-shows
returns-clause-shows c = c.in_ok-follow.ensures c.args.limits.now c.in_ok-chart.ensures

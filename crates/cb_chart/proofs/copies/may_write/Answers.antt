-- Goals of `may_write`.
use Rattle.std.proofs.Common.{[]}
use Rattle.cb_chart.proofs.copies.may_write.Goals as goal

pub returns : goal.returns
returns g c = c.may_write.ensures.value []

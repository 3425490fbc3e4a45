-- Goals of `can_read`.
use Rattle.std.proofs.Common.{rules}
use Rattle.cb_chart.proofs.Sightings.{peeked}
use Rattle.cb_chart.proofs.copies.can_read.Goals as goal

pub returns : goal.returns
returns g c = let seen = peeked _ _ _ _ _ _ c.peek.ensures in search rules

-- Goals of `Ask::granted`.
use Rattle.std.proofs.Common.{ap}
use Rattle.cb_asks.specs.Queues.{Asked}
use Rattle.cb_asks.specs.declared.ask.Fate.TheVariants as fate
use Rattle.cb_asks.proofs.ask.Ask.granted.Goals as goal

pub returns : goal.returns
returns c = ap (λ (a : Asked). fate.Granted a.client a.write_grant) c.self.view_is

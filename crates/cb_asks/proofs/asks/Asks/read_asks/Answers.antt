-- Goals of `Asks::read_asks`.
use Rattle.std.proofs.Common.{◌∙◌, sym}
use Rattle.cb_asks.proofs.Steps.{few_reads, reads_below}
use Rattle.cb_asks.proofs.asks.Asks.read_asks.Goals as goal

pub returns-clause-reads : goal.returns-clause-reads
returns-clause-reads c = rw (← c.self.view_is, c.reads.ensures) (λ server h. reads_below server _ h server.pages ∙ rw h.pages (sym c.self.invariant.0.reads))

pub returns-clause-few : goal.returns-clause-few
returns-clause-few c = rw c.reads.ensures (few_reads _ c.self.invariant.0)

-- Goals of `Asks::read_asks_of_others`.
use Rattle.std.proofs.Common.{◌≡◌, ◌∙◌, ◌-◌, ℕ, ap, arith}
use Rattle.cb_asks.specs.Asks.{AsksState, queue_at, reads_of_others}
use Rattle.cb_asks.specs.Sums.{sum_below}
use Rattle.cb_protocol.specs.Server.{without_client}
use Rattle.cb_protocol.specs.ServerMessages.{read_asks_in}
use Rattle.cb_asks.proofs.Others.{others_below}
use Rattle.cb_asks.proofs.asks.Asks.read_asks_of_others.Goals as goal

pub returns : goal.returns
returns c = λ server h. others_below server c.args.self.now c.args.client h server.pages
    ∙ ap (λ (end : ℕ). sum_below (λ page. read_asks_in (without_client c.args.client (queue_at c.args.self.now page))) end) h.pages
    ∙ left
  where
    left : reads_of_others c.args.self.now c.args.client ≡ c.reads.result - c.reads_of.result
    left = let e = c.reads_of.ensures in let r = c.reads.ensures in
        let v = ap (λ (s : AsksState). s.places.reads) c.self.view_is in omega (arith, e, r, v)

-- Goals of `Asks::waiting_asks`.
use Rattle.std.proofs.Common.{◌≡◌, ◌∙◌, ◌+◌, ◌<◌, length, suc, ap, arith, rules, sym}
use Rattle.cb_page.specs.Clients.{Clients, has}
use Rattle.cb_asks.specs.Asks.{AsksState, IsAsks, queue_at}
use Rattle.cb_asks.specs.Sums.{one_if, sum_below}
use Rattle.cb_asks.proofs.Steps.{asks_summed}
use Rattle.cb_asks.proofs.Sums.{sum_next, sum_ones, sum_past}
use Rattle.cb_asks.proofs.asks.Asks.waiting_asks.Goals as goal

pub overflow_add-asks : goal.overflow_add-asks
overflow_add-asks c =
    let counted = c.loop-client.invariant.counted in
    let most = sum_ones (has c.waiting-waiting.result) c.loop-client.from in
    let within = c.loop-client.invariant.within in
    omega (arith, counted, most, within)

pub loop-client-preserved : goal.loop-client-preserved
loop-client-preserved c =
    let value = c.index-from.ensures.value in
    let known : c.in-Some.client < 32 = search rules in
    let counted = c.loop-client.invariant.counted in
    let next = sum_next (has c.waiting-waiting.result) c.loop-client.from c.in-Some.client c.in-Some.ensures.above c.in-Some.ensures.none_between c.in-Some.ensures.here in
    let at = ap (sum_below (λ client. one_if (has c.waiting-waiting.result client))) (let e : c.index-from.result + 1 ≡ suc c.in-Some.client = omega (arith, value) in e) in
    record { counted = omega (arith, counted, next, at); within = omega (arith, value, known) }

pub returns-clause-asks : goal.returns-clause-asks
returns-clause-asks c = λ server h. asks_summed server state h server.pages ∙ ap (sum_below (λ page. length (queue_at state page))) h.pages ∙ is.sizes
    ∙ ap (λ (set : Clients). sum_below (λ client. one_if (has set client)) 32) (sym same)
    ∙ sum_past (has c.waiting-waiting.result) c.loop-client.from 32 c.loop-client.invariant.within (λ client above below. c.in_default.ensures client above)
    ∙ sym c.loop-client.invariant.counted
  where
    state : AsksState
    state = c.args.self.now

    is : IsAsks state
    is = rw (← c.self.view_is) c.self.invariant.0

    same : c.waiting-waiting.result ≡ state.places.waiting
    same = rw (← c.self.view_is) c.waiting-waiting.ensures

pub returns-clause-few : goal.returns-clause-few
returns-clause-few c =
    let counted = c.loop-client.invariant.counted in
    let most = sum_ones (has c.waiting-waiting.result) c.loop-client.from in
    let within = c.loop-client.invariant.within in
    omega (arith, counted, most, within)

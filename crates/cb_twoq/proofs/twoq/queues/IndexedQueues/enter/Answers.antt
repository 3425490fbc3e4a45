-- Goals of `IndexedQueues::enter`.
use Rattle.std.proofs.Common.{sym, ◌∙◌, ap, subst, length, ◌≤◌}
use Rattle.cb_twoq.specs.Queues.{TwoQState, let_go}
use Rattle.cb_twoq.specs.Indexed.{queues_of, IsOff}
use Rattle.cb_twoq.proofs.Placed.{placed_off, placed_within, placed_entered}
use Rattle.cb_twoq.proofs.twoq.queues.IndexedQueues.enter.Goals as goal

pub let_go-requires-clause-off : goal.let_go-requires-clause-off
let_go-requires-clause-off c =
    subst (λ (q : TwoQState). IsOff c.args.slot q.a1out) (sym c.in_ok-place.ensures.ok)
    (placed_off c.args.page (queues_of c.args.self.now) c.requires.queues c.args.slot c.requires.slot)

pub let_go-requires-clause-within : goal.let_go-requires-clause-within
let_go-requires-clause-within c =
    subst (λ (q : TwoQState). length q.a1out ≤ q.kout) (sym c.in_ok-place.ensures.ok)
    (placed_within c.args.page (queues_of c.args.self.now) c.requires.queues)

pub returns-clause-ok : goal.returns-clause-ok
returns-clause-ok c =
    c.let_go.ensures.queues ∙ ap (let_go c.args.slot) c.in_ok-place.ensures.ok
    ∙ placed_entered c.args.page (queues_of c.args.self.now) c.requires.a1in c.requires.am c.args.slot c.requires.slot

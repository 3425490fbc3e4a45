-- Goals of `draw_all`.
use Rattle.std.proofs.Common.{◌≡◌, List, [], ◌∷◌, ◌++◌, length, length-append, ap, refl, rules, arith}
use Rattle.cb_schedule.proofs.Drawing.{drawn_none, drawn_more, drawn_all}
use Rattle.cb_schedule.proofs.schedule.draw_all.Goals as goal

pub loop-drawn-init : goal.loop-drawn-init
loop-drawn-init c =
    let none : c.new-events.result.items ≡ [] = search rules in
    record { as_many = rw none refl; so_far = rw none (drawn_none c.args.drawing.now c.args.world.now) }

pub loop-drawn-preserved : goal.loop-drawn-preserved
loop-drawn-preserved c =
    let items = c.in_ok-push.ensures.items in
    record {
      as_many = omega (arith, ap length items, length-append c.loop-drawn.events.items (c.in_ok-event.event ∷ []), c.loop-drawn.invariant.as_many);
      so_far = rw items (drawn_more _ _ _ _ _ _ _ _ c.loop-drawn.invariant.so_far c.in_ok-event.ensures);
    }

pub returns-clause-next : goal.returns-clause-next
returns-clause-next c = drawn_all _ _ _ _ _ c.loop-drawn.invariant.so_far

-- Goals of `copies_in`.
use Rattle.std.proofs.Common.{◌≡◌, ◌++◌, [], ℕ, subst}
use Rattle.cb_chart.specs.Sights.{copies_at}
use Rattle.cb_chart.proofs.Sightings.{one_more}
use Rattle.cb_chart.proofs.copies.copies_in.Goals as goal

pub loop-number-preserved : goal.loop-number-preserved
loop-number-preserved g c =
    one_more (copies_at c.args.world.now) [] c.loop-number.copies.items c.add_client.new.copies.items c.loop-number.number c.loop-number.invariant
    (subst (λ (number : ℕ). c.add_client.new.copies.items ≡ c.loop-number.copies.items ++ copies_at c.args.world.now number) c.new.ensures c.in_ok-add_client.ensures)

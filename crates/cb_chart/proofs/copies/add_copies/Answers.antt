-- Goals of `add_copies`.
use Rattle.std.proofs.Common.{◌≡◌, ◌++◌, ℕ, subst}
use Rattle.cb_chart.specs.Sights.{copy_of}
use Rattle.cb_chart.proofs.Sightings.{one_more}
use Rattle.cb_chart.proofs.copies.add_copies.Goals as goal

pub loop-page-preserved : goal.loop-page-preserved
loop-page-preserved g c =
    one_more (copy_of c.args.number c.args.client.now) c.args.copies.now.items c.loop-page.copies.items c.add_copy.new.copies.items c.loop-page.page c.loop-page.invariant
    (subst (λ (page : ℕ). c.add_copy.new.copies.items ≡ c.loop-page.copies.items ++ copy_of c.args.number c.args.client.now page) c.new.ensures c.in_ok-add_copy.ensures)

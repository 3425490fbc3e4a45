-- Goals of `begin`.
use Rattle.std.proofs.Common.{◌≡◌, ◌+◌, ◌++◌, ◌∷◌, [], List, refl, ◌∙◌, subst, sym, take}
use Rattle.std.proofs.lemmas.List.{take_more}
use Rattle.cb_chart.specs.Bars.{Begins}
use Rattle.cb_chart.specs.declared.bars.ClientCopy.{ClientCopy}
use Rattle.cb_chart.proofs.Growing.{begins_none, begins_then}
use Rattle.cb_chart.proofs.bars.begin.Goals as goal

pub loop-copy-init : goal.loop-copy-init
loop-copy-init c = begins_none c.args.bars.now.items c.args.event

pub loop-copy-preserved : goal.loop-copy-preserved
loop-copy-preserved c =
    let more : take (c.loop-copy.copy-index + 1) c.args.copies.now ≡ take c.loop-copy.copy-index c.args.copies.now ++ c.copy-item.result ∷ []
    = take_more c.args.copies.now c.loop-copy.copy-index c.copy-item.result c.loop-copy-test.true ∙ rw (← c.copy-item.is) refl in
    subst (λ (seen : List ClientCopy). Begins c.args.bars.now.items seen c.args.event c.begin_one.new.bars.items) (sym more)
    (begins_then c.args.bars.now.items c.loop-copy.bars.items c.begin_one.new.bars.items (take c.loop-copy.copy-index c.args.copies.now) c.copy-item.result c.args.event c.loop-copy.invariant c.in_ok-begin_one.ensures)

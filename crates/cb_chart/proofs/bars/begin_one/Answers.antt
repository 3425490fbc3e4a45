-- Goals of `begin_one`.
use Rattle.std.proofs.Common.{rules, ◌≡◌, ◌∷◌, ◌++◌, [], true, subst, sym}
use Rattle.std.specs.List.{list_any}
use Rattle.cb_chart.specs.Bars.{Begins, lasts}
use Rattle.cb_chart.specs.declared.bars.Bar.{Bar}
use Rattle.cb_chart.proofs.Growing.{begins_has, begins_push}
use Rattle.cb_chart.proofs.bars.begin_one.Goals as goal

pub returns-then-has_bar : goal.returns-then-has_bar
returns-then-has_bar c =
    let there : list_any (lasts c.args.event c.args.copy.now) c.args.bars.now.items ≡ true = cc in
    begins_has c.args.bars.now.items c.args.copy.now c.args.event there

pub returns : goal.returns
returns c =
    let own : Bar = record { copy = c.args.copy.now; first = c.args.event; last = c.args.event } in
    let pushed : c.push.new.self.items ≡ c.args.bars.now.items ++ own ∷ [] = search rules in
    subst (Begins c.args.bars.now.items (c.args.copy.now ∷ []) c.args.event) (sym pushed) (begins_push c.args.bars.now.items c.args.copy.now c.args.event)

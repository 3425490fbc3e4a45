-- Goals of `put_begin`.
use Rattle.std.proofs.Common.{[], ◌∷◌}
use Rattle.cb_shelf.specs.LifeRows.{life_row, life_table}
use Rattle.cb_shelf.specs.Opening.{plain}
use Rattle.cb_shelf.proofs.Stepping.{makes_then}
use Rattle.cb_shelf.proofs.life.put_begin.Goals as goal

pub returns-clause-inside : goal.returns-clause-inside
returns-clause-inside g c =
    makes_then g.S.Store (plain life_table ∷ []) (life_row c.args.life.now ∷ []) _ _ _ _ _ c.in_ok-create_table.ensures.inside c.put_life.ensures.inside

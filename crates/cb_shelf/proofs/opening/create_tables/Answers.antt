-- Goals of `create_tables`.
use Rattle.std.proofs.Common.{[], ◌∷◌}
use Rattle.cb_shelf.specs.LifeRows.{life_table}
use Rattle.cb_shelf.specs.Opening.{plain, mark_table, page_table, part_table}
use Rattle.cb_shelf.proofs.Stepping.{makes_then}
use Rattle.cb_shelf.proofs.opening.create_tables.Goals as goal

pub returns-clause-inside : goal.returns-clause-inside
returns-clause-inside g c =
    makes_then g.S.Store (plain mark_table ∷ []) (plain page_table ∷ plain part_table ∷ plain life_table ∷ []) _ _ _ _ _ c.in_ok-run.ensures.inside
    (makes_then g.S.Store (plain page_table ∷ []) (plain part_table ∷ plain life_table ∷ []) _ _ _ _ _ c.in_ok-run-2.ensures.inside
    (makes_then g.S.Store (plain part_table ∷ []) (plain life_table ∷ []) _ _ _ _ _ c.in_ok-run-3.ensures.inside c.create_table.ensures.inside))

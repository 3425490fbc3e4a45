-- Goals of `put_batch`.
use Rattle.std.proofs.Common.{[], ◌∷◌}
use Rattle.cb_shelf.specs.Statements.{pages_statements, mark_statement}
use Rattle.cb_shelf.proofs.Stepping.{makes_then}
use Rattle.cb_shelf.proofs.writing.put_batch.Goals as goal

pub returns-clause-inside : goal.returns-clause-inside
returns-clause-inside g c =
    rw (← c.pages.ensures.value, ← c.number.ensures.value)
    (makes_then g.S.Store (pages_statements c.pages.result.now) (mark_statement c.number.result ∷ []) _ _ _ _ _ c.in_ok-put_pages.ensures.inside c.put_mark.ensures.inside)

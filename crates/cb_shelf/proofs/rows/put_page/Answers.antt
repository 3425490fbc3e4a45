-- Goals of `put_page`.
use Rattle.std.proofs.Common.{length, [], ◌∷◌}
use Rattle.cb_shelf.specs.Statements.{page_statement, part_statements, part_count}
use Rattle.cb_shelf.proofs.Stepping.{makes_then}
use Rattle.cb_shelf.proofs.rows.put_page.Goals as goal

pub returns-clause-inside : goal.returns-clause-inside
returns-clause-inside g c =
    makes_then g.S.Store (page_statement c.args.rows c.args.page c.args.version ∷ []) (part_statements c.args.rows c.args.page c.args.bytes.now (part_count (length c.args.bytes.now))) _ _ _ _ _
    c.in_ok-put_version.ensures.inside c.put_parts.ensures.inside

-- Goals of `put_part`.
use Rattle.std.proofs.Common.{◌≡◌, pos, rules}
use Rattle.sqlite.specs.Value.{owned}
use Rattle.sqlite.specs.declared.types.Value.TheVariants.{Int, Blob}
use Rattle.cb_shelf.specs.Statements.{part_at}
use Rattle.cb_shelf.proofs.Stepping.{given, three_bound}
use Rattle.cb_shelf.proofs.rows.put_part.Goals as goal

pub returns-clause-inside : goal.returns-clause-inside
returns-clause-inside g c =
    let page : owned c.params-to_sql.result ≡ Int (pos c.args.page) = search rules in
    let place : owned c.params-to_sql-2.result ≡ Int (pos c.args.place) = search rules in
    let body : owned c.params-to_sql-3.result ≡ Blob (part_at c.args.bytes.now c.args.place) = search rules in
    rw (← c.put_part_text.ensures) (given g.S.Store _ _ _ c.args.tx.now.conn.now c.run.new.tx.conn.now c.run.result (three_bound page place body) c.run.ensures.inside)

-- Goals of `put_version`.
use Rattle.std.proofs.Common.{◌≡◌, pos, rules}
use Rattle.sqlite.specs.Value.{owned}
use Rattle.sqlite.specs.declared.types.Value.TheVariants.{Int}
use Rattle.cb_shelf.proofs.Stepping.{given, two_bound}
use Rattle.cb_shelf.proofs.rows.put_version.Goals as goal

pub returns-clause-inside : goal.returns-clause-inside
returns-clause-inside g c =
    let page : owned c.params-to_sql.result ≡ Int (pos c.args.page) = search rules in
    let version : owned c.params-to_sql-2.result ≡ Int (pos c.args.version) = search rules in
    rw (← c.put_version_text.ensures) (given g.S.Store _ _ _ c.args.tx.now.conn.now c.run.new.tx.conn.now c.run.result (two_bound page version) c.run.ensures.inside)

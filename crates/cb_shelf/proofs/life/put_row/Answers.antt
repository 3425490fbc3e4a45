-- Goals of `put_row`.
use Rattle.std.proofs.Common.{◌≡◌, pos, rules}
use Rattle.sqlite.specs.Value.{owned}
use Rattle.sqlite.specs.declared.types.Value.TheVariants.{Int}
use Rattle.cb_shelf.proofs.Stepping.{given, two_bound}
use Rattle.cb_shelf.proofs.life.put_row.Goals as goal

pub returns-clause-inside : goal.returns-clause-inside
returns-clause-inside g c =
    let floor : owned c.params-to_sql.result ≡ Int (pos c.args.floor) = search rules in
    let below : owned c.params-to_sql-2.result ≡ Int (pos c.args.below) = search rules in
    given g.S.Store _ _ _ c.args.tx.now.conn.now c.run.new.tx.conn.now c.run.result (two_bound floor below) c.run.ensures.inside

-- Goals of `put_row`.
use Rattle.std.proofs.Common.{◌≡◌, pos, length, rules}
use Rattle.sqlite.specs.Value.{owned}
use Rattle.sqlite.specs.declared.types.Value.TheVariants.{Int}
use Rattle.cb_shelf.proofs.Stepping.{given, three_bound}
use Rattle.cb_shelf.proofs.opening.put_row.Goals as goal

pub returns-clause-inside : goal.returns-clause-inside
returns-clause-inside g c =
    let number : owned c.params-to_sql.result ≡ Int (pos c.args.store.now.number) = search rules in
    let size : owned c.params-to_sql-2.result ≡ Int (pos c.args.store.now.page_size) = rw c.requires.page_size (search rules) in
    let pages : owned c.params-to_sql-3.result ≡ Int (pos (length c.args.store.now.pages)) = rw c.requires.count (search rules) in
    given g.S.Store _ _ _ c.args.tx.now.conn.now c.run.new.tx.conn.now c.run.result (three_bound number size pages) c.run.ensures.inside

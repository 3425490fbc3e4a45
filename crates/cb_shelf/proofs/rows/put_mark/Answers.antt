-- Goals of `put_mark`.
use Rattle.std.proofs.Common.{◌≡◌, ap, pos, [], ◌∷◌, rules}
use Rattle.sqlite.specs.Value.{owned}
use Rattle.sqlite.specs.Values.{bound_value}
use Rattle.sqlite.specs.declared.types.Value.{Value}
use Rattle.sqlite.specs.declared.types.Value.TheVariants.{Int}
use Rattle.cb_shelf.proofs.Stepping.{given}
use Rattle.cb_shelf.proofs.rows.put_mark.Goals as goal

pub returns-clause-inside : goal.returns-clause-inside
returns-clause-inside g c =
    let number : owned c.params-to_sql.result ≡ Int (pos c.args.number) = search rules in
    given g.S.Store _ _ _ c.args.tx.now.conn.now c.run.new.tx.conn.now c.run.result (ap (λ (v : Value). bound_value v ∷ []) number) c.run.ensures.inside

-- Goals of `clear_old`.
use Rattle.std.proofs.Common.{◌≡◌, true, [], ◌∷◌, codes, rules}
use Rattle.cb_shelf.specs.Opening.{plain}
use Rattle.cb_shelf.proofs.Stepping.{makes_then}
use Rattle.cb_shelf.proofs.opening.clear_old.Goals as goal

pub returns-clause-inside : goal.returns-clause-inside
returns-clause-inside g c =
    let on : c.args.copied ≡ true = search rules in
    rw on
    (makes_then g.S.Store (plain (codes "DELETE FROM page") ∷ []) (plain (codes "DELETE FROM mark") ∷ []) _ _ _ _ _ c.in_ok-run.ensures.inside c.run-2.ensures.inside)

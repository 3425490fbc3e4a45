-- Goals of `ClientCore::take_downgrade`.
use Rattle.std.proofs.Common.{rules}
use Rattle.cb_client_core.proofs.Taking.{downgrade_answered, downgrade_in_use_keeps, downgrade_in_use_takes, downgrade_refused, downgrade_refused_keeps, downgrade_yields, downgrade_yields_keeps, fixed_locked, locked_begun}
use Rattle.cb_client_core.proofs.client_core.ClientCore.take_downgrade.Goals as goal

pub returns-then-not-holds-clause-sound : goal.returns-then-not-holds-clause-sound
returns-then-not-holds-clause-sound g c = downgrade_refused_keeps _ c.args.page c.args.grant c.args.tag _ c.requires.sound (search rules) c.requires.fits (search rules) (search rules) c.refuse.ensures

pub returns-then-not-holds-clause-by_table : goal.returns-then-not-holds-clause-by_table
returns-then-not-holds-clause-by_table g c = rw (c.give_back.ensures, c.called-due.ensures)
    (downgrade_refused _ c.args.page c.args.grant c.args.tag _ c.requires.sound (search rules) (search rules) (search rules) c.refuse.ensures)

pub returns-then-not-is_permitted-clause-by_table : goal.returns-then-not-is_permitted-clause-by_table
returns-then-not-is_permitted-clause-by_table g c = rw ((rw c.permission_called-due.ensures at c.give_down.ensures))
    (downgrade_answered _ c.args.page c.args.grant c.args.tag c.requires.sound (search rules) (search rules) (search rules) (search rules))

pub in_use-requires-clause-begun : goal.in_use-requires-clause-begun
in_use-requires-clause-begun g c = locked_begun _ c.requires.sound c.args.page (fixed_locked _ c.requires.sound c.args.page (search rules))

pub returns-then-is_fixed-clause-sound : goal.returns-then-is_fixed-clause-sound
returns-then-is_fixed-clause-sound g c = rw (c.in_use.ensures.due, c.permission_called-due.ensures)
    (downgrade_in_use_keeps _ c.args.page c.args.grant c.args.tag c.requires.sound (search rules) c.requires.fits (search rules) (search rules) (search rules) (search rules))

pub returns-then-is_fixed-clause-by_table : goal.returns-then-is_fixed-clause-by_table
returns-then-is_fixed-clause-by_table g c = rw (c.in_use.ensures.due, c.permission_called-due.ensures)
    (downgrade_in_use_takes _ c.args.page c.args.grant c.args.tag c.in_use.result c.requires.sound (search rules) (search rules) (search rules) (search rules) (search rules) (search rules)
    (rw c.permission_called-due.ensures at c.in_use.ensures.frame))

pub returns-clause-sound : goal.returns-clause-sound
returns-clause-sound g c = downgrade_yields_keeps _ c.args.page c.args.grant c.args.tag _ c.requires.sound (search rules) c.requires.fits (search rules) (search rules) (search rules) (search rules) c.yield_permission.ensures

pub returns-clause-by_table : goal.returns-clause-by_table
returns-clause-by_table g c = rw ((rw c.permission_called-due.ensures at c.give_down-2.ensures))
    (downgrade_yields _ c.args.page c.args.grant c.args.tag _ c.requires.sound (search rules) (search rules) (search rules) (search rules) (search rules) c.yield_permission.ensures)

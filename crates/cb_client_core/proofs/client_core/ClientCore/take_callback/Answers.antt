-- Goals of `ClientCore::take_callback`.
use Rattle.std.proofs.Common.{rules}
use Rattle.cb_client_core.proofs.Taking.{callback_gives, callback_gives_keeps, callback_in_use_keeps, callback_in_use_takes, callback_refused, callback_refused_keeps, locked_begun, unlocked_unwritten}
use Rattle.cb_client_core.proofs.client_core.ClientCore.take_callback.Goals as goal

pub returns-then-not-holds-clause-sound : goal.returns-then-not-holds-clause-sound
returns-then-not-holds-clause-sound g c = callback_refused_keeps _ c.args.page c.args.grant _ c.requires.sound (search rules) c.requires.fits (search rules) c.refuse.ensures

pub returns-then-not-holds-clause-by_table : goal.returns-then-not-holds-clause-by_table
returns-then-not-holds-clause-by_table g c = rw (c.give_back.ensures, c.called-due.ensures) (callback_refused _ c.args.page c.args.grant _ c.requires.sound (search rules) (search rules) c.refuse.ensures)

pub in_use-requires-clause-begun : goal.in_use-requires-clause-begun
in_use-requires-clause-begun g c = locked_begun _ c.requires.sound c.args.page (search rules)

pub returns-then-is_locked-clause-sound : goal.returns-then-is_locked-clause-sound
returns-then-is_locked-clause-sound g c = rw (c.in_use.ensures.due, c.called-due.ensures) (callback_in_use_keeps _ c.args.page c.args.grant c.requires.sound (search rules) c.requires.fits (search rules) (search rules))

pub returns-then-is_locked-clause-by_table : goal.returns-then-is_locked-clause-by_table
returns-then-is_locked-clause-by_table g c = rw (c.in_use.ensures.due, c.called-due.ensures)
    (callback_in_use_takes _ c.args.page c.args.grant c.in_use.result c.requires.sound (search rules) (search rules) (search rules) (search rules) (rw c.called-due.ensures at c.in_use.ensures.frame))

pub let_go-requires-clause-unwritten : goal.let_go-requires-clause-unwritten
let_go-requires-clause-unwritten g c = unlocked_unwritten _ c.requires.sound c.args.page (search rules)

pub returns-clause-sound : goal.returns-clause-sound
returns-clause-sound g c = callback_gives_keeps _ c.args.page c.args.grant _ c.requires.sound (search rules) c.requires.fits (search rules) (search rules) c.let_go.ensures

pub returns-clause-by_table : goal.returns-clause-by_table
returns-clause-by_table g c = rw (c.give_back-2.ensures, c.called-due.ensures) (callback_gives _ c.args.page c.args.grant _ c.requires.sound (search rules) (search rules) (search rules) c.let_go.ensures)

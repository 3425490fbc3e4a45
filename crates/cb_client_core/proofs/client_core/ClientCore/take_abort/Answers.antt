-- Goals of `ClientCore::take_abort`.
use Rattle.std.proofs.Common.{rules}
use Rattle.cb_client_core.proofs.Ending.{abort_ignored, abort_keeps, abort_takes, owes}
use Rattle.cb_protocol.specs.Client as protocol
use Rattle.cb_client_core.proofs.client_core.ClientCore.take_abort.Goals as goal

pub returns-then-not-is_open_txn-clause-ok : goal.returns-then-not-is_open_txn-clause-ok
returns-then-not-is_open_txn-clause-ok g c = rw c.new.ensures.items (abort_ignored _ c.args.txn c.requires.welcomed (search rules))

pub drop_ends-requires-clause-owes : goal.drop_ends-requires-clause-owes
drop_ends-requires-clause-owes g c = owes _ c.requires.sound

pub returns-in_err-frames-clause-sound : goal.returns-in_err-frames-clause-sound
returns-in_err-frames-clause-sound g c = rw (c.in_err-frames.ensures.err.0, c.in_err-frames.ensures.err.1) c.requires.sound

pub returns-clause-sound : goal.returns-clause-sound
returns-clause-sound g c = abort_keeps _ c.args.txn c.in_ok-frames.frames.items _ _ c.requires.sound c.requires.fits c.requires.welcomed (search rules)
    (rw c.say-said.ensures at (c.in_ok-frames.ensures.ok protocol.Aborted))

pub returns-clause-ok : goal.returns-clause-ok
returns-clause-ok g c = abort_takes _ c.args.txn c.in_ok-frames.frames.items _ _ c.requires.sound c.requires.welcomed (search rules)
    (rw c.say-said.ensures at (c.in_ok-frames.ensures.ok protocol.Aborted))

-- Goals of `ClientCore::take_done`.
use Rattle.std.proofs.Common.{rules}
use Rattle.cb_client_core.proofs.Ending.{done_ignored, done_keeps, done_takes, owes}
use Rattle.cb_protocol.specs.Client as protocol
use Rattle.cb_client_core.proofs.client_core.ClientCore.take_done.Goals as goal

pub returns-then-not-is_committing_txn-clause-ok : goal.returns-then-not-is_committing_txn-clause-ok
returns-then-not-is_committing_txn-clause-ok g c = rw c.new.ensures.items (done_ignored _ c.args.txn c.args.number c.requires.welcomed (search rules))

pub commit_ends-requires : goal.commit_ends-requires
commit_ends-requires g c = owes _ c.requires.sound

pub returns-in_err-frames-clause-sound : goal.returns-in_err-frames-clause-sound
returns-in_err-frames-clause-sound g c = rw (c.in_err-frames.ensures.err.0, c.in_err-frames.ensures.err.1) c.requires.sound

pub returns-clause-sound : goal.returns-clause-sound
returns-clause-sound g c = done_keeps _ c.args.txn c.args.number c.in_ok-frames.frames.items _ _ c.requires.sound c.requires.fits c.requires.welcomed (search rules) (c.in_ok-frames.ensures.ok (protocol.Committed c.args.number))

pub returns-clause-ok : goal.returns-clause-ok
returns-clause-ok g c = done_takes _ c.args.txn c.args.number c.in_ok-frames.frames.items _ _ c.requires.sound c.requires.welcomed (search rules) (c.in_ok-frames.ensures.ok (protocol.Committed c.args.number))

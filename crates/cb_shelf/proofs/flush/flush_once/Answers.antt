-- Goals of `flush_once`.
use Rattle.std.proofs.Common.{rules}
use Rattle.cb_shelf.proofs.flush.flush_once.Goals as goal

pub returns-in_err-frames-clause-can_flush : goal.returns-in_err-frames-clause-can_flush
returns-in_err-frames-clause-can_flush g c = rw c.in_err-frames.ensures.kept c.hold.ensures.can_flush

pub returns-in_err-frames-clause-err : goal.returns-in_err-frames-clause-err
returns-in_err-frames-clause-err g c = let held = returns-in_err-frames-clause-can_flush g c in search rules

pub returns-in_err-frames-clause-steps : goal.returns-in_err-frames-clause-steps
returns-in_err-frames-clause-steps g c = let held = returns-in_err-frames-clause-can_flush g c in search rules

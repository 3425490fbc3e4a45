-- Goals of `play_text`.
use Rattle.std.proofs.Common.{false}
use Rattle.cb_console.proofs.Playing.{schedule_fault}
use Rattle.cb_console.proofs.play.play_text.Goals as goal

pub returns-in_err-events-clause-fault : goal.returns-in_err-events-clause-fault
returns-in_err-events-clause-fault c =
    schedule_fault false c.args.limits.now c.args.schedule.now c.in_err-events.field-0.0 c.from_residual.result c.from_residual.ensures.1 c.in_err-events.ensures.fault

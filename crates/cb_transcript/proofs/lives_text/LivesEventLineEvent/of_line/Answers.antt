-- Goals of `LivesEventLineEvent::of_line`.
use Rattle.std.proofs.lemmas.Result.{err_from_is_err_and}
use Rattle.cb_transcript.proofs.LivesLemmas.{lives_fault}
use Rattle.cb_transcript.proofs.TextLemmas.{fault_append}
use Rattle.cb_transcript.specs.LivesText.{lives_line_causes}
use Rattle.cb_transcript.proofs.lives_text.LivesEventLineEvent.of_line.Goals as goal

pub returns-in_err-spelled-clause-fault : goal.returns-in_err-spelled-clause-fault
returns-in_err-spelled-clause-fault c =
    let p = err_from_is_err_and c.from_residual.result c.from_residual.ensures.1 in
    rw (p.1, p.2) (λ other. fault_append (lives_line_causes c.args.limits.now c.args.line c.args.bytes.now) _ c.in_err-spelled.field-0.0 c.in_err-spelled.ensures)

pub returns-in_err-spelled-clause-memory : goal.returns-in_err-spelled-clause-memory
returns-in_err-spelled-clause-memory c =
    let p = err_from_is_err_and c.from_residual.result c.from_residual.ensures.1 in
    rw (p.1, p.2) (λ same. absurd (lives_fault c.args.limits.now c.args.line c.args.bytes.now c.in_err-spelled.field-0.0 c.in_err-spelled.ensures same))

-- Goals of `read_lines`.
use Rattle.std.proofs.Common.{arith, ◌∙◌}
use Rattle.std.proofs.lemmas.Result.{err_from_is_err_and}
use Rattle.cb_transcript.proofs.TextLemmas.{one_more, all_read, refused, one_reading, no_reading}
use Rattle.cb_transcript.proofs.lines.read_lines.Goals as goal

pub returns-in_err-add_line-clause-fault : goal.returns-in_err-add_line-clause-fault
returns-in_err-add_line-clause-fault g c =
    let p = err_from_is_err_and c.from_residual.result c.from_residual.ensures.1 in
    rw (p.1, p.2) (refused _ _ _ _ _ _ _ c.loop-bytes.invariant.read (c.loop-bytes.invariant.left ∙ c.in-Some.ensures.0) c.in_err-add_line.ensures.fault c.in_err-add_line.ensures.memory)

pub returns-in_err-add_line-clause-only : goal.returns-in_err-add_line-clause-only
returns-in_err-add_line-clause-only g c =
    let p = err_from_is_err_and c.from_residual.result c.from_residual.ensures.1 in
    let refuses = refused _ _ _ _ _ _ _ c.loop-bytes.invariant.read (c.loop-bytes.invariant.left ∙ c.in-Some.ensures.0) c.in_err-add_line.ensures.fault c.in_err-add_line.ensures.memory in
    rw (p.1, p.2) (λ meant read. no_reading _ _ meant _ refuses read)

pub returns-clause-only : goal.returns-clause-only
returns-clause-only g c = λ meant read.
    one_reading _ _ _ meant (all_read _ _ _ _ c.loop-bytes.invariant.read (c.loop-bytes.invariant.left ∙ c.in_default.ensures)) read

pub loop-bytes-preserved : goal.loop-bytes-preserved
loop-bytes-preserved g c =
    let more = one_more _ _ _ _ _ _ _ c.loop-bytes.invariant.read (c.loop-bytes.invariant.left ∙ c.in-Some.ensures.0) c.in_ok-add_line.ensures.ok c.in_ok-add_line.ensures.added in
    record { read = more.0; left = more.1; count = omega (arith, c.in-Some.ensures.1) }

pub returns-clause-events : goal.returns-clause-events
returns-clause-events g c = all_read _ _ _ _ c.loop-bytes.invariant.read (c.loop-bytes.invariant.left ∙ c.in_default.ensures)

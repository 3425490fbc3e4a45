-- Goals of `split_line`.
use Rattle.std.proofs.Common.{arith, sym}
use Rattle.std.proofs.lemmas.Grind.{common_steps}
use Rattle.cb_transcript.proofs.PiecesLemmas.{line_cut, last_line, no_line}
use Rattle.cb_transcript.proofs.pieces.split_line.Goals as goal

pub returns-then-is_empty : goal.returns-then-is_empty
returns-then-is_empty c = no_line _ (grind arith)

pub returns-in_default : goal.returns-in_default
returns-in_default c = grind (arith, common_steps, last_line c.args.text.now, no_line c.split_at.result.1.now)

pub returns : goal.returns
returns c =
    line_cut _ _ _ _ _ _ (sym c.in-Some.ensures) c.split_at-2.ensures.front c.split_at-2.ensures.back c.split_at-3.ensures.back c.without_carriage_return.ensures

-- Goals of `split_word`.
use Rattle.std.proofs.Common.{sym}
use Rattle.cb_transcript.proofs.PiecesLemmas.{blanks_only, word_found}
use Rattle.cb_transcript.proofs.pieces.split_word.Goals as goal

pub returns-in_default : goal.returns-in_default
returns-in_default c = blanks_only _ (sym c.in_default.ensures)

pub returns : goal.returns
returns c =
    rw (c.split_at-2.ensures.front, c.split_at-2.ensures.back) (word_found _ _ _ _ _ (sym c.in-Some.ensures) c.split_at.ensures.back c.word_end.ensures c.unwrap_or-end.ensures)

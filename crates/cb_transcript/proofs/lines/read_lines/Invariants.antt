-- What holds at each turn of the loops of `read_lines`.
use Rattle.std.proofs.Common.{◌≡◌, ◌≤◌, ◌+◌, length, drop}
use Rattle.cb_transcript.specs.Pieces.{lines_of}
use Rattle.cb_transcript.proofs.TextLemmas.{IsRead}
use Rattle.cb_transcript.proofs.lines.read_lines.Given as goal

abbrev pub invariant-loop-bytes : goal.invariant-loop-bytes
invariant-loop-bytes g l = record {
  read : IsRead (g.E.LineEvent.grammar l.limits) (lines_of l.text) l.line l.events.items;
  left : drop l.line (lines_of l.text) ≡ lines_of l.rest;
  count : l.line + length l.rest ≤ length l.text;
}

abbrev pub decreases-loop-bytes : goal.decreases-loop-bytes
decreases-loop-bytes g l = length l.rest

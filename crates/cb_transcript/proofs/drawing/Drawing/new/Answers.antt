-- Goals of `Drawing::new`.
use Rattle.std.proofs.Common.{rules}
use Rattle.cb_transcript.proofs.drawing.Drawing.new.Goals as goal

pub returns : goal.returns
returns c = search rules

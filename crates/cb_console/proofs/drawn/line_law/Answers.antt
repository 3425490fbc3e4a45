-- Goals of `line_law`.
use Rattle.cb_console.proofs.EventLines.{lines_mean_events}
use Rattle.cb_console.proofs.drawn.line_law.Goals as goal

pub returns : goal.returns
returns c = lines_mean_events

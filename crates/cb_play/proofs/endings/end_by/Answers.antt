-- Goals of `end_by`.
use Rattle.std.proofs.Common.{rules}
use Rattle.cb_play.proofs.endings.end_by.Goals as goal

pub returns-in-BrokenPipe : goal.returns-in-BrokenPipe
returns-in-BrokenPipe g c = search rules

pub returns-in_default : goal.returns-in_default
returns-in_default g c = search rules

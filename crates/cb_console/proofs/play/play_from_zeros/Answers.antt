-- Goals of `play_from_zeros`.
use Rattle.std.proofs.Common.{rules}
use Rattle.cb_console.proofs.play.play_from_zeros.Goals as goal

pub returns-in-Ok : goal.returns-in-Ok
returns-in-Ok c = search rules

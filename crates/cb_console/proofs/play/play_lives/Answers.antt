-- Goals of `play_lives`.
use Rattle.std.proofs.Common.{rules}
use Rattle.cb_console.proofs.play.play_lives.Goals as goal

pub returns-in-Ok : goal.returns-in-Ok
returns-in-Ok c = search rules

-- Goals of `command_event`.
use Rattle.std.proofs.Common.{rules}
use Rattle.cb_transcript.proofs.text.command_event.Goals as goal

pub returns : goal.returns
returns c = search rules

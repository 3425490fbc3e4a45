-- Goals of `put_verdict`.
use Rattle.std.proofs.Common.{rules}
use Rattle.cb_console.proofs.output.put_verdict.Goals as goal

pub returns : goal.returns
returns g c = search rules

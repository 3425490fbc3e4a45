-- Goals of `Kind::name`.
use Rattle.std.proofs.Common.{rules}
use Rattle.cb_frame.proofs.kind.Kind.name.Goals as goal

pub returns-in-Callback : goal.returns-in-Callback
returns-in-Callback c = search rules

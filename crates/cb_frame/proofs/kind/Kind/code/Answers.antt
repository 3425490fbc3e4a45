-- Goals of `Kind::code`.
use Rattle.std.proofs.Common.{rules}
use Rattle.cb_frame.proofs.kind.Kind.code.Goals as goal

pub returns-in-AbortNow : goal.returns-in-AbortNow
returns-in-AbortNow c = search rules

-- Goals of `Kind::goes_to_server`.
use Rattle.std.proofs.Common.{rules}
use Rattle.cb_frame.proofs.kind.Kind.goes_to_server.Goals as goal

pub returns : goal.returns
returns c = search rules

-- Goals of `Limits::keeping`.
use Rattle.std.proofs.Common.{rules}
use Rattle.cb_page.proofs.limits.Limits.keeping.Goals as goal

pub returns-clause-value : goal.returns-clause-value
returns-clause-value c = search rules

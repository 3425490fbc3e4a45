-- Goals of `hold`.
use Rattle.std.proofs.Common.{rules}
use Rattle.cb_shelf.proofs.flush.hold.Goals as goal

pub returns-in_err-next-clause-err : goal.returns-in_err-next-clause-err
returns-in_err-next-clause-err c = search rules

pub returns-clause-ok : goal.returns-clause-ok
returns-clause-ok c = search rules

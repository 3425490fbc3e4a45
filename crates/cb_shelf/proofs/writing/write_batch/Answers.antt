-- Goals of `write_batch`.
use Rattle.std.proofs.Common.{rules}
use Rattle.cb_shelf.proofs.Asking.{never_from}
use Rattle.cb_shelf.proofs.writing.write_batch.Goals as goal

pub returns-in_err-commit-clause-fault : goal.returns-in_err-commit-clause-fault
returns-in_err-commit-clause-fault g c = never_from _ c.from_residual-in_err-commit.result c.from_residual-in_err-commit.ensures.1

pub returns-clause-both : goal.returns-clause-both
returns-clause-both g c = let inside = c.in_ok-put_batch.ensures.inside in search rules

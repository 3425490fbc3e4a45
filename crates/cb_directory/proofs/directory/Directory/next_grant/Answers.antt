-- Goals of `Directory::next_grant`.
use Rattle.std.proofs.Common.{rules}
use Rattle.cb_directory.proofs.directory.Directory.next_grant.Goals as goal

pub returns-clause-value : goal.returns-clause-value
returns-clause-value c = search rules

pub returns-clause-left : goal.returns-clause-left
returns-clause-left c = search rules

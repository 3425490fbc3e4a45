-- Goals of `Directory::clear_writer`.
use Rattle.std.proofs.Common.{rules}
use Rattle.cb_directory.proofs.directory.Directory.clear_writer.Goals as goal

pub invariant_of-self : goal.invariant_of-self
invariant_of-self c = search rules

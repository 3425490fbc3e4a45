-- Goals of `Directory::clear_writer_if`.
use Rattle.std.proofs.Common.{rules}
use Rattle.cb_directory.proofs.directory.Directory.clear_writer_if.Goals as goal

pub returns-then-eq : goal.returns-then-eq
returns-then-eq c = search rules

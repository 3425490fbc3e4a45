-- Goals of `Directory::set_writer`.
use Rattle.std.proofs.Common.{rules}
use Rattle.cb_directory.proofs.directory.Directory.set_writer.Goals as goal

pub returns : goal.returns
returns c = search rules

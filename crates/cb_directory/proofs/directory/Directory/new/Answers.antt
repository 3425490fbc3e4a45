-- Goals of `Directory::new`.
use Rattle.std.proofs.Common.{rules}
use Rattle.cb_directory.proofs.directory.Directory.new.Goals as goal

pub returns : goal.returns
returns c = search rules

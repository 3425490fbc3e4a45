-- Goals of `Directory::rows_of_page`.
use Rattle.std.proofs.Common.{rules}
use Rattle.cb_directory.proofs.directory.Directory.rows_of_page.Goals as goal

pub returns : goal.returns
returns c = search rules

-- Goals of `Directory::forget_client`.
use Rattle.std.proofs.Common.{rules}
use Rattle.cb_directory.proofs.directory.Directory.forget_client.Goals as goal

pub returns : goal.returns
returns c = search rules

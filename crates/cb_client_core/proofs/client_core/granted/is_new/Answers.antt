-- Goals of `is_new`.
use Rattle.std.proofs.Common.{rules}
use Rattle.cb_client_core.proofs.client_core.granted.is_new.Goals as goal

pub returns-in-Some : goal.returns-in-Some
returns-in-Some c = search rules

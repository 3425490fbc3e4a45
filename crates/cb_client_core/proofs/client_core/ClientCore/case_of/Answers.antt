-- Goals of `ClientCore::case_of`.
use Rattle.std.proofs.Common.{rules}
use Rattle.cb_client_core.proofs.client_core.ClientCore.case_of.Goals as goal

pub returns-in-None : goal.returns-in-None
returns-in-None g c = search rules

-- Goals of `PolledClient::begin`.
use Rattle.std.proofs.Common.{refl}
use Rattle.cb_handle.proofs.Deciding.{called_free}
use Rattle.cb_handle.proofs.polled_client.PolledClient.begin.Goals as goal
use Rattle.cb_protocol.specs.Answers as table
use Rattle.cb_protocol.specs.ClientCalls.{CallBegin}

pub returns-in-Ok-clause-why : goal.returns-in-Ok-clause-why
returns-in-Ok-clause-why c = called_free c.args.self.now.client _ CallBegin table.AnsweredOk _ _ c.in-Ok.ensures.1 refl

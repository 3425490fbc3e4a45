-- Goals of `PolledClient::write`.
use Rattle.std.proofs.Common.{refl}
use Rattle.cb_handle.proofs.Deciding.{called_free}
use Rattle.cb_handle.proofs.polled_client.PolledClient.write.Goals as goal
use Rattle.cb_protocol.specs.Answers as table
use Rattle.cb_protocol.specs.ClientCalls.{CallWrite}

pub returns-in-Ok-clause-why : goal.returns-in-Ok-clause-why
returns-in-Ok-clause-why c = called_free c.args.self.now.client _ (CallWrite c.args.page c.args.bytes.now) table.AnsweredOk _ _ c.in-Ok.ensures refl

-- Goals of `PolledClient::finish`.
use Rattle.std.proofs.Common.{refl}
use Rattle.cb_handle.proofs.Deciding.{called_fetched}
use Rattle.cb_handle.proofs.polled_client.PolledClient.finish.Goals as goal
use Rattle.cb_protocol.specs.Answers as table
use Rattle.cb_protocol.specs.ClientCalls.{CallFinish}

pub returns-in-Ok-clause-why : goal.returns-in-Ok-clause-why
returns-in-Ok-clause-why c = called_fetched c.args.self.now.said c.args.self.now.client _ CallFinish table.AnsweredOk _ _ (c.in_ok-check_fetched.ensures.fetched refl) c.in-Ok.ensures.by_table refl

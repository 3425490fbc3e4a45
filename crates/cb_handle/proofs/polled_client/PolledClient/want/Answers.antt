-- Goals of `PolledClient::want`.
use Rattle.std.proofs.Common.{refl}
use Rattle.cb_handle.proofs.Deciding.{called_fetched}
use Rattle.cb_handle.proofs.polled_client.PolledClient.want.Goals as goal
use Rattle.cb_protocol.specs.Answers as table
use Rattle.cb_protocol.specs.ClientCalls.{CallWant}

pub returns-in-Ok-Permitted-clause-why : goal.returns-in-Ok-Permitted-clause-why
returns-in-Ok-Permitted-clause-why c =
    let wants = rw c.in-Ok-Permitted.field-0-is at c.in-Ok-Permitted.ensures.by_table in
    called_fetched c.args.self.now.said c.args.self.now.client _ (CallWant c.args.page) table.Permitted _ _ (c.in_ok-check_fetched.ensures.fetched refl) wants refl

pub returns-in-Ok-Asked-clause-why : goal.returns-in-Ok-Asked-clause-why
returns-in-Ok-Asked-clause-why c =
    let wants = rw c.in-Ok-Asked.field-0-is at c.in-Ok-Asked.ensures.by_table in
    called_fetched c.args.self.now.said c.args.self.now.client _ (CallWant c.args.page) table.Asked _ _ (c.in_ok-check_fetched.ensures.fetched refl) wants refl

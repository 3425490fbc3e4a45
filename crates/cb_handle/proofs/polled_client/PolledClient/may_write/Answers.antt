-- Goals of `PolledClient::may_write`.
use Rattle.std.proofs.Common.{ℕ, subst}
use Rattle.cb_handle.specs.Clients.{MayWrite}
use Rattle.cb_handle.proofs.polled_client.PolledClient.may_write.Goals as goal

pub returns-clause-within : goal.returns-clause-within
returns-clause-within c = λ within. subst (λ (page : ℕ). MayWrite c.args.self.now.client page c.may_write.result) c.new.ensures c.may_write.ensures.value

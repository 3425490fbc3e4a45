-- Goals of `Client::may_write`.
use Rattle.std.proofs.Common.{rules}
use Rattle.cb_client.proofs.client.Client.may_write.Goals as goal

pub returns-then-is_open : goal.returns-then-is_open
returns-then-is_open g c = search rules

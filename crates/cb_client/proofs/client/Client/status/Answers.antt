-- Goals of `Client::status`.
use Rattle.std.proofs.Common.{rules}
use Rattle.cb_client.proofs.client.Client.status.Goals as goal

pub returns-in-Open-default : goal.returns-in-Open-default
returns-in-Open-default g c = search rules

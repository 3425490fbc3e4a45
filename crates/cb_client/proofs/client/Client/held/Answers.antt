-- Goals of `Client::held`.
use Rattle.std.proofs.Common.{rules}
use Rattle.cb_client.proofs.client.Client.held.Goals as goal

pub returns-in-Some : goal.returns-in-Some
returns-in-Some g c = search rules

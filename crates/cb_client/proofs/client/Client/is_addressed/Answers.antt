-- Goals of `Client::is_addressed`.
use Rattle.std.proofs.Common.{rules}
use Rattle.cb_client.proofs.client.Client.is_addressed.Goals as goal

pub returns-then-eq : goal.returns-then-eq
returns-then-eq g c = search rules

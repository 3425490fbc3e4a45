-- Goals of `downgrades_are_answered`.
use Rattle.cb_client.proofs.Answering.{answers_downgrade}
use Rattle.cb_client.proofs.laws.downgrades_are_answered.Goals as goal

pub returns : goal.returns
returns c = answers_downgrade

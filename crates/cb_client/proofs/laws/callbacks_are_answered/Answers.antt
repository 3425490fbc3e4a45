-- Goals of `callbacks_are_answered`.
use Rattle.cb_client.proofs.Answering.{answers_callback}
use Rattle.cb_client.proofs.laws.callbacks_are_answered.Goals as goal

pub returns : goal.returns
returns c = answers_callback

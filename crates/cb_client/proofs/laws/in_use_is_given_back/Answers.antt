-- Goals of `in_use_is_given_back`.
use Rattle.cb_client.proofs.Answering.{gives_back}
use Rattle.cb_client.proofs.laws.in_use_is_given_back.Goals as goal

pub returns : goal.returns
returns c = gives_back

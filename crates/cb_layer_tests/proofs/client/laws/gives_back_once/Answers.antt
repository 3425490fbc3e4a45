-- Goals of `gives_back_once`.
use Rattle.cb_layer_tests.proofs.client.laws.gives_back_once.Goals as goal

pub returns : goal.returns
returns g c = c.in_use_is_given_back.ensures c.args.client.now c.limits-known.ensures.arose

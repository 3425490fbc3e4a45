-- Goals of `give_back`.
use Rattle.cb_layer_tests.proofs.Of.{still_of}
use Rattle.cb_layer_tests.proofs.server.callbacks.give_back.Goals as goal

pub returns : goal.returns
returns c =
    still_of c.args.limits.now c.args.callbacks.now.state c.give_back.new.self.state c.requires.of
    (c.give_back.ensures 0).stays

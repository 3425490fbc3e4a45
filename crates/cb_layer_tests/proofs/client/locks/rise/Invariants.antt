-- What holds at each turn of the loops of `rise`.
use Rattle.std.specs.Vec.{vec_len}
use Rattle.cb_layer_tests.proofs.client.locks.rise.Given as goal

-- one fewer is left each time
abbrev pub decreases-loop-due : goal.decreases-loop-due
decreases-loop-due l = vec_len l.dues

-- Goals of `FifoChooser::make`.
use Rattle.cb_twoq.proofs.InOrder.{none_once}
use Rattle.cb_layer_tests.proofs.pool.fifo.FifoChooser.make.Goals as goal

pub invariant_of-result : goal.invariant_of-result
invariant_of-result c = rw c.new.ensures.items (none_once c.slots.result)

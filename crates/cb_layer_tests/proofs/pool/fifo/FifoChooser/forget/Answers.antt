-- Goals of `FifoChooser::forget`.
use Rattle.cb_twoq.proofs.InOrder.{leaves, leaves_once}
use Rattle.cb_layer_tests.proofs.pool.fifo.FifoChooser.forget.Goals as goal

pub invariant_of-self : goal.invariant_of-self
invariant_of-self c = rw c.take_off.ensures.items (leaves_once _ _ c.args.page c.self.invariant)

pub returns-clause-forgets : goal.returns-clause-forgets
returns-clause-forgets c = rw (c.take_off.ensures.items, ← c.self.view_is) (leaves _ _ c.args.page c.self.invariant)

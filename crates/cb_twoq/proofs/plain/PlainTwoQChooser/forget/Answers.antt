-- Goals of `PlainTwoQChooser::forget`.
use Rattle.cb_twoq.proofs.Forgotten.{forgotten, forgotten_queues}
use Rattle.cb_twoq.proofs.plain.PlainTwoQChooser.forget.Goals as goal

pub invariant_of-self : goal.invariant_of-self
invariant_of-self c = rw c.forget.ensures (forgotten_queues _ c.args.page c.self.invariant)

pub returns-clause-forgets : goal.returns-clause-forgets
returns-clause-forgets c = rw (c.forget.ensures, ← c.self.view_is) (forgotten _ c.args.page c.self.invariant)

-- Goals of `Callbacks::forget`.
use Rattle.std.proofs.Common.{rules}
use Rattle.cb_callbacks.proofs.Flushing.{kept_forgotten}
use Rattle.cb_callbacks.proofs.callbacks.Callbacks.forget.Goals as goal

pub invariant_of-self : goal.invariant_of-self
invariant_of-self c = rw c.forget.ensures (kept_forgotten c.self.inside.state c.self.inside.view c.args.number c.self.invariant)

-- Goals of `Worker::is_committing`.
use Rattle.std.proofs.Common.{refl, sym, true≢false}
use Rattle.cb_worker.proofs.Standing.{committing_so, says_committing}
use Rattle.cb_worker.specs.Committing.{IsCommitting}
use Rattle.cb_worker.proofs.worker.Worker.is_committing.Goals as goal

pub returns-in-Committing : goal.returns-in-Committing
returns-in-Committing g c =
    let is : IsCommitting c.args.self.now.client = rw (← c.self.view_is) (committing_so c.self.inside.client c.status.result c.status.ensures c.in-Committing.is) in
    (λ _. is, λ _. refl)

pub returns-in_default : goal.returns-in_default
returns-in_default g c =
    (λ f. absurd (true≢false (sym f)), λ is. absurd (c.in_default.not-Committing (says_committing c.self.inside.client c.status.result c.status.ensures (rw (← c.self.view_is) at is))))

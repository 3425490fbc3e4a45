-- Goals of `Worker::commit_frame`.
use Rattle.std.proofs.Common.{◌≡◌, IsTrue, false, rules}
use Rattle.cb_worker.proofs.Saying.{again_none, finish_refused, finish_says}
use Rattle.cb_worker.specs.Committing.{IsCommitting}
use Rattle.cb_worker.proofs.worker.Worker.commit_frame.Goals as goal

pub returns-then-not-is_committing-clause-says : goal.returns-then-not-is_committing-clause-says
returns-then-not-is_committing-clause-says g c = finish_says _ _ _ c.finish.ensures.by_table

pub returns-then-not-is_committing-clause-err : goal.returns-then-not-is_committing-clause-err
returns-then-not-is_committing-clause-err g c =
    let unsaid : c.is_committing.result ≡ false = search rules in
    let no : IsCommitting c.args.self.now.client → ⊥ = λ is. let said : IsTrue c.is_committing.result = c.is_committing.ensures.1 is in absurd cc in
    rw (← c.self.view_is) (finish_refused c.self.inside.client _ _ (rw (← c.self.view_is) at no) c.finish.ensures.by_table)

pub unreachable-requires : goal.unreachable-requires
unreachable-requires g c =
    let is : IsCommitting c.args.self.now.client = search rules in
    again_none c.self.inside.client (rw (← c.self.view_is) at is) (λ ops. rw c.in_default.is at (c.in_ok-frame.ensures.by_table ops))

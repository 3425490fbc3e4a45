-- Goals of `Worker::finish_by`.
use Rattle.std.proofs.Common.{◌≡◌, IsTrue, false, inr, refl, rules}
use Rattle.cb_worker.proofs.Saying.{by_frame, by_frame_refused, by_frame_says, committing_stage}
use Rattle.cb_worker.specs.Committing.{IsCommitting}
use Rattle.cb_worker.proofs.worker.Worker.finish_by.Goals as goal

pub returns-then-is_committing-clause-ok : goal.returns-then-is_committing-clause-ok
returns-then-is_committing-clause-ok g c =
    let is : IsCommitting c.args.self.now.client = search rules in
    inr (is, c.requires.says (committing_stage c.args.self.now.client is), refl)

pub returns-then-is_committing-clause-says : goal.returns-then-is_committing-clause-says
returns-then-is_committing-clause-says g c =
    let is : IsCommitting c.args.self.now.client = search rules in
    c.requires.says (committing_stage c.args.self.now.client is)

pub returns-clause-ok : goal.returns-clause-ok
returns-clause-ok g c = rw (← c.self.view_is) (by_frame _ _ c.args.frame.now c.finish_with.result c.finish_with.ensures.by_table)

pub returns-clause-says : goal.returns-clause-says
returns-clause-says g c = by_frame_says _ _ c.args.frame.now c.finish_with.result c.finish_with.ensures.by_table

pub returns-clause-err : goal.returns-clause-err
returns-clause-err g c =
    let unsaid : c.is_committing.result ≡ false = search rules in
    let no : IsCommitting c.args.self.now.client → ⊥ = λ is. let said : IsTrue c.is_committing.result = c.is_committing.ensures.1 is in absurd cc in
    rw (← c.self.view_is) (by_frame_refused c.self.inside.client _ c.args.frame.now _ (rw (← c.self.view_is) at no) c.finish_with.ensures.by_table)

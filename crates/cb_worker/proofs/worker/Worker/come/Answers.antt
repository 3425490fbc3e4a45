-- Goals of `Worker::come`.
use Rattle.std.proofs.Common.{sym}
use Rattle.cb_worker.proofs.Staying.{read_here_still}
use Rattle.cb_worker.proofs.worker.Worker.come.Goals as goal

pub returns-then-may_write-clause-comes : goal.returns-then-may_write-clause-comes
returns-then-may_write-clause-comes g c = rw c.in-Permission.is (λ ops. rw (← c.self.view_is) (sym (c.if-may_write.ensures.value ops)))

pub returns-then-read_here-clause-still : goal.returns-then-read_here-clause-still
returns-then-read_here-clause-still g c = read_here_still c.args.self.now c.read_here.new.self c.in-Page.page c.read_here.ensures.after

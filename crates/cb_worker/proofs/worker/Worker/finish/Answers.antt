-- Goals of `Worker::finish`.
use Rattle.std.proofs.Common.{rules}
use Rattle.cb_worker.proofs.Staying.{after}
use Rattle.cb_worker.proofs.Written.{has_committed}
use Rattle.cb_worker.specs.Waiting.{IsFinished}
use Rattle.cb_worker.specs.Workers.{HasTransaction}
use Rattle.cb_worker.proofs.worker.Worker.finish.Goals as goal

pub returns-clause-commits : goal.returns-clause-commits
returns-clause-commits g c =
    let had : HasTransaction c.args.self.now = search rules in
    let so : IsFinished c.wait_on.new.self c.in-Ended.finished = rw c.in-Ended.is at c.in_ok-finished.ensures.comes in
    let still = after c.args.self.now c.begin_finish-first.new.self c.wait_on.new.self c.begin_finish-first.ensures.still c.wait_on.ensures.still in
    has_committed c.args.self.now c.wait_on.new.self c.in-Ended.finished had (record { had = had; same = still.txn; ended = so }) (c.in_ok-finished.ensures.begun c.args.self.now c.begin_finish-first.ensures.begun)

pub returns-in_err-finished-clause-still : goal.returns-in_err-finished-clause-still
returns-in_err-finished-clause-still g c = after c.args.self.now c.begin_finish-first.new.self c.wait_on.new.self c.begin_finish-first.ensures.still c.wait_on.ensures.still

pub returns-clause-still : goal.returns-clause-still
returns-clause-still g c = after c.args.self.now c.begin_finish-first.new.self c.wait_on.new.self c.begin_finish-first.ensures.still c.wait_on.ensures.still

pub begin_finish-first-requires : goal.begin_finish-first-requires
begin_finish-first-requires g c = record { says = c.in_ok-frame.ensures.says; arose = c.frame_to_commit.ensures.arose }

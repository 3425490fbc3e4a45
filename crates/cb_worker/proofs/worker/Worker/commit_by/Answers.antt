-- Goals of `Worker::commit_by`.
use Rattle.std.proofs.Common.{◌≡◌, Ok, Err, rules}
use Rattle.cb_worker.proofs.Saying.{hands_commit_in}
use Rattle.cb_worker.specs.declared.worker_fault.WorkerFault.TheVariants as worker
use Rattle.cb_worker.proofs.worker.Worker.commit_by.Goals as goal

pub returns-in_err-hand_frame_in : goal.returns-in_err-hand_frame_in
returns-in_err-hand_frame_in g c =
    let is : c.from_residual-in_err-hand_frame_in.result ≡ Err (worker.Office c.in_err-hand_frame_in.field-0.0) = search rules in
    rw is (hands_commit_in c.args.self.now c.finish_by.new.self c.hand_frame_in.new.self c.args.station.now c.hand_frame_in.new.station c.args.frame (Err c.in_err-hand_frame_in.field-0.0) c.in_ok-finish_by.ensures.ok c.in_ok-finish_by.ensures.says
    c.hand_frame_in.ensures.arose c.in_ok-finish_by.ensures.rest c.in_err-hand_frame_in.ensures.hands)

pub returns : goal.returns
returns g c =
    hands_commit_in c.args.self.now c.finish_by.new.self c.hand_frame_in.new.self c.args.station.now c.hand_frame_in.new.station c.args.frame (Ok c.in_ok-hand_frame_in.field-0) c.in_ok-finish_by.ensures.ok c.in_ok-finish_by.ensures.says
    c.hand_frame_in.ensures.arose c.in_ok-finish_by.ensures.rest c.in_ok-hand_frame_in.ensures.hands

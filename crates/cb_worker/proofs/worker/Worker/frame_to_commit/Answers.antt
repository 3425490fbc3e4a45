-- Goals of `Worker::frame_to_commit`.
use Rattle.std.proofs.Common.{◌≡◌, false, true, true≢false, sym, Err, refl, rules}
use Rattle.cb_client.specs.declared.client_fault.ClientFault.TheVariants.{Memory}
use Rattle.cb_worker.proofs.Saying.{has_stage}
use Rattle.cb_worker.specs.declared.worker_fault.WorkerFault.TheVariants as worker
use Rattle.cb_worker.proofs.worker.Worker.frame_to_commit.Goals as goal

pub commit_frame-requires : goal.commit_frame-requires
commit_frame-requires g c =
    let busy = has_stage c.args.self.now c.requires in
    rw (← c.self.view_is) at busy

pub returns-in_err-commit_frame-clause-lacks : goal.returns-in_err-commit_frame-clause-lacks
returns-in_err-commit_frame-clause-lacks g c =
    let same : c.from_residual.result ≡ Err (worker.Client Memory) = search rules in
    rw same (record { memory = refl; had = c.requires; wrote = λ none. let z : false ≡ true = c.in_err-commit_frame.ensures.nothing (rw (← c.self.view_is) at none) in absurd (true≢false (sym z)) })

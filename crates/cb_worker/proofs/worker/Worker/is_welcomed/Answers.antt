-- Goals of `Worker::is_welcomed`.
use Rattle.std.proofs.Common.{◌≡◌, sym, true, true≢false}
use Rattle.cb_worker.proofs.Standing.{welcomed_so}
use Rattle.cb_worker.proofs.worker.Worker.is_welcomed.Goals as goal

pub returns-in-NotWelcome : goal.returns-in-NotWelcome
returns-in-NotWelcome g c = λ f. absurd (true≢false (sym f))

pub returns-in_default : goal.returns-in_default
returns-in_default g c =
    let is : c.args.self.now.client.welcomed ≡ true = rw (← c.self.view_is) (welcomed_so c.self.inside.client c.status.result c.status.ensures c.in_default.not-NotWelcome) in
    λ _. is

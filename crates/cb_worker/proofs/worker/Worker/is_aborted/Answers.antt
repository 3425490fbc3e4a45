-- Goals of `Worker::is_aborted`.
use Rattle.std.proofs.Common.{refl, subst}
use Rattle.cb_protocol.specs.Client as protocol
use Rattle.cb_worker.proofs.Standing.{ended_once}
use Rattle.cb_worker.specs.Waiting.{ending_of}
use Rattle.cb_worker.specs.Workers.{Ended}
use Rattle.cb_worker.specs.declared.answers.Finished.{Finished}
use Rattle.cb_worker.proofs.worker.Worker.is_aborted.Goals as goal

pub returns-in-Some-Aborted : goal.returns-in-Some-Aborted
returns-in-Some-Aborted g c =
    let ended : Ended c.args.self.now protocol.Aborted = subst (λ (x : Finished). Ended c.args.self.now (ending_of x)) c.in-Some-Aborted.field-0-is c.in-Some-Aborted.ensures.so in
    (λ _. record { welcomed = c.in-Some-Aborted.ensures.welcomed refl; ended = ended }, λ _. refl)

pub returns-in-Some-Committed : goal.returns-in-Some-Committed
returns-in-Some-Committed g c =
    let ended : Ended c.args.self.now (protocol.Committed c.in-Some-Committed.field-0-0) = subst (λ (x : Finished). Ended c.args.self.now (ending_of x)) c.in-Some-Committed.field-0-is c.in-Some-Committed.ensures.so in
    (λ f. absurd cc, λ was. absurd (ended_once c.args.self.now (protocol.Committed c.in-Some-Committed.field-0-0) ended (λ e. absurd cc) was))

pub returns-in-None : goal.returns-in-None
returns-in-None g c = (λ f. absurd cc, λ was. absurd (c.ended.ensures.none c.in-None.is was))

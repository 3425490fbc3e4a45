-- Goals of `Worker::read_here`.
use Rattle.std.proofs.Common.{◌≡◌, true, sym, ◌∙◌, ap}
use Rattle.cb_client.specs.CallAnswers.{after_read_here, reads_here}
use Rattle.cb_worker.proofs.Reading.{shown_hits, read_is_hit}
use Rattle.cb_worker.specs.Workers.{WorkerState, after_hit, shows_copy, with_client}
use Rattle.cb_worker.proofs.worker.Worker.read_here.Goals as goal

pub returns-clause-here : goal.returns-clause-here
returns-clause-here g c =
    let shown : shows_copy c.args.self.now c.args.page ≡ true = sym c.if-not-shows_copy.ensures in
    c.read_here.ensures.here ∙ ap (λ (w : WorkerState). reads_here w.client c.args.page) c.self.view_is ∙ shown_hits c.args.self.now c.args.page shown

pub returns-clause-after : goal.returns-clause-after
returns-clause-after g c =
    let shown : shows_copy c.args.self.now c.args.page ≡ true = sym c.if-not-shows_copy.ensures in
    let e : with_client c.args.self.now (after_read_here c.args.self.now.client c.args.page) ≡ after_hit c.args.self.now c.args.page = read_is_hit c.args.self.now c.args.page shown in
    rw (c.read_here.ensures.after, ← c.self.view_is) (rw (← c.self.view_is) at e)

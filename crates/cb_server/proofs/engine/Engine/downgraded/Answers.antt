-- Goals of `Engine::downgraded`.
use Rattle.std.proofs.Common.{◌∙◌, sym, refl}
use Rattle.cb_server.proofs.DirectAnswers.{goes_down}
use Rattle.cb_server.proofs.engine.Engine.downgraded.Goals as goal

pub returns-then-has_kept_permission : goal.returns-then-has_kept_permission
returns-then-has_kept_permission c =
    goes_down c.args.self.now (record { callbacks = c.end_permission.new.self; outbox = c.args.self.now.outbox }) c.args.client c.args.page c.args.grant c.args.tag
    (sym c.has_kept_permission.ensures ∙ c.if-has_kept_permission.true) (c.end_permission.ensures c.args.grant c.args.tag) refl

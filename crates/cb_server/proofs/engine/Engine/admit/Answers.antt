-- Goals of `Engine::admit`.
use Rattle.cb_protocol.specs.ServerMessages.{admit_incarnation}
use Rattle.cb_protocol.specs.Settling.{settle_pages}
use Rattle.cb_protocol.specs.WaitsFor.{on_cycle}
use Rattle.cb_server.proofs.Making.{admits, makes_then, serves}
use Rattle.cb_server.proofs.Counting.{admission}
use Rattle.cb_server.proofs.Rooms.{settles_after_admission}
use Rattle.cb_server.proofs.engine.Engine.admit.Goals as goal

pub settle-requires : goal.settle-requires
settle-requires c =
    settles_after_admission c.reserve.new.self (record { callbacks = c.admit.new.self; outbox = c.say.new.self }) c.args.client c.args.incarnation c.in_ok-reserve.ensures.ok
    (admits c.reserve.new.self (record { callbacks = c.admit.new.self; outbox = c.say.new.self }) c.args.client c.args.incarnation c.admit.ensures c.say.ensures)

pub returns-clause-ok : goal.returns-clause-ok
returns-clause-ok c =
    serves c.args.self.now c.reserve.new.self c.settle.new.self (λ s. admit_incarnation on_cycle s c.args.client c.args.incarnation) c.in_ok-reserve.ensures.left
    (makes_then c.reserve.new.self (record { callbacks = c.admit.new.self; outbox = c.say.new.self }) c.settle.new.self (λ s. admission c.args.client c.args.incarnation) (λ s. settle_pages on_cycle s s.pages)
    (admits c.reserve.new.self (record { callbacks = c.admit.new.self; outbox = c.say.new.self }) c.args.client c.args.incarnation c.admit.ensures c.say.ensures) c.settle.ensures)

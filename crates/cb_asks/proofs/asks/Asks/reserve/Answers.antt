-- Goals of `Asks::reserve`.
use Rattle.std.proofs.Common.{◌≡◌, ◌<◌, ◌+◌, List, refl, length, slice_index_or, ap, ◌∙◌, arith}
use Rattle.cb_asks.specs.Asks.{queue_at}
use Rattle.cb_asks.specs.Maps.{used}
use Rattle.cb_asks.specs.Queues.{QueueState, no_queue}
use Rattle.cb_asks.proofs.Calls.{noted_is, read_here, reserved}
use Rattle.cb_asks.proofs.Maps.{maps_kept}
use Rattle.cb_protocol.specs.Deadlock.{ask_count}
use Rattle.cb_protocol.specs.Server.{WaitingAsk}
use Rattle.cb_protocol.specs.ServerMessages.{read_asks_in}
use Rattle.cb_asks.proofs.asks.Asks.reserve.Goals as goal

pub invariant_of-self : goal.invariant_of-self
invariant_of-self c = (
  noted_is c.self.inside.queues.items c.self.inside.places c.args.page c.self.invariant.0 within c.reserve.new.self (λ client. ap (ask_count client) same) (ap read_asks_in same) (ap length same) c.index.result c.index.ensures.value,
  maps_kept c.self.inside.queues.items c.args.page within (slice_index_or c.self.inside.queues.items c.args.page no_queue) c.reserve.new.self c.self.inside.spare c.self.inside.spare refl c.self.invariant.1
      (ap (λ (asks : List WaitingAsk). used asks + c.self.inside.spare) same ∙ refl) c.index.result c.index.ensures.value,
)
  where
    within : c.args.page < length c.self.inside.queues.items
    within = rw (← c.self.view_is) at c.requires

    read : c.index_mut.result.now ≡ slice_index_or c.self.inside.queues.items c.args.page no_queue
    read = read_here c.self.inside.queues.items c.self.inside.places c.args.page c.self.invariant.0 within c.index.result c.index.ensures.value c.index_mut.result.now c.index_mut.ensures.value

    same : c.reserve.new.self.asks ≡ queue_at (record { queues = c.self.inside.queues.items; places = c.self.inside.places }) c.args.page
    same = c.reserve.ensures.asks ∙ ap (λ (q : QueueState). q.asks) read

pub returns-clause-reserves : goal.returns-clause-reserves
returns-clause-reserves c = rw (← c.self.view_is) (reserved c.self.inside.queues.items c.self.inside.places c.args.page c.self.invariant.0 within c.reserve.new.self same (let e = ap (λ (q : QueueState). q.room) read in let l = c.reserve.ensures.kept in omega arith) c.index.result c.index.ensures.value)
  where
    within : c.args.page < length c.self.inside.queues.items
    within = rw (← c.self.view_is) at c.requires

    read : c.index_mut.result.now ≡ slice_index_or c.self.inside.queues.items c.args.page no_queue
    read = read_here c.self.inside.queues.items c.self.inside.places c.args.page c.self.invariant.0 within c.index.result c.index.ensures.value c.index_mut.result.now c.index_mut.ensures.value

    same : c.reserve.new.self.asks ≡ queue_at (record { queues = c.self.inside.queues.items; places = c.self.inside.places }) c.args.page
    same = c.reserve.ensures.asks ∙ ap (λ (q : QueueState). q.asks) read

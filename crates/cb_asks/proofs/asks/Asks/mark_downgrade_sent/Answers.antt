-- Goals of `Asks::mark_downgrade_sent`.
use Rattle.std.proofs.Common.{◌≡◌, ◌<◌, ◌+◌, ℕ, List, refl, length, slice_index_or, ap, ◌∙◌, arith}
use Rattle.cb_asks.specs.Asks.{queue_at}
use Rattle.cb_asks.specs.Maps.{used}
use Rattle.cb_asks.specs.Queues.{QueueState, no_queue}
use Rattle.cb_asks.proofs.Calls.{has_here, noted_is, read_here, room_here}
use Rattle.cb_asks.proofs.Maps.{maps_kept, used_sent}
use Rattle.cb_asks.proofs.Queues.{count_sent, length_sent, reads_sent}
use Rattle.cb_protocol.specs.Deadlock.{ask_count}
use Rattle.cb_protocol.specs.Server.{WaitingAsk, set_downgrade_sent}
use Rattle.cb_protocol.specs.ServerMessages.{read_asks_in}
use Rattle.cb_asks.proofs.asks.Asks.mark_downgrade_sent.Goals as goal

pub invariant_of-self : goal.invariant_of-self
invariant_of-self c = (
  noted_is c.self.inside.queues.items c.self.inside.places c.args.page c.self.invariant.0 within c.mark_downgrade_sent.new.self (λ client. ap (ask_count client) same ∙ count_sent c.args.tag client (queue_at (record { queues = c.self.inside.queues.items; places = c.self.inside.places }) c.args.page)) (ap read_asks_in same ∙ reads_sent c.args.tag (queue_at (record { queues = c.self.inside.queues.items; places = c.self.inside.places }) c.args.page)) (ap length same ∙ length_sent c.args.tag (queue_at (record { queues = c.self.inside.queues.items; places = c.self.inside.places }) c.args.page)) c.index.result c.index.ensures.value,
  maps_kept c.self.inside.queues.items c.args.page within (slice_index_or c.self.inside.queues.items c.args.page no_queue) c.mark_downgrade_sent.new.self c.self.inside.spare c.self.inside.spare refl c.self.invariant.1
      (ap (λ (asks : List WaitingAsk). used asks + c.self.inside.spare) same ∙ ap (λ (n : ℕ). n + c.self.inside.spare) (used_sent c.args.tag (queue_at (record { queues = c.self.inside.queues.items; places = c.self.inside.places }) c.args.page))) c.index.result c.index.ensures.value,
)
  where
    within : c.args.page < length c.self.inside.queues.items
    within = rw (← c.self.view_is) at c.requires

    read : c.index_mut.result.now ≡ slice_index_or c.self.inside.queues.items c.args.page no_queue
    read = read_here c.self.inside.queues.items c.self.inside.places c.args.page c.self.invariant.0 within c.index.result c.index.ensures.value c.index_mut.result.now c.index_mut.ensures.value

    same : c.mark_downgrade_sent.new.self.asks ≡ set_downgrade_sent c.args.tag (queue_at (record { queues = c.self.inside.queues.items; places = c.self.inside.places }) c.args.page)
    same = c.mark_downgrade_sent.ensures.asks ∙ ap (λ (q : QueueState). set_downgrade_sent c.args.tag q.asks) read

pub returns : goal.returns
returns c = rw (← c.self.view_is) (record {
  has = has_here c.self.inside.queues.items c.self.inside.places c.args.page c.self.invariant.0 within c.self.inside.places c.mark_downgrade_sent.new.self (set_downgrade_sent c.args.tag (queue_at (record { queues = c.self.inside.queues.items; places = c.self.inside.places }) c.args.page)) same c.index.result c.index.ensures.value;
  room = room_here c.self.inside.queues.items c.self.inside.places c.args.page c.self.invariant.0 within c.self.inside.places c.mark_downgrade_sent.new.self (let e = ap (λ (q : QueueState). q.room) read in let l = c.mark_downgrade_sent.ensures.room in omega arith) c.index.result c.index.ensures.value;
})
  where
    within : c.args.page < length c.self.inside.queues.items
    within = rw (← c.self.view_is) at c.requires

    read : c.index_mut.result.now ≡ slice_index_or c.self.inside.queues.items c.args.page no_queue
    read = read_here c.self.inside.queues.items c.self.inside.places c.args.page c.self.invariant.0 within c.index.result c.index.ensures.value c.index_mut.result.now c.index_mut.ensures.value

    same : c.mark_downgrade_sent.new.self.asks ≡ set_downgrade_sent c.args.tag (queue_at (record { queues = c.self.inside.queues.items; places = c.self.inside.places }) c.args.page)
    same = c.mark_downgrade_sent.ensures.asks ∙ ap (λ (q : QueueState). set_downgrade_sent c.args.tag q.asks) read

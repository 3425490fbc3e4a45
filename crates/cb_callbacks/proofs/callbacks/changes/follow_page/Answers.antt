-- Goals of `follow_page`.
use Rattle.std.proofs.Common.{◌≡◌, ◌∙◌, ◌&&◌, ◌==◌, not, ap}
use Rattle.cb_asks.specs.Asks.{queue_at}
use Rattle.cb_asks.specs.Queues.{QueueState}
use Rattle.cb_page.specs.Clients.{has}
use Rattle.cb_server_state.specs.States.{server_of}
use Rattle.cb_callbacks.proofs.Left.{held_up_front}
use Rattle.cb_protocol.specs.Server.{has_ask}
use Rattle.cb_callbacks.proofs.callbacks.changes.follow_page.Goals as goal

pub returns : goal.returns
returns c = record {
  asks = λ front back ask is last other.
      c.follow.ensures.asks front back ask (queue ∙ is) last other
      ∙ ap (λ b. not (ask.client == other) && b) (held_up_front (server_of c.args.state.now) c.args.page (has c.held_up_by-held_up_by.result) front back ask is
      c.held_up_by-held_up_by.ensures.first other);
  rest = λ waiting other none. c.follow.ensures.rest waiting other (ap (has_ask waiting) queue ∙ none);
}
  where
    queue : c.queue.result.now.asks ≡ queue_at c.args.state.now.asks c.args.page
    queue = ap (λ (q : QueueState). q.asks) c.queue.ensures

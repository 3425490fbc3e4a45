-- Goals of `Asks::leave`.
use Rattle.std.proofs.Common.{Some, slice_get, List, ◌+◌, ◌≡◌, ◌<◌, ◌∷◌, ℕ, length, slice_index_or, ap, sym, ◌∙◌, arith}
use Rattle.std.specs.Option.{option_map}
use Rattle.cb_asks.specs.Asks.{queue_at}
use Rattle.cb_asks.specs.Maps.{used}
use Rattle.cb_asks.specs.Queues.{QueueState, no_queue}
use Rattle.cb_protocol.specs.Server.{WaitingAsk, after_first}
use Rattle.cb_asks.specs.Queues.{asked, waiting_ask}
use Rattle.cb_asks.proofs.Calls.{has_here, left_is, left_reads, none_of, read_here, reads_none, room_here}
use Rattle.cb_asks.proofs.Maps.{map_here, maps_kept}
use Rattle.cb_asks.proofs.asks.Asks.leave.Goals as goal

pub leave-requires : goal.leave-requires
leave-requires c = let most = map_here c.self.inside.queues.items c.args.page c.self.inside.spare within c.self.invariant.1 in let e = ap (λ (q : QueueState). used q.asks) read in omega (arith, most, e)
  where
    within : c.args.page < length c.self.inside.queues.items
    within = rw (← c.self.view_is) at c.requires.page

    read : c.index_mut.result.now ≡ slice_index_or c.self.inside.queues.items c.args.page no_queue
    read = read_here c.self.inside.queues.items c.self.inside.places c.args.page c.self.invariant.0 within c.index.result c.index.ensures.value c.index_mut.result.now c.index_mut.ensures.value

pub leave-requires-2 : goal.leave-requires-2
leave-requires-2 c = λ reads. left_reads c.self.inside.queues.items c.self.inside.places c.args.page c.self.invariant.0 within (waiting_ask c.in-Some.first) c.leave.new.self.asks same (sym (none_of c.in-Some.first.write_grant c.is_none.result c.is_none.ensures) ∙ reads)
  where
    within : c.args.page < length c.self.inside.queues.items
    within = rw (← c.self.view_is) at c.requires.page

    read : c.index_mut.result.now ≡ slice_index_or c.self.inside.queues.items c.args.page no_queue
    read = read_here c.self.inside.queues.items c.self.inside.places c.args.page c.self.invariant.0 within c.index.result c.index.ensures.value c.index_mut.result.now c.index_mut.ensures.value

    same : queue_at (record { queues = c.self.inside.queues.items; places = c.self.inside.places }) c.args.page ≡ waiting_ask c.in-Some.first ∷ c.leave.new.self.asks
    same = sym (ap (λ (q : QueueState). q.asks) read) ∙ c.in-Some.ensures.first ∙ ap (λ (l : List WaitingAsk). waiting_ask c.in-Some.first ∷ l) (sym c.leave.ensures.asks)

pub invariant_of-self : goal.invariant_of-self
invariant_of-self c = (
  left_is c.self.inside.queues.items c.self.inside.places c.args.page c.self.invariant.0 within c.leave-2.new.self (waiting_ask c.in-Some.first) c.leave.new.self same c.leave-2.ensures.places
      (c.leave-2.ensures.reads ∙ ap (λ (n : ℕ). c.leave-2.new.self.reads + n) (reads_none c.in-Some.first.write_grant c.is_none.result c.is_none.ensures)) c.index.result c.index.ensures.value,
  maps_kept c.self.inside.queues.items c.args.page within c.index_mut.result.now c.leave.new.self c.self.inside.spare c.leave.new.spare read c.self.invariant.1 c.leave.ensures.maps c.index.result c.index.ensures.value,
)
  where
    within : c.args.page < length c.self.inside.queues.items
    within = rw (← c.self.view_is) at c.requires.page

    read : c.index_mut.result.now ≡ slice_index_or c.self.inside.queues.items c.args.page no_queue
    read = read_here c.self.inside.queues.items c.self.inside.places c.args.page c.self.invariant.0 within c.index.result c.index.ensures.value c.index_mut.result.now c.index_mut.ensures.value

    same : queue_at (record { queues = c.self.inside.queues.items; places = c.self.inside.places }) c.args.page ≡ waiting_ask c.in-Some.first ∷ c.leave.new.self.asks
    same = sym (ap (λ (q : QueueState). q.asks) read) ∙ c.in-Some.ensures.first ∙ ap (λ (l : List WaitingAsk). waiting_ask c.in-Some.first ∷ l) (sym c.leave.ensures.asks)

pub returns-clause-leaves : goal.returns-clause-leaves
returns-clause-leaves c = rw (← c.self.view_is) (record {
  has = has_here c.self.inside.queues.items c.self.inside.places c.args.page c.self.invariant.0 within c.leave-2.new.self c.leave.new.self (after_first (queue_at (record { queues = c.self.inside.queues.items; places = c.self.inside.places }) c.args.page)) (c.leave.ensures.asks ∙ ap (λ (q : QueueState). after_first q.asks) read) c.index.result c.index.ensures.value;
  room = room_here c.self.inside.queues.items c.self.inside.places c.args.page c.self.invariant.0 within c.leave-2.new.self c.leave.new.self (let e = ap (λ (q : QueueState). q.room) read in let l = c.leave.ensures.room in omega arith) c.index.result c.index.ensures.value;
})
  where
    within : c.args.page < length c.self.inside.queues.items
    within = rw (← c.self.view_is) at c.requires.page

    read : c.index_mut.result.now ≡ slice_index_or c.self.inside.queues.items c.args.page no_queue
    read = read_here c.self.inside.queues.items c.self.inside.places c.args.page c.self.invariant.0 within c.index.result c.index.ensures.value c.index_mut.result.now c.index_mut.ensures.value

pub returns-clause-ask : goal.returns-clause-ask
returns-clause-ask c = rw (← c.self.view_is) (ap (λ (l : List WaitingAsk). option_map asked (slice_get l 0)) same ∙ ap Some (sym c.new.ensures))
  where
    within : c.args.page < length c.self.inside.queues.items
    within = rw (← c.self.view_is) at c.requires.page

    read : c.index_mut.result.now ≡ slice_index_or c.self.inside.queues.items c.args.page no_queue
    read = read_here c.self.inside.queues.items c.self.inside.places c.args.page c.self.invariant.0 within c.index.result c.index.ensures.value c.index_mut.result.now c.index_mut.ensures.value

    same : queue_at (record { queues = c.self.inside.queues.items; places = c.self.inside.places }) c.args.page ≡ waiting_ask c.in-Some.first ∷ c.leave.new.self.asks
    same = sym (ap (λ (q : QueueState). q.asks) read) ∙ c.in-Some.ensures.first ∙ ap (λ (l : List WaitingAsk). waiting_ask c.in-Some.first ∷ l) (sym c.leave.ensures.asks)

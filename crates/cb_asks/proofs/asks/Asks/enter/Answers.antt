-- Goals of `Asks::enter`.
use Rattle.std.proofs.Common.{◌+◌, ◌≡◌, ◌<◌, ◌∷◌, ◌++◌, [], ℕ, length, slice_index_or, ap, arith, ◌∙◌}
use Rattle.cb_asks.specs.Asks.{AsksState, queue_at, room_at}
use Rattle.cb_asks.specs.Queues.{QueueState, no_queue}
use Rattle.cb_protocol.specs.ServerMessages.{new_ask}
use Rattle.cb_protocol.specs.Deadlock.{ask_count}
use Rattle.cb_asks.proofs.Calls.{entered_is, has_here, no_place, read_here, reads_none, room_there}
use Rattle.cb_asks.proofs.Maps.{maps_kept, one_spare}
use Rattle.cb_asks.proofs.Steps.{few_reads}
use Rattle.cb_asks.proofs.asks.Asks.enter.Goals as goal

pub enter-requires : goal.enter-requires
enter-requires c = few_reads _ c.self.invariant.0

pub enter-requires-2-clause-spare : goal.enter-requires-2-clause-spare
enter-requires-2-clause-spare c = λ empty. one_spare before c.self.inside.spare c.args.client c.self.invariant.0 c.self.invariant.1 c.enter.ensures.known (no_place before c.self.invariant.0 c.args.client none)
  where
    before : AsksState
    before = record { queues = c.self.inside.queues.items; places = c.self.inside.places }

    none : (other : ℕ) → ask_count c.args.client (queue_at before other) ≡ 0
    none = rw (← c.self.view_is) at c.requires.new

pub enter-requires-2-clause-room : goal.enter-requires-2-clause-room
enter-requires-2-clause-room c = let e = ap (λ (q : QueueState). q.room) read in let l = room in omega (arith, e, l)
  where
    within : c.args.page < length c.self.inside.queues.items
    within = rw (← c.self.view_is) at c.requires.page

    room : 0 < room_at (record { queues = c.self.inside.queues.items; places = c.self.inside.places }) c.args.page
    room = rw (← c.self.view_is) at c.requires.room

    read : c.index_mut.result.now ≡ slice_index_or c.self.inside.queues.items c.args.page no_queue
    read = read_here c.self.inside.queues.items c.self.inside.places c.args.page c.self.invariant.0 within c.index.result c.index.ensures.value c.index_mut.result.now c.index_mut.ensures.value

pub enter-requires-2-clause-new : goal.enter-requires-2-clause-new
enter-requires-2-clause-new c = ap (λ (q : QueueState). ask_count c.args.client q.asks) read ∙ none c.args.page
  where
    within : c.args.page < length c.self.inside.queues.items
    within = rw (← c.self.view_is) at c.requires.page

    read : c.index_mut.result.now ≡ slice_index_or c.self.inside.queues.items c.args.page no_queue
    read = read_here c.self.inside.queues.items c.self.inside.places c.args.page c.self.invariant.0 within c.index.result c.index.ensures.value c.index_mut.result.now c.index_mut.ensures.value

    none : (other : ℕ) → ask_count c.args.client (queue_at (record { queues = c.self.inside.queues.items; places = c.self.inside.places }) other) ≡ 0
    none = rw (← c.self.view_is) at c.requires.new

pub invariant_of-self : goal.invariant_of-self
invariant_of-self c = (
  entered_is c.self.inside.queues.items c.self.inside.places c.args.page c.self.invariant.0 within c.enter.new.self c.args.client c.args.write_grant c.enter-2.new.self c.enter.ensures.known none same c.enter.ensures.places
      (c.enter.ensures.reads ∙ ap (λ (n : ℕ). c.self.inside.places.reads + n) (reads_none c.args.write_grant c.is_none.result c.is_none.ensures)) c.index.result c.index.ensures.value,
  maps_kept c.self.inside.queues.items c.args.page within c.index_mut.result.now c.enter-2.new.self c.self.inside.spare c.enter-2.new.spare read c.self.invariant.1 c.enter-2.ensures.maps c.index.result c.index.ensures.value,
)
  where
    within : c.args.page < length c.self.inside.queues.items
    within = rw (← c.self.view_is) at c.requires.page

    read : c.index_mut.result.now ≡ slice_index_or c.self.inside.queues.items c.args.page no_queue
    read = read_here c.self.inside.queues.items c.self.inside.places c.args.page c.self.invariant.0 within c.index.result c.index.ensures.value c.index_mut.result.now c.index_mut.ensures.value

    none : (other : ℕ) → ask_count c.args.client (queue_at (record { queues = c.self.inside.queues.items; places = c.self.inside.places }) other) ≡ 0
    none = rw (← c.self.view_is) at c.requires.new

    same : c.enter-2.new.self.asks ≡ queue_at (record { queues = c.self.inside.queues.items; places = c.self.inside.places }) c.args.page ++ new_ask c.args.client c.args.write_grant ∷ []
    same = c.enter-2.ensures.asks ∙ ap (λ (q : QueueState). q.asks ++ new_ask c.args.client c.args.write_grant ∷ []) read

pub returns : goal.returns
returns c = rw (← c.self.view_is) (record {
  has = has_here c.self.inside.queues.items c.self.inside.places c.args.page c.self.invariant.0 within c.enter.new.self c.enter-2.new.self (queue_at (record { queues = c.self.inside.queues.items; places = c.self.inside.places }) c.args.page ++ new_ask c.args.client c.args.write_grant ∷ []) same c.index.result c.index.ensures.value;
  room = room_there c.self.inside.queues.items c.self.inside.places c.args.page c.self.invariant.0 within c.enter.new.self c.enter-2.new.self c.index.result c.index.ensures.value;
})
  where
    within : c.args.page < length c.self.inside.queues.items
    within = rw (← c.self.view_is) at c.requires.page

    read : c.index_mut.result.now ≡ slice_index_or c.self.inside.queues.items c.args.page no_queue
    read = read_here c.self.inside.queues.items c.self.inside.places c.args.page c.self.invariant.0 within c.index.result c.index.ensures.value c.index_mut.result.now c.index_mut.ensures.value

    same : c.enter-2.new.self.asks ≡ queue_at (record { queues = c.self.inside.queues.items; places = c.self.inside.places }) c.args.page ++ new_ask c.args.client c.args.write_grant ∷ []
    same = c.enter-2.ensures.asks ∙ ap (λ (q : QueueState). q.asks ++ new_ask c.args.client c.args.write_grant ∷ []) read

-- Goals of `Asks::remove`.
use Rattle.std.proofs.Common.{◌≡◌, ◌<◌, ◌≤◌, ◌+◌, ℕ, length, slice_index_or, ap, sym, subst, ◌∙◌, Some, None, arith}
use Rattle.std.specs.Option.{option_map}
use Rattle.cb_protocol.specs.Deadlock.{ask_count}
use Rattle.cb_protocol.specs.Server.{without_client}
use Rattle.cb_asks.specs.Asks.{AsksState, queue_at}
use Rattle.cb_asks.specs.Maps.{used}
use Rattle.cb_asks.specs.Places.{place_of}
use Rattle.cb_asks.specs.Queues.{Asked, QueueState, ask_by, asked, no_queue, waiting_ask}
use Rattle.cb_asks.proofs.Calls.{found_there, none_of, not_none, nothing_removed, one_there, only_there, read_here, reads_none, removed_is, removed_reads, removes}
use Rattle.cb_asks.proofs.Maps.{map_here, maps_kept}
use Rattle.cb_asks.proofs.Queues.{found_client}
use Rattle.cb_asks.proofs.Steps.{place_within}
use Rattle.cb_asks.proofs.asks.Asks.remove.Goals as goal

pub returns-in_err-page-clause-removes : goal.returns-in_err-page-clause-removes
returns-in_err-page-clause-removes c = rw (← c.self.view_is) (nothing_removed _ c.self.invariant.0 c.args.client (sym c.get.ensures ∙ c.in_err-page.was))

pub index_mut-requires : goal.index_mut-requires
index_mut-requires c = let e = c.index.ensures.value in let less = within in omega arith
  where
    before : AsksState
    before = record { queues = c.self.inside.queues.items; places = c.self.inside.places }

    there : place_of before.places c.args.client ≡ Some c.in_ok-page.page
    there = sym c.get.ensures ∙ c.in_ok-page.was

    within : c.in_ok-page.page < length before.queues
    within = place_within before c.self.invariant.0 c.args.client c.in_ok-page.page there

pub remove-requires : goal.remove-requires
remove-requires c = let most = map_here c.self.inside.queues.items c.in_ok-page.page c.self.inside.spare within c.self.invariant.1 in let e = ap (λ (q : QueueState). used q.asks) read in omega (arith, most, e)
  where
    before : AsksState
    before = record { queues = c.self.inside.queues.items; places = c.self.inside.places }

    there : place_of before.places c.args.client ≡ Some c.in_ok-page.page
    there = sym c.get.ensures ∙ c.in_ok-page.was

    within : c.in_ok-page.page < length before.queues
    within = place_within before c.self.invariant.0 c.args.client c.in_ok-page.page there

    read : c.index_mut.result.now ≡ slice_index_or c.self.inside.queues.items c.in_ok-page.page no_queue
    read = read_here c.self.inside.queues.items c.self.inside.places c.in_ok-page.page c.self.invariant.0 within c.index.result c.index.ensures.value c.index_mut.result.now c.index_mut.ensures.value

pub invariant_of-self : goal.invariant_of-self
invariant_of-self c = absurd never
  where
    before : AsksState
    before = record { queues = c.self.inside.queues.items; places = c.self.inside.places }

    there : place_of before.places c.args.client ≡ Some c.in_ok-page.page
    there = sym c.get.ensures ∙ c.in_ok-page.was

    within : c.in_ok-page.page < length before.queues
    within = place_within before c.self.invariant.0 c.args.client c.in_ok-page.page there

    read : c.index_mut.result.now ≡ slice_index_or c.self.inside.queues.items c.in_ok-page.page no_queue
    read = read_here c.self.inside.queues.items c.self.inside.places c.in_ok-page.page c.self.invariant.0 within c.index.result c.index.ensures.value c.index_mut.result.now c.index_mut.ensures.value

    none : ask_by c.args.client (queue_at before c.in_ok-page.page) ≡ None
    none = ap (λ (q : QueueState). ask_by c.args.client q.asks) (sym read) ∙ sym c.remove.ensures.ask ∙ ap (option_map waiting_ask) c.in_err-ask.was

    never : ⊥
    never = found_there c.self.inside.queues.items c.self.inside.places c.in_ok-page.page c.self.invariant.0 within c.args.client there none

pub returns-in_err-ask-clause-ask : goal.returns-in_err-ask-clause-ask
returns-in_err-ask-clause-ask c = absurd never
  where
    before : AsksState
    before = record { queues = c.self.inside.queues.items; places = c.self.inside.places }

    there : place_of before.places c.args.client ≡ Some c.in_ok-page.page
    there = sym c.get.ensures ∙ c.in_ok-page.was

    within : c.in_ok-page.page < length before.queues
    within = place_within before c.self.invariant.0 c.args.client c.in_ok-page.page there

    read : c.index_mut.result.now ≡ slice_index_or c.self.inside.queues.items c.in_ok-page.page no_queue
    read = read_here c.self.inside.queues.items c.self.inside.places c.in_ok-page.page c.self.invariant.0 within c.index.result c.index.ensures.value c.index_mut.result.now c.index_mut.ensures.value

    none : ask_by c.args.client (queue_at before c.in_ok-page.page) ≡ None
    none = ap (λ (q : QueueState). ask_by c.args.client q.asks) (sym read) ∙ sym c.remove.ensures.ask ∙ ap (option_map waiting_ask) c.in_err-ask.was

    never : ⊥
    never = found_there c.self.inside.queues.items c.self.inside.places c.in_ok-page.page c.self.invariant.0 within c.args.client there none

pub returns-in_err-ask-clause-removes : goal.returns-in_err-ask-clause-removes
returns-in_err-ask-clause-removes c = absurd never
  where
    before : AsksState
    before = record { queues = c.self.inside.queues.items; places = c.self.inside.places }

    there : place_of before.places c.args.client ≡ Some c.in_ok-page.page
    there = sym c.get.ensures ∙ c.in_ok-page.was

    within : c.in_ok-page.page < length before.queues
    within = place_within before c.self.invariant.0 c.args.client c.in_ok-page.page there

    read : c.index_mut.result.now ≡ slice_index_or c.self.inside.queues.items c.in_ok-page.page no_queue
    read = read_here c.self.inside.queues.items c.self.inside.places c.in_ok-page.page c.self.invariant.0 within c.index.result c.index.ensures.value c.index_mut.result.now c.index_mut.ensures.value

    none : ask_by c.args.client (queue_at before c.in_ok-page.page) ≡ None
    none = ap (λ (q : QueueState). ask_by c.args.client q.asks) (sym read) ∙ sym c.remove.ensures.ask ∙ ap (option_map waiting_ask) c.in_err-ask.was

    never : ⊥
    never = found_there c.self.inside.queues.items c.self.inside.places c.in_ok-page.page c.self.invariant.0 within c.args.client there none

pub leave-requires : goal.leave-requires
leave-requires c = λ reads. removed_reads c.self.inside.queues.items c.self.inside.places c.in_ok-page.page c.self.invariant.0 within c.args.client (waiting_ask c.in_ok-ask.ask) there found (sym (none_of c.in_ok-ask.ask.write_grant c.is_none.result c.is_none.ensures) ∙ reads)
  where
    before : AsksState
    before = record { queues = c.self.inside.queues.items; places = c.self.inside.places }

    there : place_of before.places c.args.client ≡ Some c.in_ok-page.page
    there = sym c.get.ensures ∙ c.in_ok-page.was

    within : c.in_ok-page.page < length before.queues
    within = place_within before c.self.invariant.0 c.args.client c.in_ok-page.page there

    read : c.index_mut.result.now ≡ slice_index_or c.self.inside.queues.items c.in_ok-page.page no_queue
    read = read_here c.self.inside.queues.items c.self.inside.places c.in_ok-page.page c.self.invariant.0 within c.index.result c.index.ensures.value c.index_mut.result.now c.index_mut.ensures.value

    found : ask_by c.args.client (queue_at before c.in_ok-page.page) ≡ Some (waiting_ask c.in_ok-ask.ask)
    found = ap (λ (q : QueueState). ask_by c.args.client q.asks) (sym read) ∙ sym c.remove.ensures.ask ∙ ap (option_map waiting_ask) c.in_ok-ask.was

pub invariant_of-self-2 : goal.invariant_of-self-2
invariant_of-self-2 c = (
  removed_is c.self.inside.queues.items c.self.inside.places c.in_ok-page.page c.self.invariant.0 within c.leave.new.self c.args.client (waiting_ask c.in_ok-ask.ask) c.remove.new.self there found same c.leave.ensures.places
      (c.leave.ensures.reads ∙ ap (λ (n : ℕ). c.leave.new.self.reads + n) (reads_none c.in_ok-ask.ask.write_grant c.is_none.result c.is_none.ensures)) c.index.result c.index.ensures.value,
  maps_kept c.self.inside.queues.items c.in_ok-page.page within c.index_mut.result.now c.remove.new.self c.self.inside.spare c.remove.new.spare read c.self.invariant.1 c.remove.ensures.maps c.index.result c.index.ensures.value,
)
  where
    before : AsksState
    before = record { queues = c.self.inside.queues.items; places = c.self.inside.places }

    there : place_of before.places c.args.client ≡ Some c.in_ok-page.page
    there = sym c.get.ensures ∙ c.in_ok-page.was

    within : c.in_ok-page.page < length before.queues
    within = place_within before c.self.invariant.0 c.args.client c.in_ok-page.page there

    read : c.index_mut.result.now ≡ slice_index_or c.self.inside.queues.items c.in_ok-page.page no_queue
    read = read_here c.self.inside.queues.items c.self.inside.places c.in_ok-page.page c.self.invariant.0 within c.index.result c.index.ensures.value c.index_mut.result.now c.index_mut.ensures.value

    found : ask_by c.args.client (queue_at before c.in_ok-page.page) ≡ Some (waiting_ask c.in_ok-ask.ask)
    found = ap (λ (q : QueueState). ask_by c.args.client q.asks) (sym read) ∙ sym c.remove.ensures.ask ∙ ap (option_map waiting_ask) c.in_ok-ask.was

    same : c.remove.new.self.asks ≡ without_client c.args.client (queue_at before c.in_ok-page.page)
    same = c.remove.ensures.asks (subst (λ (q : QueueState). ask_count c.args.client q.asks ≤ 1) (sym read) (one_there c.self.inside.queues.items c.self.inside.places c.in_ok-page.page c.self.invariant.0 within c.args.client there))
        ∙ ap (λ (q : QueueState). without_client c.args.client q.asks) read

pub returns-clause-ask : goal.returns-clause-ask
returns-clause-ask c = rw (← c.self.view_is) (λ page some. ap Some c.new.ensures
    ∙ ap (λ (client : ℕ). Some (own client)) (sym (found_client c.args.client (queue_at before c.in_ok-page.page) (waiting_ask c.in_ok-ask.ask) found))
    ∙ ap (option_map asked) (sym found)
    ∙ ap (λ (at : ℕ). option_map asked (ask_by c.args.client (queue_at before at))) (only_there before c.self.invariant.0 c.args.client c.in_ok-page.page there page some))
  where
    own : ℕ → Asked
    own client = record { client = client; write_grant = c.in_ok-ask.ask.write_grant }

    before : AsksState
    before = record { queues = c.self.inside.queues.items; places = c.self.inside.places }

    there : place_of before.places c.args.client ≡ Some c.in_ok-page.page
    there = sym c.get.ensures ∙ c.in_ok-page.was

    within : c.in_ok-page.page < length before.queues
    within = place_within before c.self.invariant.0 c.args.client c.in_ok-page.page there

    read : c.index_mut.result.now ≡ slice_index_or c.self.inside.queues.items c.in_ok-page.page no_queue
    read = read_here c.self.inside.queues.items c.self.inside.places c.in_ok-page.page c.self.invariant.0 within c.index.result c.index.ensures.value c.index_mut.result.now c.index_mut.ensures.value

    found : ask_by c.args.client (queue_at before c.in_ok-page.page) ≡ Some (waiting_ask c.in_ok-ask.ask)
    found = ap (λ (q : QueueState). ask_by c.args.client q.asks) (sym read) ∙ sym c.remove.ensures.ask ∙ ap (option_map waiting_ask) c.in_ok-ask.was

pub returns-clause-none : goal.returns-clause-none
returns-clause-none c = rw (← c.self.view_is) (λ none. absurd (not_none before c.self.invariant.0 c.args.client c.in_ok-page.page there none))
  where
    before : AsksState
    before = record { queues = c.self.inside.queues.items; places = c.self.inside.places }

    there : place_of before.places c.args.client ≡ Some c.in_ok-page.page
    there = sym c.get.ensures ∙ c.in_ok-page.was

    within : c.in_ok-page.page < length before.queues
    within = place_within before c.self.invariant.0 c.args.client c.in_ok-page.page there

pub returns-clause-removes : goal.returns-clause-removes
returns-clause-removes c = rw (← c.self.view_is) (removes c.self.inside.queues.items c.self.inside.places c.in_ok-page.page c.self.invariant.0 within c.leave.new.self c.args.client c.remove.new.self there same
    (let e = ap (λ (q : QueueState). q.room) read in let l = c.remove.ensures.room in omega arith) c.index.result c.index.ensures.value)
  where
    before : AsksState
    before = record { queues = c.self.inside.queues.items; places = c.self.inside.places }

    there : place_of before.places c.args.client ≡ Some c.in_ok-page.page
    there = sym c.get.ensures ∙ c.in_ok-page.was

    within : c.in_ok-page.page < length before.queues
    within = place_within before c.self.invariant.0 c.args.client c.in_ok-page.page there

    read : c.index_mut.result.now ≡ slice_index_or c.self.inside.queues.items c.in_ok-page.page no_queue
    read = read_here c.self.inside.queues.items c.self.inside.places c.in_ok-page.page c.self.invariant.0 within c.index.result c.index.ensures.value c.index_mut.result.now c.index_mut.ensures.value

    same : c.remove.new.self.asks ≡ without_client c.args.client (queue_at before c.in_ok-page.page)
    same = c.remove.ensures.asks (subst (λ (q : QueueState). ask_count c.args.client q.asks ≤ 1) (sym read) (one_there c.self.inside.queues.items c.self.inside.places c.in_ok-page.page c.self.invariant.0 within c.args.client there))
        ∙ ap (λ (q : QueueState). without_client c.args.client q.asks) read

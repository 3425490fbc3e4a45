-- Goals of `Asks::reads_of`.
use Rattle.std.proofs.Common.{◌≡◌, ◌<◌, ◌+◌, length, slice_index_or, ap, sym, ◌∙◌, Some, None, true, false, arith}
use Rattle.std.specs.Option.{option_map}
use Rattle.cb_protocol.specs.Basics.{is_none}
use Rattle.cb_asks.specs.Asks.{AsksState, queue_at, reads_of_others}
use Rattle.cb_asks.specs.Places.{place_of}
use Rattle.cb_asks.specs.Queues.{QueueState, ask_by, no_queue, waiting_ask}
use Rattle.cb_asks.specs.Sums.{one_if}
use Rattle.cb_asks.proofs.Calls.{found_there, none_of, read_here}
use Rattle.cb_asks.proofs.Others.{all_others, but_own}
use Rattle.cb_asks.proofs.Steps.{place_within}
use Rattle.cb_asks.proofs.asks.Asks.reads_of.Goals as goal

pub returns-in_default : goal.returns-in_default
returns-in_default c = rw (← c.self.view_is) (let e = all_others before c.self.invariant.0 c.args.client there in omega (arith, e))
  where
    before : AsksState
    before = record { queues = c.self.inside.queues.items; places = c.self.inside.places }

    there : place_of before.places c.args.client ≡ None
    there = sym c.get.ensures ∙ c.in_default.is

pub index-requires-2 : goal.index-requires-2
index-requires-2 c = let e = c.index.ensures.value in let less = within in omega arith
  where
    before : AsksState
    before = record { queues = c.self.inside.queues.items; places = c.self.inside.places }

    within : c.in-Some.page < length before.queues
    within = place_within before c.self.invariant.0 c.args.client c.in-Some.page (sym c.get.ensures ∙ c.in-Some.is)

pub unreachable-requires : goal.unreachable-requires
unreachable-requires c = found_there c.self.inside.queues.items c.self.inside.places c.in-Some.page c.self.invariant.0 within c.args.client there none
  where
    before : AsksState
    before = record { queues = c.self.inside.queues.items; places = c.self.inside.places }

    there : place_of before.places c.args.client ≡ Some c.in-Some.page
    there = sym c.get.ensures ∙ c.in-Some.is

    within : c.in-Some.page < length before.queues
    within = place_within before c.self.invariant.0 c.args.client c.in-Some.page there

    read : c.index-2.result.now ≡ slice_index_or c.self.inside.queues.items c.in-Some.page no_queue
    read = read_here c.self.inside.queues.items c.self.inside.places c.in-Some.page c.self.invariant.0 within c.index.result c.index.ensures.value c.index-2.result.now c.index-2.ensures

    none : ask_by c.args.client (queue_at before c.in-Some.page) ≡ None
    none = ap (λ (q : QueueState). ask_by c.args.client q.asks) (sym read) ∙ sym c.ask_of.ensures ∙ ap (option_map waiting_ask) c.in_default-ask_of.is

pub returns-then-is_none : goal.returns-then-is_none
returns-then-is_none c = rw (← c.self.view_is) (sym (ap (λ b. reads_of_others before c.args.client + one_if b) reads)
    ∙ but_own before c.self.invariant.0 c.args.client c.in-Some.page (waiting_ask c.in-Some-ask_of.ask) there found)
  where
    before : AsksState
    before = record { queues = c.self.inside.queues.items; places = c.self.inside.places }

    there : place_of before.places c.args.client ≡ Some c.in-Some.page
    there = sym c.get.ensures ∙ c.in-Some.is

    within : c.in-Some.page < length before.queues
    within = place_within before c.self.invariant.0 c.args.client c.in-Some.page there

    read : c.index-2.result.now ≡ slice_index_or c.self.inside.queues.items c.in-Some.page no_queue
    read = read_here c.self.inside.queues.items c.self.inside.places c.in-Some.page c.self.invariant.0 within c.index.result c.index.ensures.value c.index-2.result.now c.index-2.ensures

    found : ask_by c.args.client (queue_at before c.in-Some.page) ≡ Some (waiting_ask c.in-Some-ask_of.ask)
    found = ap (λ (q : QueueState). ask_by c.args.client q.asks) (sym read) ∙ sym c.ask_of.ensures ∙ ap (option_map waiting_ask) c.in-Some-ask_of.is

    reads : is_none c.in-Some-ask_of.ask.write_grant ≡ true
    reads = sym (none_of c.in-Some-ask_of.ask.write_grant c.is_none.result c.is_none.ensures) ∙ c.if-is_none.true

pub returns-else-is_none : goal.returns-else-is_none
returns-else-is_none c = rw (← c.self.view_is) (sym (ap (λ b. reads_of_others before c.args.client + one_if b) reads)
    ∙ but_own before c.self.invariant.0 c.args.client c.in-Some.page (waiting_ask c.in-Some-ask_of.ask) there found)
  where
    before : AsksState
    before = record { queues = c.self.inside.queues.items; places = c.self.inside.places }

    there : place_of before.places c.args.client ≡ Some c.in-Some.page
    there = sym c.get.ensures ∙ c.in-Some.is

    within : c.in-Some.page < length before.queues
    within = place_within before c.self.invariant.0 c.args.client c.in-Some.page there

    read : c.index-2.result.now ≡ slice_index_or c.self.inside.queues.items c.in-Some.page no_queue
    read = read_here c.self.inside.queues.items c.self.inside.places c.in-Some.page c.self.invariant.0 within c.index.result c.index.ensures.value c.index-2.result.now c.index-2.ensures

    found : ask_by c.args.client (queue_at before c.in-Some.page) ≡ Some (waiting_ask c.in-Some-ask_of.ask)
    found = ap (λ (q : QueueState). ask_by c.args.client q.asks) (sym read) ∙ sym c.ask_of.ensures ∙ ap (option_map waiting_ask) c.in-Some-ask_of.is

    reads : is_none c.in-Some-ask_of.ask.write_grant ≡ false
    reads = sym (none_of c.in-Some-ask_of.ask.write_grant c.is_none.result c.is_none.ensures) ∙ c.if-is_none.false

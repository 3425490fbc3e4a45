-- What holds at each turn of the loops of `empty_queues`.
use Rattle.std.proofs.Common.{◌≡◌, ℕ, [], length, slice_index_or}
use Rattle.cb_asks.specs.Queues.{no_queue}
use Rattle.cb_asks.proofs.asks.empty_queues.Given as goal

abbrev pub invariant-loop : goal.invariant-loop
invariant-loop l = record {
  count : length l.queues.items ≡ l.counter;
  empty : (page : ℕ) → (slice_index_or l.queues.items page no_queue).asks ≡ [];
}

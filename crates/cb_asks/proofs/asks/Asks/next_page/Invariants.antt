-- What holds at each turn of the loops of `Asks::next_page`.
use Rattle.std.proofs.Common.{◌≡◌, ◌≢◌, ◌≤◌, ℕ, true, Some, [], IfSome}
use Rattle.cb_page.specs.Clients.{has, left_out}
use Rattle.cb_asks.specs.Asks.{HasPage, queue_at}
use Rattle.cb_asks.specs.Places.{IsUpTo, place_of}
use Rattle.cb_asks.proofs.asks.Asks.next_page.Given as goal

-- no page of those who were followed is nearer
abbrev pub invariant-loop-client : goal.invariant-loop-client
invariant-loop-client l = record {
  least : (client page : ℕ) → has l.followed client ≡ true → place_of l.self.places client ≡ Some page → l.from ≤ page → IsUpTo l.next page;
  found : IfSome l.next (λ page. (l.from ≤ page) × HasPage l.self page × (queue_at l.self page ≢ []));
}

abbrev pub decreases-loop-client : goal.decreases-loop-client
decreases-loop-client l = left_out l.followed

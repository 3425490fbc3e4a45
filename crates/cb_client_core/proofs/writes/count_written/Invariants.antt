-- What holds at each turn of the loops of `count_written`.
use Rattle.std.proofs.Common.{◌≡◌, ◌≤◌, ◌+◌, ◌-◌, length}
use Rattle.cb_cache.specs.CacheState.{client_with}
use Rattle.cb_protocol.specs.Client.{Client}
use Rattle.cb_protocol.specs.ClientCalls.{written_pages}
use Rattle.cb_client_core.proofs.writes.count_written.Given as goal

-- the pages below are counted
abbrev pub invariant-loop-page : goal.invariant-loop-page
invariant-loop-page g l = record {
  counts : (k : Client) → l.count ≡ length (written_pages (client_with l.fn.copies k) l.from);
  least : l.count ≤ l.from;
  within : l.from ≤ l.fn.copies.limits.pages;
}

abbrev pub decreases-loop-page : goal.decreases-loop-page
decreases-loop-page g l = l.fn.copies.limits.pages + 1 - l.from

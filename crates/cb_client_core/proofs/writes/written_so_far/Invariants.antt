-- What holds at each turn of the loops of `written_so_far`.
use Rattle.std.proofs.Common.{◌≡◌, ◌≤◌, ◌+◌, ◌-◌, length}
use Rattle.std.specs.Vec.{vec_capacity}
use Rattle.cb_cache.specs.CacheState.{client_with}
use Rattle.cb_outbox.specs.Messages.{page_writes}
use Rattle.cb_protocol.specs.Client.{Client}
use Rattle.cb_protocol.specs.ClientCalls.{written_pages}
use Rattle.cb_client_core.proofs.writes.written_so_far.Given as goal

-- the pages below are said, and there is room for all
abbrev pub invariant-loop-page : goal.invariant-loop-page
invariant-loop-page g l = record {
  said : (k : Client) → page_writes l.writes.items ≡ written_pages (client_with l.copies k) l.from;
  within : l.from ≤ l.copies.limits.pages;
  room : (k : Client) → length (written_pages (client_with l.copies k) l.copies.limits.pages) ≤ vec_capacity l.writes;
}

abbrev pub decreases-loop-page : goal.decreases-loop-page
decreases-loop-page g l = l.copies.limits.pages + 1 - l.from

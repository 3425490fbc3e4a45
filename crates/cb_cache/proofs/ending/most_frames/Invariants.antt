-- What holds at each turn of the loops of `most_frames`.
use Rattle.std.proofs.Common.{◌≡◌, ◌≤◌, ◌+◌, ◌-◌, length}
use Rattle.cb_protocol.specs.Client.{bodies_said}
use Rattle.cb_cache.specs.Ending.{pages_steps}
use Rattle.cb_cache.specs.Room.{room_below}
use Rattle.cb_cache.proofs.ending.most_frames.Given as goal

-- the pages below are counted
abbrev pub invariant-loop-page : goal.invariant-loop-page
invariant-loop-page g l = record {
  said : length (bodies_said (pages_steps l.fn.copies l.fn.locks l.fn.dropped l.from)) ≤ l.count;
  counted : l.count ≡ room_below l.fn.copies l.fn.locks l.fn.dropped l.from;
  count : l.count ≤ l.from;
  most : l.from ≤ 4096;
  within : l.from ≤ l.fn.copies.limits.pages;
}

abbrev pub decreases-loop-page : goal.decreases-loop-page
decreases-loop-page g l = length l.fn.locks.locked + 1 - l.from

-- What holds at each turn of the loops of `end_pages`.
use Rattle.std.proofs.Common.{◌≡◌, ◌+◌, ◌-◌, length}
use Rattle.std.specs.Vec.{vec_capacity}
use Rattle.cb_outbox.specs.Messages.{messages_of}
use Rattle.cb_cache.proofs.Walk.{Walks}
use Rattle.cb_cache.proofs.ending.end_pages.Given as goal

-- the walk stands at the next page
abbrev pub invariant-loop-page : goal.invariant-loop-page
invariant-loop-page g l = record {
  walks : Walks l.initial.copies l.initial.locks l.dropped (messages_of l.initial.frames.items) l.from l.copies l.locks l.frames.items;
  capacity : vec_capacity l.frames ≡ vec_capacity l.initial.frames;
}

abbrev pub decreases-loop-page : goal.decreases-loop-page
decreases-loop-page g l = length l.locks.locked + 1 - l.from

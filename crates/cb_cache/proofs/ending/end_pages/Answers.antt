-- Goals of `end_pages`.
use Rattle.std.proofs.Common.{arith, rules}
use Rattle.std.specs.Vec.{vec_capacity, vec_len}
use Rattle.std.proofs.lemmas.List.{length-map}
use Rattle.cb_outbox.specs.Messages.{message_of}
use Rattle.cb_cache.proofs.Walk.{room_for, walk_ends, walk_goes_on}
use Rattle.cb_cache.proofs.ending.end_pages.Goals as goal

pub end_one-requires-clause-room : goal.end_one-requires-clause-room
end_one-requires-clause-room g c =
    let found = rw c.locked.ensures at c.in-Some.ensures in
    let before = length-map c.args.frames.now.items message_of in
    let was = c.args.frames.now.ok.0 in
    let is = c.loop-page.frames.ok.0 in
    let same = c.loop-page.invariant.capacity in
    let asked = c.requires.room in
    let room = room_for _ _ _ _ _ _ _ _ c.requires.owes c.loop-page.invariant.walks c.in-Some.page (vec_capacity c.loop-page.frames) found.0 found.1 found.2 (omega arith) in
    omega arith

pub loop-page-preserved : goal.loop-page-preserved
loop-page-preserved g c =
    let found = rw c.locked.ensures at c.in-Some.ensures in
    record {
      walks = rw c.index-from.ensures.value (walk_goes_on _ _ _ _ _ _ _ _ c.requires.owes c.loop-page.invariant.walks c.in-Some.page _ _ _ found.0 found.1 found.2 c.end_one.ensures.does c.end_one.ensures.says c.end_one.ensures.locks);
      capacity = search rules;
    }

pub returns-clause-does : goal.returns-clause-does
returns-clause-does g c = (walk_ends _ _ _ _ _ _ _ _ c.requires.owes c.loop-page.invariant.walks (rw c.locked.ensures at c.in_default.ensures)).0

pub returns-clause-says : goal.returns-clause-says
returns-clause-says g c = (walk_ends _ _ _ _ _ _ _ _ c.requires.owes c.loop-page.invariant.walks (rw c.locked.ensures at c.in_default.ensures)).1

pub returns-clause-locks : goal.returns-clause-locks
returns-clause-locks g c = (walk_ends _ _ _ _ _ _ _ _ c.requires.owes c.loop-page.invariant.walks (rw c.locked.ensures at c.in_default.ensures)).2

-- Goals of `most_frames`.
use Rattle.std.proofs.Common.{◌≡◌, ◌≤◌, ◌<◌, ◌∙◌, sym, arith, rules}
use Rattle.cb_cache.proofs.Room.{room_next, room_to}
use Rattle.cb_cache.proofs.Walk.{count_ends, count_goes_on, locked_page, locked_within}
use Rattle.cb_cache.proofs.ending.most_frames.Goals as goal

pub most_of-count-requires : goal.most_of-count-requires
most_of-count-requires g c = locked_within c.args.locks.now.locked c.in-Some.page (rw c.locked.ensures at c.in-Some.ensures).1

pub loop-page-preserved : goal.loop-page-preserved
loop-page-preserved g c =
    let found = rw c.locked.ensures at c.in-Some.ensures in
    let at = c.index-from.ensures.value in
    let most = c.index-from.ensures.greatest in
    let one = c.most_of-count.ensures.most in
    let count = c.loop-page.invariant.count in
    let lt : c.in-Some.page < c.args.copies.now.limits.pages = locked_page c.args.copies.now c.args.locks.now c.in-Some.page c.requires found.1 in
    record {
      said = rw at (count_goes_on c.args.copies.now c.args.locks.now c.args.dropped c.loop-page.from c.in-Some.page c.loop-page.count c.most_of-count.result c.requires found.0 found.2 c.loop-page.invariant.said c.most_of-count.ensures.said);
      counted = rw at (room_next c.args.copies.now c.args.locks.now c.args.dropped c.loop-page.from c.in-Some.page c.loop-page.count c.most_of-count.result found.0 found.1 found.2 c.loop-page.invariant.counted c.most_of-count.ensures.value);
      count = let le = found.0 in omega arith;
      most = omega arith;
      within = omega arith;
    }

pub returns-clause-said : goal.returns-clause-said
returns-clause-said g c = count_ends c.args.copies.now c.args.locks.now c.args.dropped c.loop-page.from c.loop-page.count c.requires c.loop-page.invariant.within (rw c.locked.ensures at c.in_default.ensures) c.loop-page.invariant.said

pub returns-clause-counted : goal.returns-clause-counted
returns-clause-counted g c =
    let none = rw c.locked.ensures at c.in_default.ensures in
    c.loop-page.invariant.counted ∙ sym (room_to c.args.copies.now c.args.locks.now c.args.dropped c.loop-page.from c.args.copies.now.limits.pages c.loop-page.invariant.within (λ k le lt. none k le))

-- Goals of `commit_ends`.
use Rattle.std.proofs.Common.{rules, arith, ap, length}
use Rattle.cb_protocol.specs.Client.{ClientStep, NoneEnded, bodies_said}
use Rattle.std.proofs.Common.{List}
use Rattle.cb_cache.proofs.Ends.{commits, owes_after_done, same_after_done, unwritten_after_done}
use Rattle.cb_cache.proofs.ending.commit_ends.Goals as goal

pub end_pages-requires-clause-owes : goal.end_pages-requires-clause-owes
end_pages-requires-clause-owes g c = owes_after_done c.args.copies.now _ c.args.locks.now NoneEnded c.args.number (c.take_done.ensures.by_table NoneEnded) c.requires

pub end_pages-requires-clause-unwritten : goal.end_pages-requires-clause-unwritten
end_pages-requires-clause-unwritten g c = λ e page. unwritten_after_done c.args.copies.now _ NoneEnded c.args.number (c.take_done.ensures.by_table NoneEnded) page

pub end_pages-requires-clause-room : goal.end_pages-requires-clause-room
end_pages-requires-clause-room g c =
    let same = ap (λ (s : List ClientStep). length (bodies_said s)) (same_after_done c.args.copies.now _ c.args.locks.now NoneEnded c.args.number (c.take_done.ensures.by_table NoneEnded)) in
    let said = c.most_frames-most.ensures.said in
    let len = c.in_ok-frames.ensures.len in
    let capacity = c.in_ok-frames.ensures.capacity in
    omega arith

pub returns-clause-ok : goal.returns-clause-ok
returns-clause-ok g c = λ outcome. commits c.args.copies.now _ _ c.args.locks.now _ outcome c.args.number _ _ (c.take_done.ensures.by_table outcome) c.end_pages.ensures.does (search rules) c.end_pages.ensures.says c.end_pages.ensures.locks

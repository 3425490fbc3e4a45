-- Goals of `end_page`.
use Rattle.std.proofs.Common.{◌≡◌, ◌∙◌, sym, false, true, Some, None, rules}
use Rattle.cb_cache.specs.CacheState.{copy_at}
use Rattle.cb_locks.specs.Locks.{owed_at}
use Rattle.cb_cache.proofs.PageSteps.{answers_back, answers_down, gives_bare, IsOwed, owed}
use Rattle.cb_cache.proofs.page_end.end_page.Goals as goal

pub returns-in_default-clause-does : goal.returns-in_default-clause-does
returns-in_default-clause-does g c =
    let held : (copy_at c.args.copies.now c.args.page).held ≡ Some c.in_ok-grant.grant = search rules in
    gives_bare c.args.copies.now _ c.args.locks.now c.args.dropped c.args.page c.in_ok-grant.grant c.is_written-written.result c.goes-goes.result held c.is_written-written.ensures c.goes-goes.ensures (search rules) c.let_go_unless.ensures

pub returns-then-not-is_permission_alone-clause-does :
    goal.returns-then-not-is_permission_alone-clause-does
returns-then-not-is_permission_alone-clause-does g c =
    let found : owed_at c.args.locks.now c.args.page ≡ Some c.in-Some.due = search rules in
    let owes : IsOwed c.args.locks.now c.args.page (copy_at c.args.copies.now c.args.page).held c.in-Some.due = owed _ _ _ _ found c.requires.held in
    answers_back c.args.copies.now _ c.args.locks.now c.args.dropped c.args.page c.is_written-written.result c.goes-goes.result c.is_permission_alone.result c.in-Some.due owes c.is_written-written.ensures c.goes-goes.ensures c.is_permission_alone.ensures (search rules) c.let_go_unless-then-not-is_permission_alone.ensures

pub returns-clause-does : goal.returns-clause-does
returns-clause-does g c =
    let found : owed_at c.args.locks.now c.args.page ≡ Some c.in-Some.due = search rules in
    let owes : IsOwed c.args.locks.now c.args.page (copy_at c.args.copies.now c.args.page).held c.in-Some.due = owed _ _ _ _ found c.requires.held in
    let kept : c.args.dropped ≡ false = search rules in
    rw kept (answers_down c.args.copies.now _ c.args.locks.now c.args.page c.goes-goes.result c.is_permission_alone.result c.in-Some.due owes (rw kept at c.goes-goes.ensures) c.is_permission_alone.ensures (search rules) c.yield_permission.ensures)

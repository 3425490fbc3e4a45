-- Goals of `flush_in_tries`.
use Rattle.std.proofs.Common.{◌∙◌, subst}
use Rattle.std.specs.Prelude.{OnErr, OnOk}
use Rattle.std.proofs.lemmas.Result.{on_err_weaker, on_ok_weaker}
use Rattle.cb_page.specs.Bounds.{Bounds}
use Rattle.cb_office.proofs.Trying.{first_left, first_survives, first_written, later_left, later_survives, later_written}
use Rattle.cb_office.specs.Flushing.{LeavesFirst, Tries, WritesFirst}
use Rattle.cb_office.proofs.tries.flush_in_tries.Goals as goal

pub loop-init : goal.loop-init
loop-init g c = (
  tt,
  tt,
  c.flush_counted-stopped.ensures.limits,
  on_err_weaker c.flush_counted-stopped.result (first_left g.S.Store c.args.shelf.now.limits c.args.shelf.now.conn c.flush_counted-stopped.new.shelf.conn) c.flush_counted-stopped.ensures.left,
  on_ok_weaker c.flush_counted-stopped.result (first_written g.S.Store c.args.shelf.now.limits c.args.shelf.now.conn c.flush_counted-stopped.new.shelf.conn) c.flush_counted-stopped.ensures.written,
  first_survives g.S.Store c.args.shelf.now.limits c.args.shelf.now.conn c.flush_counted-stopped.new.shelf.conn c.flush_counted-stopped.ensures.crash,
  c.flush_counted-stopped.ensures.office,
)

pub loop-preserved : goal.loop-preserved
loop-preserved g c =
    let tries : Tries g.S.Store c.args.shelf.now.limits c.args.shelf.now.conn c.loop.shelf.conn = rw c.in-Err.is at c.loop.invariant.3 in
    let left = subst (λ (l : Bounds). OnErr c.flush_counted_again-stopped.result (LeavesFirst g.S.Store l c.into_stop-stop.result.batch c.loop.shelf.conn c.flush_counted_again-stopped.new.shelf.conn)) c.loop.invariant.2 c.flush_counted_again-stopped.ensures.left in
    let written = subst (λ (l : Bounds). OnOk c.flush_counted_again-stopped.result (WritesFirst g.S.Store l c.into_stop-stop.result.batch c.loop.shelf.conn c.flush_counted_again-stopped.new.shelf.conn)) c.loop.invariant.2 c.flush_counted_again-stopped.ensures.written in (
      tt,
      tt,
      c.flush_counted_again-stopped.ensures.limits ∙ c.loop.invariant.2,
      on_err_weaker c.flush_counted_again-stopped.result (later_left g.S.Store c.args.shelf.now.limits c.args.shelf.now.conn c.loop.shelf.conn tries c.into_stop-stop.result.batch c.flush_counted_again-stopped.new.shelf.conn) left,
      on_ok_weaker c.flush_counted_again-stopped.result (later_written g.S.Store c.args.shelf.now.limits c.args.shelf.now.conn c.loop.shelf.conn tries c.into_stop-stop.result.batch c.flush_counted_again-stopped.new.shelf.conn) written,
      later_survives g.S.Store c.args.shelf.now.limits c.args.shelf.now.conn c.loop.shelf.conn tries c.into_stop-stop.result.batch c.flush_counted_again-stopped.new.shelf.conn c.loop.invariant.5 c.flush_counted_again-stopped.ensures.crash,
      c.flush_counted_again-stopped.ensures.office,
    )

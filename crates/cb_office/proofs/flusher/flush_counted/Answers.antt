-- Goals of `flush_counted`.
use Rattle.std.proofs.Common.{◌∙◌, rules, subst}
use Rattle.cb_page.specs.Bounds.{Bounds}
use Rattle.cb_office.proofs.Flushing.{stops, survives_more, writes_more}
use Rattle.cb_shelf.specs.Flushing.{WritesOne, WritesOrStays}
use Rattle.cb_shelf.specs.Writing.{Wrote}
use Rattle.cb_office.proofs.flusher.flush_counted.Goals as goal

pub returns-in-Err-flush_batch-clause-stops : goal.returns-in-Err-flush_batch-clause-stops
returns-in-Err-flush_batch-clause-stops g c = record { unheld = λ e. absurd cc; shape = search rules }

pub returns-in-Err-flush_batch-clause-left : goal.returns-in-Err-flush_batch-clause-left
returns-in-Err-flush_batch-clause-left g c =
    stops g.S.Store c.args.shelf.now.limits c.in-Ok-Batch.batch c.args.shelf.now.conn c.loop.shelf.conn c.flush_batch.new.shelf.conn (Wrote g.S.Store c.in-Ok-Batch.batch c.loop.shelf.conn) c.loop.invariant.3
    (subst (λ (l : Bounds). WritesOrStays g.S.Store l c.in-Ok-Batch.batch c.loop.shelf.conn c.flush_batch.new.shelf.conn) c.loop.invariant.2 c.in-Err-flush_batch.ensures.refused) c.flush_batch.ensures.crash

pub returns-in-Err-flush_batch-clause-crash :
    goal.returns-in-Err-flush_batch-clause-crash
returns-in-Err-flush_batch-clause-crash g c =
    survives_more g.S.Store c.args.shelf.now.limits c.in-Ok-Batch.batch c.args.shelf.now.conn c.loop.shelf.conn c.flush_batch.new.shelf.conn c.loop.invariant.3 c.loop.invariant.4 c.flush_batch.ensures.crash

pub loop-preserved : goal.loop-preserved
loop-preserved g c = (
  tt,
  tt,
  c.flush_batch.ensures.limits ∙ c.loop.invariant.2,
  writes_more g.S.Store c.args.shelf.now.limits c.in-Ok-Batch.batch c.args.shelf.now.conn c.loop.shelf.conn c.flush_batch.new.shelf.conn (Wrote g.S.Store c.in-Ok-Batch.batch c.loop.shelf.conn) c.loop.invariant.3
      (subst (λ (l : Bounds). WritesOne g.S.Store l c.in-Ok-Batch.batch c.loop.shelf.conn c.flush_batch.new.shelf.conn) c.loop.invariant.2 c.in_default.ensures.written) c.flush_batch.ensures.crash,
  survives_more g.S.Store c.args.shelf.now.limits c.in-Ok-Batch.batch c.args.shelf.now.conn c.loop.shelf.conn c.flush_batch.new.shelf.conn c.loop.invariant.3 c.loop.invariant.4 c.flush_batch.ensures.crash,
)

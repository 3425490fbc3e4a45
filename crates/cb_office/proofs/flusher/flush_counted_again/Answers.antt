-- Goals of `flush_counted_again`.
use Rattle.std.proofs.Common.{Option, rules, subst, sym}
use Rattle.sqlite.specs.Held.{state}
use Rattle.sqlite.specs.State.{Survives}
use Rattle.cb_commit.specs.Batches.{BatchState}
use Rattle.cb_office.proofs.Flushing.{stops_first, survives_first, survives_held}
use Rattle.cb_office.specs.Flushing.{LeavesFirst, MadeFirst}
use Rattle.cb_shelf.specs.Flushing.{WritesOne, WritesOrStays}
use Rattle.cb_shelf.specs.Writing.{Wrote}
use Rattle.cb_office.proofs.flusher.flush_counted_again.Goals as goal

pub returns-in-Err-clause-stops : goal.returns-in-Err-clause-stops
returns-in-Err-clause-stops g c = record { unheld = λ e. absurd cc; shape = search rules }

pub returns-in-Err-clause-left : goal.returns-in-Err-clause-left
returns-in-Err-clause-left g c =
    subst (λ (o : Option BatchState). LeavesFirst g.S.Store c.args.shelf.now.limits o c.args.shelf.now.conn c.flush_batch.new.shelf.conn) (sym c.in-Some.is)
    (stops_first g.S.Store c.args.shelf.now.limits c.in-Some.held c.args.shelf.now.conn c.flush_batch.new.shelf.conn
    (subst (λ (h : BatchState). WritesOrStays g.S.Store c.args.shelf.now.limits h c.args.shelf.now.conn c.flush_batch.new.shelf.conn) c.in-Some.held-is c.in-Err.ensures.refused))

pub returns-in-Err-clause-crash : goal.returns-in-Err-clause-crash
returns-in-Err-clause-crash g c =
    subst (λ (o : Option BatchState). Survives (state g.S.Store c.args.shelf.now.conn) (state g.S.Store c.flush_batch.new.shelf.conn) (MadeFirst g.S.Store o c.args.shelf.now.conn)) (sym c.in-Some.is)
    (survives_held g.S.Store c.args.shelf.now.limits c.in-Some.held c.args.shelf.now.conn c.flush_batch.new.shelf.conn
    (subst (λ (h : BatchState). Survives (state g.S.Store c.args.shelf.now.conn) (state g.S.Store c.flush_batch.new.shelf.conn) (Wrote g.S.Store h c.args.shelf.now.conn)) c.in-Some.held-is c.flush_batch.ensures.crash))

pub returns-clause-crash : goal.returns-clause-crash
returns-clause-crash g c =
    let one = subst (λ (h : BatchState). WritesOne g.S.Store c.args.shelf.now.limits h c.args.shelf.now.conn c.flush_batch.new.shelf.conn) c.in-Some.held-is c.in_default-flush_batch.ensures.written in
    let kept = subst (λ (h : BatchState). Survives (state g.S.Store c.args.shelf.now.conn) (state g.S.Store c.flush_batch.new.shelf.conn) (Wrote g.S.Store h c.args.shelf.now.conn)) c.in-Some.held-is c.flush_batch.ensures.crash in
    subst (λ (o : Option BatchState). Survives (state g.S.Store c.args.shelf.now.conn) (state g.S.Store c.flush_counted-2.new.shelf.conn) (MadeFirst g.S.Store o c.args.shelf.now.conn)) (sym c.in-Some.is)
    (survives_first g.S.Store c.args.shelf.now.limits c.in-Some.held c.args.shelf.now.conn c.flush_batch.new.shelf.conn c.flush_counted-2.new.shelf.conn one kept c.flush_counted-2.ensures.crash)

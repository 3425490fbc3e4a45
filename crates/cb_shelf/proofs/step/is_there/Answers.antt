-- Goals of `is_there`.
use Rattle.std.proofs.Common.{[]}
use Rattle.cb_shelf.proofs.Stepping.{asked_text, refused_tells}
use Rattle.cb_shelf.proofs.step.is_there.Goals as goal

pub returns-clause-inside : goal.returns-clause-inside
returns-clause-inside g c =
    asked_text g.S.Store c.args.text.now c.args.tx.now.conn.now c.prepare.new.self.conn.now c.in-Err.error c.absent.result
    (λ clean. c.in-Err.ensures.err clean []) c.absent.ensures.text c.prepare.ensures.survives

pub returns-clause-tells : goal.returns-clause-tells
returns-clause-tells g c =
    refused_tells g.S.Store c.args.text.now c.args.tx.now.conn.now c.prepare.new.self.conn.now c.in-Err.error c.absent.result
    (λ clean. c.in-Err.ensures.err clean []) c.absent.ensures.text c.absent.ensures.absent c.absent.ensures.fault

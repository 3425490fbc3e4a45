-- Goals of `run`.
use Rattle.sqlite.specs.Values.{bound}
use Rattle.cb_shelf.proofs.Stepping.{ran_one}
use Rattle.cb_shelf.proofs.Asking.{never_from}
use Rattle.cb_shelf.proofs.step.run.Goals as goal

pub returns-clause-inside : goal.returns-clause-inside
returns-clause-inside g c =
    ran_one g.S.Store c.args.text.now (bound c.args.params.now) c.args.tx.now.conn.now c.execute.new.self.conn.now c.in_ok-execute.field-0 c.in_ok-execute.ensures.runs c.execute.ensures.survives

pub returns-in_err-execute-clause-fault : goal.returns-in_err-execute-clause-fault
returns-in_err-execute-clause-fault g c = never_from _ c.from_residual.result c.from_residual.ensures.1

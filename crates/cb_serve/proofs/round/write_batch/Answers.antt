-- Goals of `write_batch`.
use Rattle.cb_serve.proofs.Fitting.{next_fits, refuses_batch}
use Rattle.cb_serve.proofs.Writing.{wrote_one}
use Rattle.cb_serve.proofs.round.write_batch.Goals as goal

pub returns-in-Ok-clause-fits : goal.returns-in-Ok-clause-fits
returns-in-Ok-clause-fits g c = next_fits c.args.server.now c.args.batch.now c.limits-arose.ensures.arose c.requires.next

pub returns-in-Err-clause-fits : goal.returns-in-Err-clause-fits
returns-in-Err-clause-fits g c = next_fits c.args.server.now c.args.batch.now c.limits-arose.ensures.arose c.requires.next

pub returns-in-Ok-clause-ok : goal.returns-in-Ok-clause-ok
returns-in-Ok-clause-ok g c =
    wrote_one g.S.Store c.args.server.now.limits c.args.shelf.now.limits c.args.batch.now c.args.shelf.now.conn c.write.new.self.conn c.requires.limits
    c.in-Ok.ensures.fits c.in-Ok.ensures.both c.in-Ok.ensures.settled

pub returns-in-Err-clause-err : goal.returns-in-Err-clause-err
returns-in-Err-clause-err g c =
    refuses_batch g.S.Store c.args.server.now.limits c.args.shelf.now.limits c.args.batch.now c.write.result c.in-Err.fault c.from.result c.args.shelf.now.conn c.write.new.self.conn c.from.ensures
    c.in-Err.is c.write.ensures.shape c.requires.limits (returns-in-Err-clause-fits g c) c.in-Err.ensures.neither

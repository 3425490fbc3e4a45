-- Goals of `serve_over`.
use Rattle.cb_play.proofs.Services.{opened_and_served}
use Rattle.cb_play.proofs.serve_run.serve_over.Goals as goal

pub returns-in-Ok-clause-serves : goal.returns-in-Ok-clause-serves
returns-in-Ok-clause-serves g c =
    opened_and_served g.S.Store c.args.config.now.limits c.args.announces c.serve_in-served.new.file.reach c.serve_in-served.result c.args.conn c.in-Ok.shelf.conn c.serve_in-served.new.shelf.conn c.close.result
    (g.I.Read.remaining c.args.input.now) (g.I.Read.remaining c.serve_in-served.new.input) (g.O.Write.contents c.args.out.now) (g.O.Write.contents c.serve_in-served.new.out) c.close.ensures
    c.in-Ok.ensures.opens c.serve_in-served.ensures.serves

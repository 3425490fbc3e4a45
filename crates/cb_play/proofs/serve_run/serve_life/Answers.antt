-- Goals of `serve_life`.
use Rattle.std.proofs.Common.{inl}
use Rattle.cb_play.proofs.Services.{untold}
use Rattle.cb_play.proofs.serve_run.serve_life.Goals as goal

pub returns-in-Ok : goal.returns-in-Ok
returns-in-Ok g c = inl (g.O.Write.contents c.tell_life.new.out, c.in-Ok.ensures.ok, c.serve.ensures)

pub returns-in-Err : goal.returns-in-Err
returns-in-Err g c =
    untold g.S.Store c.args.limits.now c.args.announces c.args.store c.args.life c.in-Err.fault c.refused.result c.args.shelf.now.conn
    (g.I.Read.remaining c.args.input.now) (g.O.Write.contents c.args.out.now) (g.O.Write.contents c.tell_life.new.out)
    c.refused.ensures c.in-Err.ensures.err

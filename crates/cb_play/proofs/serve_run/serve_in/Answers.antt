-- Goals of `serve_in`.
use Rattle.std.proofs.Common.{◌∙◌, ap}
use Rattle.cb_play.proofs.Services.{read_and_served, refused_at_read}
use Rattle.cb_serve.proofs.Holding.{holds_still}
use Rattle.cb_serve.specs.Serving.{refused}
use Rattle.cb_play.proofs.serve_run.serve_in.Goals as goal

pub serve_life-requires-clause-holds : goal.serve_life-requires-clause-holds
serve_life-requires-clause-holds g c =
    holds_still g.S.Store c.in-Ok-read.store c.begin_life.new.shelf.conn c.read.new.shelf.conn c.in-Ok-read.ensures.holds c.in-Ok-read.ensures.same

pub returns-in-Ok-read-clause-serves : goal.returns-in-Ok-read-clause-serves
returns-in-Ok-read-clause-serves g c =
    read_and_served g.S.Store c.args.config.now.limits c.args.announces c.in-Ok-read.store c.in-Ok.life c.read.new.self.reach c.serve_life.result c.args.shelf.now.conn c.begin_life.new.shelf.conn c.read.new.shelf.conn c.serve_life.new.shelf.conn
    (g.I.Read.remaining c.args.input.now) (g.I.Read.remaining c.serve_life.new.input) (g.O.Write.contents c.args.out.now) (g.O.Write.contents c.serve_life.new.out)
    c.in-Ok-read.ensures.read c.in-Ok.ensures.begins c.in-Ok-read.ensures.holds c.in-Ok-read.ensures.same c.serve_life.ensures

pub returns-in-Err-read-clause-serves : goal.returns-in-Err-read-clause-serves
returns-in-Err-read-clause-serves g c =
    refused_at_read g.S.Store c.args.config.now.limits c.args.announces c.in-Err-read.fault c.in-Ok.life c.read.new.self.reach c.refused-in-Err-read.result c.args.shelf.now.conn c.begin_life.new.shelf.conn c.read.new.shelf.conn
    (g.I.Read.remaining c.args.input.now) (g.O.Write.contents c.args.out.now)
    c.in-Err-read.ensures.refused (c.refused-in-Err-read.ensures ∙ ap refused c.from-in-Err-read.ensures) c.in-Ok.ensures.begins c.in-Err-read.ensures.same

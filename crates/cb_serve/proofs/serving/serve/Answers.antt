-- Goals of `serve`.
use Rattle.std.proofs.Common.{◌<◌, inl, rules}
use Rattle.cb_server.proofs.Knowing.{knows_floor}
use Rattle.cb_server.specs.ServerValue.{IsResumed}
use Rattle.cb_serve.proofs.Holding.{lacks_memory}
use Rattle.cb_serve.proofs.Rounds.{serves_over}
use Rattle.cb_serve.proofs.serving.serve.Goals as goal

pub serve_rounds-ending-requires-clause-known : goal.serve_rounds-ending-requires-clause-known
serve_rounds-ending-requires-clause-known g c =
    let new : IsResumed c.args.limits.now c.args.store c.args.life.floor c.in-Ok.server = search rules in
    let below : c.args.life.floor < c.args.life.below = search rules in
    knows_floor c.args.limits.now c.args.store c.args.life.floor c.args.life.below c.in-Ok.server new below

pub returns-in-Err : goal.returns-in-Err
returns-in-Err g c =
    lacks_memory g.S.Store c.args.limits.now c.args.store c.args.life c.refused.result c.args.shelf.now.conn (g.R.Read.remaining c.args.input.now) (g.W.Write.contents c.args.output.now)
    c.requires.holds c.refused.ensures

pub returns-in-Ok : goal.returns-in-Ok
returns-in-Ok g c =
    let new : IsResumed c.args.limits.now c.args.store c.args.life.floor c.in-Ok.server = search rules in
    inl (record {
      holds = c.requires.holds;
      serves = serves_over g.S.Store c.args.limits.now c.args.store c.args.life c.serve_rounds-ending.result c.serve_rounds-ending.new.buffers.passed_over c.in-Ok.server c.new.result.items c.args.shelf.now.conn c.serve_rounds-ending.new.shelf.conn
          (g.R.Read.remaining c.args.input.now) (g.R.Read.remaining c.serve_rounds-ending.new.input) (g.W.Write.contents c.args.output.now)
          (g.W.Write.contents c.serve_rounds-ending.new.output) new c.new.ensures.items c.serve_rounds-ending.ensures.serves;
    })

-- Goals of `serve_rounds`.
use Rattle.std.proofs.Common.{◌∙◌, ◌-◌, ◌^◌, ◌≤◌, arith, rules}
use Rattle.cb_serve.proofs.Rounds.{goes_on, serves_endless, serves_ended, serves_no_frame, serves_stopped}
use Rattle.cb_serve.specs.Parts.{standing}
use Rattle.cb_serve.proofs.serving.serve_rounds.Goals as goal

pub returns-in-Err-clause-serves : goal.returns-in-Err-clause-serves
returns-in-Err-clause-serves g c =
    serves_stopped g.S.Store c.args.server.now.limits c.loop-count.server.limits c.loop-count._count _ _ _ _ c.in-Err.fault _ c.round.new.shelf.conn _ _ _ _ _ _ c.loop-count.invariant.1 c.loop-count.invariant.2 c.loop-count.invariant.3 c.in-Err.ensures.err

pub returns-in-NoFrame-clause-serves : goal.returns-in-NoFrame-clause-serves
returns-in-NoFrame-clause-serves g c =
    serves_no_frame g.S.Store c.args.server.now.limits c.loop-count.server.limits c.loop-count._count _ _ (standing g.S.Store c.round.new.server c.round.new.buffers c.round.new.shelf.conn) _ _ c.round.new.life c.in-Ok.end _ _ _ _ _ _ c.loop-count.invariant.1 c.in-NoFrame.is c.loop-count.invariant.2 c.loop-count.invariant.3 c.in-Ok.ensures.ok

pub returns-in-Ended-clause-serves : goal.returns-in-Ended-clause-serves
returns-in-Ended-clause-serves g c =
    serves_ended g.S.Store c.args.server.now.limits c.loop-count.server.limits c.loop-count._count c.ended.result _ _ (standing g.S.Store c.round.new.server c.round.new.buffers c.round.new.shelf.conn) _ _ c.round.new.life c.in-Ok.end c.as_slice.result.now _ _ _ _ _ _
    c.loop-count.invariant.1 c.in-Ended.is c.as_slice.ensures.value c.loop-count.invariant.2 c.loop-count.invariant.3 c.in-Ok.ensures.ok c.ended.ensures.ok c.ended.ensures.cut

pub loop-count-preserved : goal.loop-count-preserved
loop-count-preserved g c =
    let more = goes_on g.S.Store c.args.server.now.limits c.loop-count.server.limits c.loop-count._count _ _ (standing g.S.Store c.round.new.server c.round.new.buffers c.round.new.shelf.conn) _ _ c.round.new.life c.in-Ok.end _ _ _ _ _ _ c.loop-count.invariant.1 c.in-GoesOn.is c.loop-count.invariant.2 c.loop-count.invariant.3 c.in-Ok.ensures.ok in
    (c.round.ensures.shelf ∙ c.loop-count.invariant.0, c.in-Ok.ensures.server ∙ c.loop-count.invariant.1, more.0, more.1, c.in-Ok.ensures.known)

pub returns-clause-serves : goal.returns-clause-serves
returns-clause-serves g c =
    let low : 2 ^ 64 - 1 ≤ c.loop-count._count = search rules in
    let high : c.loop-count._count ≤ 2 ^ 64 - 1 = search rules in
    serves_endless g.S.Store c.args.server.now.limits c.loop-count._count _ _ _ _ _ _ _ _ (omega arith) c.loop-count.invariant.3

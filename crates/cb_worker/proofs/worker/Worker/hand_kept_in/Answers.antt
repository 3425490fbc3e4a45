-- Goals of `Worker::hand_kept_in`.
use Rattle.std.proofs.Common.{◌≡◌, ◌≢◌, ◌∙◌, [], Err, refl, rules, arith}
use Rattle.std.proofs.lemmas.Grind.{common_steps}
use Rattle.cb_worker.proofs.Knowing.{turn_knows}
use Rattle.cb_worker.proofs.Serving.{does, kept_back, last, more, none}
use Rattle.cb_worker.specs.Serving.{HandsOne}
use Rattle.cb_worker.proofs.Staying.{after, same, turned}
use Rattle.cb_worker.proofs.worker.Worker.hand_kept_in.Goals as goal

pub loop-alloc-preserved : goal.loop-alloc-preserved
loop-alloc-preserved g c =
    let kept : c.loop-alloc.self.said ≢ [] = search rules in
    (c.hand_in.ensures.client ∙ c.loop-alloc.invariant.0, after c.args.self.now c.loop-alloc.self c.hand_in.new.self c.loop-alloc.invariant.1 (turned c.loop-alloc.self c.hand_in.new.self _ _ _ c.hand_in.ensures.turns), more HandsOne c.args.self.now c.loop-alloc.self c.hand_in.new.self c.args.station.now c.loop-alloc.station c.hand_in.new.station c.in_ok-_handed._handed (does c.loop-alloc.self c.hand_in.new.self c.loop-alloc.station c.hand_in.new.station c.in_ok-_handed._handed kept c.in_ok-_handed.ensures.turns) c.loop-alloc.invariant.2 (kept, c.in_ok-_handed.ensures.turns), turn_knows c.args.known c.loop-alloc.self c.hand_in.new.self _ _ _ c.loop-alloc.invariant.3 c.hand_in.ensures.turns)

pub loop-alloc-init : goal.loop-alloc-init
loop-alloc-init g c = (refl, same c.args.self.now c.args.self.now refl, none HandsOne c.args.self.now c.args.station.now, c.requires)

pub returns-in_err-_handed-clause-hands : goal.returns-in_err-_handed-clause-hands
returns-in_err-_handed-clause-hands g c =
    let kept : c.loop-alloc.self.said ≢ [] = grind (arith, common_steps) in
    let is : c.from_residual.result ≡ Err c.in_err-_handed.field-0.0 = search rules in
    rw is (last HandsOne c.args.self.now c.loop-alloc.self c.hand_in.new.self c.args.station.now c.loop-alloc.station c.hand_in.new.station (Err c.in_err-_handed.field-0.0) c.loop-alloc.invariant.2 (kept, c.in_err-_handed.ensures.turns))

pub returns-clause-hands : goal.returns-clause-hands
returns-clause-hands g c = (c.loop-alloc.invariant.2.at, c.loop-alloc.invariant.2.turns)

pub returns-in_err-_handed-clause-refused : goal.returns-in_err-_handed-clause-refused
returns-in_err-_handed-clause-refused g c =
    let kept : c.loop-alloc.self.said ≢ [] = grind (arith, common_steps) in
    let is : c.from_residual.result ≡ Err c.in_err-_handed.field-0.0 = search rules in
    rw is (kept_back c.args.self.now c.loop-alloc.self c.hand_in.new.self c.args.station.now c.loop-alloc.station c.hand_in.new.station c.in_err-_handed.field-0.0 c.history-known.ensures.sound c.loop-alloc.invariant.2 (kept, c.in_err-_handed.ensures.turns))

-- Goals of `Worker::turn_knowing`.
use Rattle.std.proofs.Common.{◌≡◌, [], None, arith, rules}
use Rattle.std.proofs.lemmas.Grind.{common_steps}
use Rattle.cb_worker.proofs.worker.Worker.turn_knowing.Goals as goal

pub returns : goal.returns
returns g c =
    let said : c.args.self.now.said ≡ [] = grind (arith, common_steps) in
    let none : c.args.self.now.collected ≡ None = search rules in
    rw (said, none) (search rules)

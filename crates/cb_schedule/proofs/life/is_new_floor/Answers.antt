-- Goals of `is_new_floor`.
use Rattle.std.proofs.Common.{◌<◌, arith}
use Rattle.std.proofs.lemmas.Bool.Decides.{nat_tests}
use Rattle.cb_schedule.proofs.NextLives.{above_known, known_below}
use Rattle.cb_schedule.proofs.life.is_new_floor.Goals as goal

pub returns-in-Some : goal.returns-in-Some
returns-in-Some c =
    let v = c.args.server.now in
    let rises : c.args.present < c.args.floor = grind (arith, c.get.ensures, c.if-present-get.false) in (
      (λ t. above_known v c.args.present c.args.floor c.in-Some.known rises c.in-Some.ensures.most (grind (arith, nat_tests, c.get-in-Some.ensures, c.get-in-Some-2.ensures))),
      (λ new. let l = known_below v c.args.present c.args.floor c.in-Some.known rises c.in-Some.ensures.least new in grind (arith, nat_tests, l, c.get-in-Some.ensures, c.get-in-Some-2.ensures)),
    )

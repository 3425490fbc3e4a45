-- Goals of `play_to`.
use Rattle.std.proofs.Common.{rules}
use Rattle.cb_console.proofs.Checked.{prints_run}
use Rattle.cb_console.specs.Runs.{IsOutcome}
use Rattle.cb_console.proofs.play.play_to.Goals as goal

pub returns : goal.returns
returns g c =
    let tells : IsOutcome c.args.config.now c.args.schedule.now c.read_and_play-outcome.result = search rules in
    prints_run c.args.config.now c.args.schedule.now c.read_and_play-outcome.result c.print_outcome.result _ _ _ _ tells c.print_outcome.ensures

-- Goals of `end`.
use Rattle.std.proofs.Common.{◌≡◌, Ok, rules}
use Rattle.cb_office.proofs.Counts.{ended_well}
use Rattle.cb_office.specs.Runs.{ending_of_run}
use Rattle.cb_office.proofs.parts.Parts.end.Goals as goal

pub returns-clause-over : goal.returns-clause-over
returns-clause-over g c =
    let ended : ending_of_run c.args.flushed c.args.self.now.faults.told ≡ Ok c.in_ok-over.over = search rules in
    ended_well c.args.flushed c.args.self.now.faults.told c.in_ok-over.over ended

-- Goals of `counted`.
use Rattle.std.proofs.Common.{◌≡◌, ◌*◌, Bool, true, rules, subst}
use Rattle.cb_office.proofs.Counts.{few_done}
use Rattle.cb_office.specs.Runs.{adds_up}
use Rattle.cb_office.proofs.running.counted.Goals as goal

pub returns-clause-counted : goal.returns-clause-counted
returns-clause-counted g c =
    let right : adds_up c.in_ok-committed.committed (c.args.limits.now.clients * c.args.jobs) c.is_cut_off-cut_off.result ≡ true = search rules in
    record {
      few = few_done c.in_ok-committed.committed (c.args.limits.now.clients * c.args.jobs) c.is_cut_off-cut_off.result right;
      exact = subst (λ (b : Bool). adds_up c.in_ok-committed.committed (c.args.limits.now.clients * c.args.jobs) b ≡ true) c.is_cut_off-cut_off.ensures right;
      summed = c.in_ok-sum.ensures.summed;
    }

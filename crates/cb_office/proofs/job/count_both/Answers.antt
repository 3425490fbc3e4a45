-- Goals of `count_both`.
use Rattle.std.proofs.Common.{◌≡◌, ◌-◌, ◌%◌, ℕ, true, rules, subst}
use Rattle.std.specs.Prelude.{IfOk, MatchBool}
use Rattle.cb_protocol.specs.Client as protocol
use Rattle.cb_office.proofs.JobCounts.{then_counts}
use Rattle.cb_office.specs.Jobs.{CountsUp, HasEnded}
use Rattle.cb_worker.specs.Workers.{last_txn}
use Rattle.cb_office.proofs.job.count_both.Goals as goal

pub returns : goal.returns
returns g c =
    let yes : c.in_ok-count_page.field-0 ≡ true = search rules in
    let first : c.new.result ≡ c.args.client % 2 = search rules in
    let second : c.new-2.result ≡ 1 - c.args.client % 2 = search rules in
    let counts : CountsUp c.new.result c.args.worker.now c.count_page.new.worker = rw yes at c.in_ok-count_page.ensures in
    then_counts c.args.client c.count_page-2.result c.args.worker.now c.count_page.new.worker c.count_page-2.new.worker (subst (λ (page : ℕ). CountsUp page c.args.worker.now c.count_page.new.worker) first counts)
    (subst
    (λ (page : ℕ). IfOk c.count_page-2.result
    (λ counted. MatchBool counted (CountsUp page c.count_page.new.worker c.count_page-2.new.worker) (HasEnded (last_txn c.count_page.new.worker.client) c.count_page-2.new.worker protocol.Aborted)))
    second c.count_page-2.ensures)

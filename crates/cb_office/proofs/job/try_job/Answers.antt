-- Goals of `try_job`.
use Rattle.std.proofs.Common.{◌≡◌, ◌∙◌, false, true, rules}
use Rattle.cb_protocol.specs.Client as protocol
use Rattle.cb_office.proofs.JobCounts.{begins_later, both_last, commits_job}
use Rattle.cb_office.specs.Jobs.{CountsBoth, HasEnded}
use Rattle.cb_worker.specs.Handing.{HasCommitted}
use Rattle.cb_worker.specs.Workers.{Ends, last_txn}
use Rattle.cb_worker.specs.declared.answers.Finished.TheVariants as finished
use Rattle.cb_office.proofs.job.try_job.Goals as goal

pub returns-then-not-branch : goal.returns-then-not-branch
returns-then-not-branch g c =
    let no : c.in_ok-count_both.field-0 ≡ false = search rules in
    let ended : HasEnded (last_txn c.begin.new.self.client) c.count_both.new.worker protocol.Aborted = rw no at c.in_ok-count_both.ensures in
    (last_txn c.begin.new.self.client, begins_later _ _ _ c.in_ok-_txn.ensures.begins, ended)

pub returns-in-Committed : goal.returns-in-Committed
returns-in-Committed g c =
    let yes : c.in_ok-count_both.field-0 ≡ true = search rules in
    let both : CountsBoth c.args.client c.begin.new.self c.count_both.new.worker = rw yes at c.in_ok-count_both.ensures in
    let ends : Ends c.count_both.new.worker c.finish.new.self (protocol.Committed c.in-Committed.number) = rw c.in-Committed.is at c.in_ok-number.ensures.finishes in
    let commits : HasCommitted c.count_both.new.worker (finished.Committed c.in-Committed.number) = rw c.in-Committed.is at c.in_ok-number.ensures.commits in
    commits_job c.args.client c.in-Committed.number _ c.args.worker.now c.begin.new.self c.count_both.new.worker c.finish.new.self c.in_ok-_txn.ensures.begins c.begin.ensures.rest both commits
    (record { last = ends.same ∙ both_last c.args.client c.begin.new.self c.count_both.new.worker both; ended = ends.ended })

pub returns-in-Aborted : goal.returns-in-Aborted
returns-in-Aborted g c =
    let yes : c.in_ok-count_both.field-0 ≡ true = search rules in
    let both : CountsBoth c.args.client c.begin.new.self c.count_both.new.worker = rw yes at c.in_ok-count_both.ensures in
    let ends : Ends c.count_both.new.worker c.finish.new.self protocol.Aborted = rw c.in-Aborted.is at c.in_ok-number.ensures.finishes in
    (last_txn c.begin.new.self.client, begins_later _ _ _ c.in_ok-_txn.ensures.begins, record { last = ends.same ∙ both_last c.args.client c.begin.new.self c.count_both.new.worker both; ended = ends.ended })

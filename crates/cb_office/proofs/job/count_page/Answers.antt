-- Goals of `count_page`.
use Rattle.std.proofs.Common.{◌≡◌, ◌∙◌, ℕ}
use Rattle.cb_protocol.specs.Client as protocol
use Rattle.cb_office.proofs.JobCounts.{counts_up}
use Rattle.cb_office.specs.Jobs.{IsOneMore, ReadsPage}
use Rattle.cb_worker.specs.Waiting.{Wants}
use Rattle.cb_worker.specs.Workers.{Ends}
use Rattle.cb_worker.specs.declared.answers.Wanted.TheVariants as wanted
use Rattle.cb_office.proofs.job.count_page.Goals as goal

pub returns-in-Aborted : goal.returns-in-Aborted
returns-in-Aborted g c =
    let read : (grant : ℕ) × ReadsPage c.args.worker.now c.copy_page.new.worker c.args.page grant c.in-Some.bytes.items = rw c.in-Some.is at c.in_ok-bytes.ensures in
    let ends : Ends c.copy_page.new.worker c.want.new.self protocol.Aborted = rw c.in-Aborted.is at c.in_ok-want.ensures.wants in
    record { last = ends.same ∙ read.1.still.txn; ended = ends.ended }

pub returns-in_ok-write-in-Permitted : goal.returns-in_ok-write-in-Permitted
returns-in_ok-write-in-Permitted g c =
    let read : (grant : ℕ) × ReadsPage c.args.worker.now c.copy_page.new.worker c.args.page grant c.in-Some.bytes.items = rw c.in-Some.is at c.in_ok-bytes.ensures in
    let wants : Wants c.copy_page.new.worker c.want.new.self c.args.page wanted.Permitted = rw c.in-Permitted.is at c.in_ok-want.ensures.wants in
    let more : IsOneMore c.in-Some.bytes.items c.counted_up-bytes.result.items = c.counted_up-bytes.ensures in
    let same : c.as_slice.result.now ≡ c.counted_up-bytes.result.items = c.as_slice.ensures.value in
    counts_up c.args.page read.0 c.args.worker.now c.copy_page.new.worker c.want.new.self c.write.new.self c.in-Some.bytes.items c.as_slice.result.now read.1 wants c.want.ensures.still (rw same more) c.in_ok-write-in-Permitted.ensures.writes c.write.ensures.rest

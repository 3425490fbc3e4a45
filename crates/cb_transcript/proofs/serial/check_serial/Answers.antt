-- Goals of `check_serial`.
use Rattle.std.proofs.Common.{ap, refl, subst, ◌+◌, ◌∙◌, ◌≡◌}
use Rattle.cb_transcript.specs.Operations.{listed}
use Rattle.cb_transcript.specs.Verdicts.{FirstIllegal}
use Rattle.cb_transcript.proofs.SerialChecks.{all_serial, goes_on, illegal_not_serial, named, stops_first}
use Rattle.cb_commit.specs.Stores.{bytes_at}
use Rattle.cb_transcript.specs.Transcripts.{IsSerialOnOpening, TranscriptState, told_operations}
use Rattle.cb_transcript.specs.declared.transactions.TransactionKey.{TransactionKey}
use Rattle.cb_transcript.proofs.serial.check_serial.Goals as goal

pub returns-in-Some-clause-first : goal.returns-in-Some-clause-first
returns-in-Some-clause-first c = let t : TranscriptState = record { opening = c.args.transcript.now.opening; entries = c.entries-entries.result.now; commits = c.commits-commits.result.now } in
    let same : t ≡ c.args.transcript.now = λ i. record { opening = c.args.transcript.now.opening; entries = c.entries-entries.ensures i; commits = c.commits-commits.ensures i } in
    let name = c.index-commits-place.result in
    let key : TransactionKey = record { client = name.client; incarnation = name.incarnation; txn = name.txn } in
    subst (λ (u : TranscriptState). FirstIllegal (bytes_at u.opening) (told_operations u) (c.loop-place.place + 1) (c.in-Some.op + 1)) same
    (stops_first t c.loop-place.store c.play_named.new.store c.loop-place.place c.in-Some.op name (listed c.in_ok-transactions.transactions key) c.loop-place-test.true
    (c.in_ok-transactions.ensures.done key) (c.in_ok-transactions.ensures.operations key ∙ ap (named t) c.index-commits-place.is) c.in-Some.ensures.played c.loop-place.invariant.checks)

pub returns-in-Some-clause-serial : goal.returns-in-Some-clause-serial
returns-in-Some-clause-serial c = let t : TranscriptState = c.args.transcript.now in
    let first = returns-in-Some-clause-first c in
    (λ same. cc, λ s. absurd (illegal_not_serial (bytes_at t.opening) (told_operations t) (c.loop-place.place + 1) (c.in-Some.op + 1) first s))

pub loop-place-preserved : goal.loop-place-preserved
loop-place-preserved c = let t : TranscriptState = record { opening = c.args.transcript.now.opening; entries = c.entries-entries.result.now; commits = c.commits-commits.result.now } in
    let name = c.index-commits-place.result in
    let key : TransactionKey = record { client = name.client; incarnation = name.incarnation; txn = name.txn } in
    record {
      pages = c.play_named.ensures.pages;
      checks = goes_on t c.loop-place.store c.play_named.new.store c.loop-place.place name (listed c.in_ok-transactions.transactions key) c.loop-place-test.true
          (c.in_ok-transactions.ensures.operations key ∙ ap (named t) c.index-commits-place.is) c.in_default.ensures.played c.loop-place.invariant.checks;
    }

pub returns-clause-serial : goal.returns-clause-serial
returns-clause-serial c =
    let t : TranscriptState = record { opening = c.args.transcript.now.opening; entries = c.entries-entries.result.now; commits = c.commits-commits.result.now } in
    let same : t ≡ c.args.transcript.now = λ i. record { opening = c.args.transcript.now.opening; entries = c.entries-entries.ensures i; commits = c.commits-commits.ensures i } in
    (λ e. subst IsSerialOnOpening same (all_serial t _ c.loop-place.place c.loop-place-test.false c.loop-place.invariant.checks), λ s. refl)

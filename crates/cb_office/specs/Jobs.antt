-- What a job does, as far as calls that take the office themselves say. This project's rules.
use Rattle.std.specs.Prelude.{◌≡◌, ◌+◌, ◌-◌, ◌%◌, ◌^◌, ◌<◌, ◌≤◌, ℕ, Option, Some, None, Ok}
use Rattle.std.specs.Prelude.{length, drop, Vec}
use Rattle.std.specs.Global.{Global}
use Rattle.cb_client.specs.CallAnswers.{Begins, Writes}
use Rattle.cb_office.specs.Counters.{counter_of}
use Rattle.cb_office.specs.declared.tally.JobDone.{JobDone}
use Rattle.cb_protocol.specs.Basics.{Bytes}
use Rattle.cb_outbox.specs.Messages.{page_writes}
use Rattle.cb_protocol.specs.Client as protocol
use Rattle.cb_protocol.specs.Messages.{write_of_page}
use Rattle.cb_station.specs.Commits.{writes_of}
use Rattle.cb_worker.specs.Handing.{HandedCommitIn}
use Rattle.cb_worker.specs.Keeping.{HasWritten, Uses}
use Rattle.cb_worker.specs.ReadToCommit.{KeepsWritten}
use Rattle.cb_worker.specs.Waiting.{Wants}
use Rattle.cb_worker.specs.Workers.{Ended, Hit, WorkerState, after_hit, last_txn, seen_by}
use Rattle.cb_worker.specs.Moving.{IsStill}
use Rattle.cb_worker.specs.Workers.{with_client}
use Rattle.cb_worker.specs.declared.answers.Wanted.TheVariants as wanted

-- the worker has just read the page, with these bytes
abbrev pub HasBytes : WorkerState → (page : ℕ) → Bytes → Type 0
HasBytes worker page bytes = (before : WorkerState) × Hit before page bytes
    × (worker ≡ after_hit before page)

-- The transaction of that number, the worker's last, is over, and ended so.
pub record HasEnded (txn : ℕ) (worker : WorkerState) (outcome : protocol.LastOutcome) : Type 0 where
  pub last : last_txn worker.client ≡ txn
  pub ended : Ended worker outcome

-- The page was read, by that grant and with these bytes, which the transaction uses from then on;
-- and it is still the same worker.
pub record ReadsPage (old new : WorkerState) (page grant : ℕ) (bytes : Bytes) : Type 0 where
  pub read : HasBytes new page bytes
  pub still : IsStill old new
  pub uses : Uses (seen_by new) page grant bytes

-- so after a copy of the page's bytes was taken; or the transaction was aborted
abbrev pub Copies : (old new : WorkerState) → (page : ℕ) → Option (Vec ℕ Global) → Type 0
Copies old new page (Some copy) = (grant : ℕ) × ReadsPage old new page grant copy.items
Copies old new page None = HasEnded (last_txn old.client) new protocol.Aborted

-- The counter that bytes begin with is one more, modulo 2^64, and the rest of them is the same.
-- Fewer than eight bytes are the same.
pub record IsOneMore (bytes counted : Bytes) : Type 0 where
  pub counts : 8 ≤ length bytes → counter_of counted ≡ (counter_of bytes + 1) % 2 ^ 64
  pub rest : drop 8 counted ≡ drop 8 bytes
  pub size : length counted ≡ length bytes
  pub short : length bytes < 8 → counted ≡ bytes

-- The page was read, then was permitted to be written, with the same bytes, and then was written
-- with them counted up: so the transaction has written it, by the grant by which it was read. No
-- other transaction began.
pub record CountsUp (page : ℕ) (old new : WorkerState) : Type 0 where
  pub grant : ℕ
  pub bytes : Bytes
  pub reading : WorkerState
  pub reads : ReadsPage old reading page grant bytes
  pub permitted : WorkerState
  pub wants : Wants reading permitted page wanted.Permitted
  pub waits : IsStill reading permitted
  pub counted : Bytes
  pub more : IsOneMore bytes counted
  pub writes : Writes permitted.client page counted (Ok tt) new.client
  pub others : new ≡ with_client permitted new.client
  pub written : HasWritten (seen_by new) page grant counted
  pub last : last_txn new.client ≡ last_txn old.client

-- Pages 0 and 1 were counted up, one after the other; a client of even number took page 0 first,
-- one of odd number page 1. What was written of the first one stays.
pub record CountsBoth (client : ℕ) (old new : WorkerState) : Type 0 where
  pub between : WorkerState
  pub first : CountsUp (client % 2) old between
  pub second : CountsUp (1 - client % 2) between new
  pub keeps : KeepsWritten between new (client % 2)

-- the commit that was handed in has the page, as it was counted up
abbrev pub CommitsPage : {last : WorkerState} → HandedCommitIn last
    → {page : ℕ} → {old new : WorkerState} → CountsUp page old new → Type 0
CommitsPage handed {page} counts =
    write_of_page (page_writes (writes_of handed.commits.frame)) page
    ≡ Some (record { page = page; grant = counts.grant; bytes = counts.counted })

-- A transaction began since the worker was the old one; then both were counted up in it; then its
-- commit was handed in, with both so; and it committed, by that number.
pub record CommitsJob (client number : ℕ) (old new : WorkerState) : Type 0 where
  pub start : WorkerState
  pub begun : WorkerState
  pub txn : ℕ
  pub begins : Begins start.client (Ok txn) begun.client
  pub rest : begun ≡ with_client start begun.client
  pub since : last_txn old.client < last_txn begun.client
  pub counted : WorkerState
  pub counts : CountsBoth client begun counted
  pub handed : HandedCommitIn counted
  pub first : CommitsPage handed counts.first
  pub second : CommitsPage handed counts.second
  pub committed : HasEnded (last_txn begun.client) new (protocol.Committed number)

-- a transaction that began since then was aborted
abbrev pub IsAborted : (old new : WorkerState) → Type 0
IsAborted old new =
    (txn : ℕ) × (last_txn old.client < txn) × HasEnded txn new protocol.Aborted

-- after one try of a job: it is committed, or its transaction was aborted
abbrev pub EndsJob : (client : ℕ) → Option ℕ → (old new : WorkerState) → Type 0
EndsJob client (Some number) old new = CommitsJob client number old new
EndsJob client None old new = IsAborted old new

-- what is told of the client's job is so
abbrev pub TellsJob : (client job : ℕ) → JobDone → (old new : WorkerState) → Type 0
TellsJob client job done old new = (done.client ≡ client) × (done.job ≡ job)
    × CommitsJob client done.number old new

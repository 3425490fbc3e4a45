-- Laws of a page that a transaction reads, wants, writes and commits: what is committed is what was
-- written over what was read.
use Rattle.std.specs.Prelude.{◌≡◌, ◌≢◌, ℕ, Some, Ok}
use Rattle.cb_client.specs.CallAnswers.{Writes}
use Rattle.cb_outbox.specs.Messages.{page_writes}
use Rattle.cb_protocol.specs.Basics.{Bytes}
use Rattle.cb_protocol.specs.Cache.{Idle}
use Rattle.cb_protocol.specs.Messages.{write_of_page}
use Rattle.cb_station.specs.Commits.{writes_of}
use Rattle.cb_worker.specs.Handing.{HandedCommitIn}
use Rattle.cb_worker.specs.Keeping.{HasWritten, Uses}
use Rattle.cb_worker.specs.Moving.{IsStill}
use Rattle.cb_worker.specs.Waiting.{Wants}
use Rattle.cb_worker.specs.Workers.{WorkerState, seen_by}
use Rattle.cb_worker.specs.declared.answers.Wanted.TheVariants as wanted

-- A page that was read has the same bytes, by the same grant, once it may be written.
abbrev pub WantKeepsBytes : Type 0
WantKeepsBytes = (old new : WorkerState) (page grant : ℕ) (bytes : Bytes)
    → Uses (seen_by old) page grant bytes → Wants old new page wanted.Permitted
    → Uses (seen_by new) page grant bytes

-- A page that was read and is written is written with these bytes.
abbrev pub WriteReplacesBytes : Type 0
WriteReplacesBytes = (old new : WorkerState) (page grant : ℕ) (bytes written : Bytes)
    → Uses (seen_by old) page grant bytes → Writes old.client page written (Ok tt) new.client
    → HasWritten (seen_by new) page grant written

-- what was written of the page stays so
abbrev pub KeepsWritten : (old new : WorkerState) → (page : ℕ) → Type 0
KeepsWritten old new page = (grant : ℕ) (bytes : Bytes)
    → HasWritten (seen_by old) page grant bytes → HasWritten (seen_by new) page grant bytes

-- It does while another page is written.
abbrev pub OtherWritesKeep : Type 0
OtherWritesKeep = (old new : WorkerState) (page other : ℕ) (written : Bytes) → other ≢ page
    → Writes old.client page written (Ok tt) new.client → KeepsWritten old new other

-- It does whatever call leaves the worker the same one, where the transaction isn't over.
abbrev pub CallsKeepWritten : Type 0
CallsKeepWritten = (old new : WorkerState) (page : ℕ) → IsStill old new
    → (seen_by new).cache.status ≢ Idle → KeepsWritten old new page

-- A page is read, wanted and written, and what was written stays until `finish`: its commit has the
-- page, by the grant by which it was read, with these bytes.
abbrev pub ReadIsCommitted : Type 0
ReadIsCommitted = (read permitted written last : WorkerState) (page grant : ℕ)
    (bytes put : Bytes)
    → Uses (seen_by read) page grant bytes → Wants read permitted page wanted.Permitted
    → Writes permitted.client page put (Ok tt) written.client → KeepsWritten written last page
    → (handed : HandedCommitIn last)
    → write_of_page (page_writes (writes_of handed.commits.frame)) page
    ≡ Some (record { page = page; grant = grant; bytes = put })

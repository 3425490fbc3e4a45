-- That a worker's commit was handed in, once it had served.
use Rattle.std.specs.Prelude.{◌≡◌, ◌⊎◌, ℕ, Ok, ⊤}
use Rattle.cb_outbox.specs.Messages.{page_writes}
use Rattle.cb_protocol.specs.Cache.{Open}
use Rattle.cb_protocol.specs.Client.{Aborted}
use Rattle.cb_station.specs.Commits.{writes_of}
use Rattle.cb_station.specs.Stations.{IsStation, StationState}
use Rattle.cb_worker.specs.Committing.{HandsCommitIn, IsCommitting}
use Rattle.cb_worker.specs.Keeping.{AreWritten}
use Rattle.cb_worker.specs.Moving.{IsStill}
use Rattle.cb_worker.specs.Workers.{IsIdle, WorkerState, seen_by}
use Rattle.cb_worker.specs.declared.answers.Finished.{Finished}
use Rattle.cb_worker.specs.declared.answers.Finished.TheVariants as finished

-- Once it had served, its commit was handed in, at a station of which all holds that always does.
-- It says exactly what the transaction had written, by the grants by which it had read.
pub record HandedCommitIn (old : WorkerState) : Type 0 where
  pub served : WorkerState
  pub still : IsStill old served
  pub before : StationState
  pub sound : IsStation before
  pub number : ℕ
  pub new : WorkerState
  pub after : StationState
  pub commits : HandsCommitIn served before (Ok number) new after
  pub written : AreWritten (seen_by old) (page_writes (writes_of commits.frame))

-- It is over, and nothing was handed in: one that was open was aborted.
pub record WasOver (old new : WorkerState) : Type 0 where
  pub over : IsIdle new
  pub aborted : (seen_by old).cache.status ≡ Open → (seen_by new).last_outcome ≡ Aborted

-- one that is answered as committed was handed in so, or was committing before
abbrev pub HasCommitted : WorkerState → Finished → Type 0
HasCommitted old (finished.Committed number) = IsCommitting old.client ⊎ HandedCommitIn old
HasCommitted old finished.Aborted = ⊤

-- Goals of `what_was_written_is_committed`.
use Rattle.cb_worker.proofs.Chain.{calls_keep_written, other_writes_keep, read_is_committed, want_keeps_bytes, write_replaces_bytes}
use Rattle.cb_worker.proofs.laws.what_was_written_is_committed.Goals as goal

pub returns : goal.returns
returns c = record {
  wants = want_keeps_bytes;
  writes = write_replaces_bytes;
  others = other_writes_keep;
  keeps = calls_keep_written;
  commits = read_is_committed;
}

-- Commits and batches as the protocol's.
use Rattle.std.specs.Prelude.{map}
use Rattle.cb_commit.specs.Batches.{BatchState}
use Rattle.cb_commit.specs.declared.batch.BatchPage.{BatchPage}
use Rattle.cb_commit.specs.declared.commit.Commit.{Commit}
use Rattle.cb_outbox.specs.Messages.{page_writes}
use Rattle.cb_protocol.specs.Flush.{Batch, StoredPage}
use Rattle.cb_protocol.specs.Server.{AppliedCommit}

-- a commit in the server's list
abbrev pub applied_commit : Commit → AppliedCommit
applied_commit commit = record {
  client = commit.client;
  incarnation = commit.incarnation;
  txn = commit.txn;
  number = commit.number;
  writes = page_writes commit.writes;
}

-- a page of a batch, and a batch
abbrev pub batch_page : BatchPage → StoredPage
batch_page page = record { page = page.page; version = page.version; bytes = page.bytes }

abbrev pub batch_of : BatchState → Batch
batch_of batch = record { number = batch.number; pages = map batch_page batch.pages }

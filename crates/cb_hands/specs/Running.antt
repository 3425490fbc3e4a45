-- The history of a running server: entries, the newest first, over the store that it opened with.
use Rattle.std.specs.Prelude.{◌≡◌, ℕ, ◌+◌, ◌==◌, Bool, true, false, if◌then◌else◌, List, [], ◌∷◌}
use Rattle.std.specs.Prelude.{length, map, ⊤}
use Rattle.cb_hands.specs.declared.entry.Entry.{Entry}
use Rattle.cb_hands.specs.declared.entry.Read.{Read}
use Rattle.cb_protocol.specs.AnyMessages.{Ledger, bytes_after}
use Rattle.cb_protocol.specs.Basics.{IsIn, Limits}
use Rattle.cb_protocol.specs.CommitLaws.{IsApplied}
use Rattle.cb_protocol.specs.Messages.{PageWrite}
use Rattle.cb_protocol.specs.Server.{AppliedCommit, Server, new_server}
use Rattle.cb_protocol.specs.World.{Opening, opening_store}

-- the page is in the list
abbrev pub is_among : ℕ → List ℕ → Bool
is_among page [] = false
is_among page (other ∷ pages) = if other == page then true else is_among page pages

-- the number of the last entry that wrote the page; its opening version where none did
abbrev pub last_writer : Opening → List Entry → ℕ → ℕ
last_writer opening [] page = opening.version page
last_writer opening (last ∷ earlier) page =
    if is_among page last.writes.items then opening.number + length earlier + 1
    else last_writer opening earlier page

-- each page was read at the version of the last entry that wrote it
abbrev pub ReadsFollow : Opening → List Entry → List Read → Type 0
ReadsFollow opening earlier reads =
    (read : Read) → IsIn read reads → read.version ≡ last_writer opening earlier read.page

-- each transaction read what the earlier ones left
abbrev pub IsLegal : Opening → List Entry → Type 0
IsLegal opening [] = ⊤
IsLegal opening (last ∷ earlier) =
    ReadsFollow opening earlier last.reads.items × IsLegal opening earlier

-- a commit by its names and the pages that it wrote
pub record Noted : Type 0 where
  pub client : ℕ
  pub incarnation : ℕ
  pub txn : ℕ
  pub writes : List ℕ

-- what an entry says of its commit
abbrev pub noted : Entry → Noted
noted entry = record {
  client = entry.client;
  incarnation = entry.incarnation;
  txn = entry.txn;
  writes = entry.writes.items;
}

-- the pages that are written
abbrev pub pages_of : List PageWrite → List ℕ
pages_of writes = map (λ write. write.page) writes

-- what there is to say of a commit of the server
abbrev pub noted_commit : AppliedCommit → Noted
noted_commit commit = record {
  client = commit.client;
  incarnation = commit.incarnation;
  txn = commit.txn;
  writes = pages_of commit.writes;
}

-- The entries replay to the server: their names are its commits, their last writers the versions of
-- its pages, and the bytes of these commits, written in order, its store.
pub record Replays (opening : Opening) (entries : List Entry) (server : Server) : Type 0 where
  pub commits : map noted entries ≡ map noted_commit server.commits
  pub version : (page : ℕ) → server.store.version page ≡ last_writer opening entries page
  pub bytes : (page : ℕ)
      → server.store.bytes page ≡ bytes_after opening.bytes server.commits page

-- no entries replay to a new server
abbrev pub NewServerIsNoted : Type 0
NewServerIsNoted = (limits : Limits) (opening : Opening)
    → Replays opening [] (new_server limits.clients limits.pages (opening_store limits opening))

-- An applied commit is noted by one entry more, of its names and pages; where the entry's reads are
-- of the versions that the store had, the history stays legal.
abbrev pub NotedCommit : Type 0
NotedCommit = (opening : Opening) (before after : Server)
    (client incarnation txn : ℕ) (writes : List PageWrite) (entry : Entry) (entries : List Entry)
    → Ledger opening before → Ledger opening after
    → IsApplied before after client incarnation txn writes
    → noted entry ≡ record {
      client = client;
      incarnation = incarnation;
      txn = txn;
      writes = pages_of writes;
    }
    → Replays opening entries before → IsLegal opening entries
    → ((read : Read) → IsIn read entry.reads.items
    → read.version ≡ before.store.version read.page)
    → Replays opening (entry ∷ entries) after × IsLegal opening (entry ∷ entries)

-- where no commit is applied, the same entries replay to the server
abbrev pub NoOtherChanges : Type 0
NoOtherChanges = (opening : Opening) (before after : Server) (entries : List Entry)
    → Ledger opening before → Ledger opening after → after.commits ≡ before.commits
    → Replays opening entries before → Replays opening entries after

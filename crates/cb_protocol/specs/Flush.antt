-- Commits on disk: which are reported, and what is to be written.
use Rattle.std.specs.Prelude.{ℕ, nat_lt, nat_le, Bool, ◌&&◌, if◌then◌else◌, List, [], ◌∷◌, ◌++◌}
use Rattle.std.specs.Prelude.{Option, Some, None, zero, suc}
use Rattle.cb_protocol.specs.Basics.{Bytes}
use Rattle.cb_protocol.specs.Messages.{Done}
use Rattle.cb_protocol.specs.Server.{AppliedCommit, Send, Server, ServerStep, SetFlushed}

-- the commit of that number is made and not yet on disk
abbrev pub can_flush : Server → (number : ℕ) → Bool
can_flush server number =
    nat_lt server.flushed number && nat_le number server.store.last_commit

-- a Done for each commit after the one number up to the other, in order, to its client at its
-- incarnation; the commits come the newest first
abbrev pub dones_between : List AppliedCommit → (after up_to : ℕ) → List ServerStep
dones_between [] after up_to = []
dones_between (last ∷ earlier) after up_to =
    dones_between earlier after up_to
    ++ (if nat_lt after last.number && nat_le last.number up_to
    then Send last.client last.incarnation (Done last.txn last.number) ∷ [] else [])

-- The commits up to that number are on disk: only now their clients hear Done.
abbrev pub server_flush : Server → (number : ℕ) → List ServerStep
server_flush server number =
    dones_between server.commits server.flushed number ++ SetFlushed number ∷ []

-- a page as it is now
pub record StoredPage : Type 0 where
  pub page : ℕ
  pub version : ℕ
  pub bytes : Bytes

-- what is to be written: pages, and the number of the last commit in them
pub record Batch : Type 0 where
  pub number : ℕ
  pub pages : List StoredPage

-- the page as it is now
abbrev pub stored_page : Server → (page : ℕ) → StoredPage
stored_page server page =
    record { page = page; version = server.store.version page; bytes = server.store.bytes page }

-- the pages before `end` that a commit above the last flushed one changed, rising
abbrev pub changed_pages : Server → (end : ℕ) → List StoredPage
changed_pages server zero = []
changed_pages server (suc page) =
    changed_pages server page
    ++ (if nat_lt server.flushed (server.store.version page) then stored_page server page ∷ []
    else [])

-- what is to be written next, if anything
abbrev pub next_batch : Server → Option Batch
next_batch server =
    if nat_lt server.flushed server.store.last_commit
    then Some (record {
      number = server.store.last_commit;
      pages = changed_pages server server.pages;
    })
    else None

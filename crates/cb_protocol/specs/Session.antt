-- What the server has for one client and for all, and each change that is about one client.
use Rattle.std.specs.Prelude.{ℕ, ◌+◌, ◌-◌, nat_lt, Bool, if◌then◌else◌, ◌==◌, List, Option, Some}
use Rattle.std.specs.Prelude.{None}
use Rattle.cb_protocol.specs.Basics.{Bytes, same_transaction, update}
use Rattle.cb_protocol.specs.Messages.{PageWrite, write_of_page}

-- What the server knows of one client. The row of a page is the directory's entry: that client has
-- a copy, with this grant (TODS 1997). Its version needs no place: it is always the store's.
pub record Session : Type 0 where
  -- the current incarnation; before the first Hello, 0 or the floor of a life after a restart
  pub current : ℕ
  pub row : ℕ → Option ℕ  -- the grant of the client's copy of a page
  pub txn : ℕ  -- the greatest transaction begun; 0: none
  pub ended : ℕ  -- the greatest transaction ended: the current one lives while this is smaller

-- the pages, who may write them, and the commits
pub record Store : Type 0 where
  -- the write holder of a page: the client that has its write permission (TODS 1997)
  pub holder : ℕ → Option ℕ
  pub tag : ℕ → ℕ  -- the transaction that was last permitted to write the page (MayWrite)
  pub keep_write : Bool  -- the setting: write permission is kept after a commit
  pub version : ℕ → ℕ  -- of each page: the number of the commit that wrote it last
  pub bytes : ℕ → Bytes
  pub last_commit : ℕ  -- the number of the last commit
  -- of a client's incarnation's transaction. A history variable: no message depends on it
  pub commit_number : ℕ → ℕ → ℕ → Option ℕ

-- one more commit number: that of this client's, incarnation's and number's transaction
abbrev pub set_commit_number : (ℕ → ℕ → ℕ → Option ℕ) → (client incarnation txn number : ℕ)
    → ℕ → ℕ → ℕ → Option ℕ
set_commit_number numbers client incarnation txn number at_client at_incarnation at_txn =
    if same_transaction at_client at_incarnation at_txn client incarnation txn then Some number
    else numbers at_client at_incarnation at_txn

-- a client is write holder of no page any more
abbrev pub without_holder : (ℕ → Option ℕ) → (client : ℕ) → ℕ → Option ℕ
without_holder holder client page = elim (holder page) [
  | None ↦ None
  | Some other ↦ if other == client then None else Some other
]

-- a client is not the write holder of that page any more
abbrev pub without_holder_at : (ℕ → Option ℕ) → (client page : ℕ) → ℕ → Option ℕ
without_holder_at holder client page at_page =
    if at_page == page then without_holder holder client at_page else holder at_page

-- One change of what the server has of a client. The table of messages says when each is made.
pub data SessionChange : Type 0 where
  -- a new incarnation: the rows, permissions and the transaction of the old one go
  Admit : (incarnation : ℕ) → SessionChange
  -- a later transaction; the earlier one, if it lives, ends as dropped
  BeginTransaction : (txn : ℕ) → SessionChange
  DropTransaction : (txn : ℕ) → SessionChange  -- it ends as dropped: its client's permissions go
  GrantRow : (page grant : ℕ) → SessionChange  -- a new row
  -- the client becomes write holder, for its current transaction
  PermitWrite : (page grant : ℕ) → SessionChange
  -- the copy was given back; a kept permission goes with it
  RemoveRow : (page grant : ℕ) → SessionChange
  EndPermission : (page grant txn : ℕ) → SessionChange  -- the permission goes, the row stays
  -- the next commit; its permissions go, save where they are kept
  ApplyCommit : (txn : ℕ) → (writes : List PageWrite) → SessionChange

-- the session after it
abbrev pub session_after : Session → SessionChange → Session
session_after session (Admit incarnation) =
    record { current = incarnation; row = λ page. None; txn = 0; ended = 0 }
session_after session (BeginTransaction txn) = record session { txn = txn; ended = txn - 1 }
session_after session (DropTransaction txn) = record session { ended = txn }
session_after session (GrantRow page grant) =
    record session { row = update session.row page (Some grant) }
session_after session (PermitWrite page grant) = session
session_after session (RemoveRow page grant) = record session { row = update session.row page None }
session_after session (EndPermission page grant tag) = session
session_after session (ApplyCommit txn writes) = record session { ended = txn }

-- a page's version after the commit of that number, by what the commit wrote of it
abbrev pub new_version : Option PageWrite → (number old : ℕ) → ℕ
new_version None number old = old
new_version (Some write) number old = number

-- the page's bytes after that commit
abbrev pub new_bytes : Option PageWrite → (old : Bytes) → Bytes
new_bytes None old = old
new_bytes (Some write) old = write.bytes

-- the store after a change of a client, by its session before it
abbrev pub store_after : Store → (client : ℕ) → Session → SessionChange → Store
store_after store client session (Admit incarnation) =
    record store { holder = without_holder store.holder client }
store_after store client session (BeginTransaction txn) = record store {
  holder = λ page.
      if nat_lt session.ended session.txn then without_holder store.holder client page
      else store.holder page;
}
store_after store client session (DropTransaction txn) =
    record store { holder = without_holder store.holder client }
store_after store client session (GrantRow page grant) = store
store_after store client session (PermitWrite page grant) = record store {
  holder = update store.holder page (Some client);
  tag = update store.tag page session.txn;
}
store_after store client session (RemoveRow page grant) = record store {
  holder = λ at_page.
      if store.keep_write then without_holder_at store.holder client page at_page
      else store.holder at_page;
}
store_after store client session (EndPermission page grant tag) =
    record store { holder = without_holder_at store.holder client page }
store_after store client session (ApplyCommit txn writes) = let number = store.last_commit + 1 in
    record {
      tag = store.tag;
      keep_write = store.keep_write;
      holder = λ page.
          if store.keep_write then store.holder page else without_holder store.holder client page;
      version = λ page. new_version (write_of_page writes page) number (store.version page);
      bytes = λ page. new_bytes (write_of_page writes page) (store.bytes page);
      last_commit = number;
      commit_number = set_commit_number store.commit_number client session.current txn number;
    }

-- the client's transaction lives: it has begun and not ended
abbrev pub has_live_txn : Session → Bool
has_live_txn session = nat_lt session.ended session.txn

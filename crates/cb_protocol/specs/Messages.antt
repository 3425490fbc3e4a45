-- The messages between clients and server (TODS 1997; grants, incarnations and resending are this
-- project's rule). A grant is a number that the server gives to one copy of one page at one client;
-- the messages about the copy name it.
use Rattle.std.specs.Prelude.{ℕ, Bool, true, false, if◌then◌else◌, ◌==◌, List, [], ◌∷◌, Option}
use Rattle.std.specs.Prelude.{Some, None}
use Rattle.cb_protocol.specs.Basics.{Bytes}

-- one page of a commit: its new bytes, and the grant of the copy that was written
pub record PageWrite : Type 0 where
  pub page : ℕ
  pub grant : ℕ
  pub bytes : Bytes

-- the first write of a page in a list
abbrev pub write_of_page : List PageWrite → (page : ℕ) → Option PageWrite
write_of_page [] page = None
write_of_page (write ∷ writes) page =
    if write.page == page then Some write else write_of_page writes page

-- What a message says. The first eight go from a client to the server, the others from the server
-- to a client.
pub data Body : Type 0 where
  Hello : Body  -- an incarnation of the client begins
  AskRead : (txn page : ℕ) → Body  -- asks for a copy of the page
  AskWrite : (txn page grant : ℕ) → Body  -- asks for permission to write the copy
  GiveBack : (page grant : ℕ) → Body  -- the copy is gone
  InUse : (txn page grant : ℕ)
      → Body  -- called back, but the transaction reads the copy: it is given back at its end
  Commit : (txn : ℕ) → (writes : List PageWrite) → Body
  Drop : (txn : ℕ) → Body  -- the transaction ended without a commit
  Downgraded : (page grant txn : ℕ)
      → Body  -- the permission of that transaction is given up, the copy stays
  Welcome : Body  -- the server knows the incarnation
  Granted : (page grant version : ℕ) → (bytes : Bytes)
      → Body  -- a copy, and the permission to read it
  MayWrite : (txn page grant : ℕ) → Body  -- the transaction may write the copy
  Callback : (page grant : ℕ) → Body  -- give the copy back
  Done : (txn number : ℕ) → Body  -- the commit is on disk, as commit `number`
  AbortNow : (txn : ℕ) → Body  -- the transaction is the victim of a deadlock
  Downgrade : (page grant txn : ℕ)
      → Body  -- give up the permission of that transaction, keep the copy

-- a body, and the client and incarnation that sent it or are to take it
pub record Message : Type 0 where
  pub client : ℕ
  pub incarnation : ℕ
  pub body : Body

-- the number of a message's kind on the wire
abbrev pub kind : Body → ℕ
kind Hello = 1
kind (AskRead txn page) = 2
kind (AskWrite txn page grant) = 3
kind (GiveBack page grant) = 4
kind (InUse txn page grant) = 5
kind (Commit txn writes) = 6
kind (Drop txn) = 7
kind (Downgraded page grant tag) = 8
kind Welcome = 65
kind (Granted page grant version bytes) = 66
kind (MayWrite txn page grant) = 67
kind (Callback page grant) = 68
kind (Done txn number) = 69
kind (AbortNow txn) = 70
kind (Downgrade page grant tag) = 71

-- the message goes to the server
abbrev pub to_server : Body → Bool
to_server Hello = true
to_server (AskRead txn page) = true
to_server (AskWrite txn page grant) = true
to_server (GiveBack page grant) = true
to_server (InUse txn page grant) = true
to_server (Commit txn writes) = true
to_server (Drop txn) = true
to_server (Downgraded page grant tag) = true
to_server _ = false

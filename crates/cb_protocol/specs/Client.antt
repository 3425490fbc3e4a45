-- A client: its cache and what it waits for and owes, and each step that it makes.
use Rattle.std.specs.Prelude.{ℕ, ◌+◌, nat_lt, Bool, true, false, not, ◌&&◌, ◌||◌, if◌then◌else◌}
use Rattle.std.specs.Prelude.{◌==◌, List, [], ◌∷◌, Option, Some, None, zero, suc}
use Rattle.cb_protocol.specs.Basics.{Limits, is_none, update}
use Rattle.cb_protocol.specs.Cache.{Cache, CacheChange, Committing, Idle, Open, TransactionState}
use Rattle.cb_protocol.specs.Cache.{cache_after, new_cache}
use Rattle.cb_protocol.specs.Messages.{Body}

-- the ask that is out: a client waits for at most one
pub data Ask : Type 0 where
  NoAsk : Ask
  ReadAsk : (page : ℕ) → Ask
  WriteAsk : (page : ℕ) → Ask

-- a Downgrade that was answered InUse: the grant and the transaction that it named
pub record DueDowngrade : Type 0 where
  pub grant : ℕ
  pub tag : ℕ

-- how the last transaction ended
pub data LastOutcome : Type 0 where
  NoneEnded : LastOutcome
  Committed : (number : ℕ) → LastOutcome
  Dropped : LastOutcome  -- by its client
  Aborted : LastOutcome  -- by the server

-- a client's present incarnation
pub record Client : Type 0 where
  pub cache : Cache
  pub ask : Ask
  -- a Callback was answered InUse: the copy is given back at the transaction's end (TODS 1997)
  pub due : ℕ → Bool
  -- a Downgrade was answered InUse: the permission is given up at the transaction's end
  pub due_downgrade : ℕ → Option DueDowngrade
  pub wanted : ℕ → Bool  -- the transaction asked to write the page
  pub last_outcome : LastOutcome

-- a client at the start of an incarnation
abbrev pub new_client : Client
new_client = record {
  cache = new_cache;
  ask = NoAsk;
  due = λ page. false;
  due_downgrade = λ page. None;
  wanted = λ page. false;
  last_outcome = NoneEnded;
}

-- One step of a client. A call or a message makes it do a list of steps, in order.
pub data ClientStep : Type 0 where
  ChangeCache : CacheChange → ClientStep
  Say : Body → ClientStep  -- sends a message to the server
  SetAsk : Ask → ClientStep  -- that ask is out from now on, or none
  MarkWanted : (page : ℕ) → ClientStep
  MarkDue : (page : ℕ) → ClientStep
  MarkDueDowngrade : (page : ℕ) → DueDowngrade → ClientStep
  EndTransaction : LastOutcome → ClientStep  -- no ask is out, nothing is due or wanted

-- the client after a step; the first argument is the setting of kept write permission
abbrev pub after_client_step : (keep_write : Bool) → Client → ClientStep → Client
after_client_step keep_write client (ChangeCache change) =
    record client { cache = cache_after keep_write client.cache change }
after_client_step keep_write client (Say body) = client
after_client_step keep_write client (SetAsk ask) = record client { ask = ask }
after_client_step keep_write client (MarkWanted page) =
    record client { wanted = update client.wanted page true }
after_client_step keep_write client (MarkDue page) =
    record client { due = update client.due page true }
after_client_step keep_write client (MarkDueDowngrade page downgrade) =
    record client { due_downgrade = update client.due_downgrade page (Some downgrade) }
after_client_step keep_write client (EndTransaction outcome) =
    record new_client { cache = client.cache; last_outcome = outcome }

-- the client after these steps
abbrev pub client_after : (keep_write : Bool) → Client → List ClientStep → Client
client_after keep_write client [] = client
client_after keep_write client (step ∷ steps) =
    client_after keep_write (after_client_step keep_write client step) steps

-- what it sends in them, in order
abbrev pub bodies_said : List ClientStep → List Body
bodies_said [] = []
bodies_said (Say body ∷ steps) = body ∷ bodies_said steps
bodies_said (_ ∷ steps) = bodies_said steps

-- a read ask for the page is out
abbrev pub asks_to_read : Ask → (page : ℕ) → Bool
asks_to_read (ReadAsk asked) page = asked == page
asks_to_read _ page = false

-- a write ask for it is out
abbrev pub asks_to_write : Ask → (page : ℕ) → Bool
asks_to_write (WriteAsk asked) page = asked == page
asks_to_write _ page = false

-- any ask is out
abbrev pub is_asking : Ask → Bool
is_asking NoAsk = false
is_asking _ = true

-- the transaction wants to write the page or wrote it: the pool may not let it go, and its
-- permission counts as used
abbrev pub is_fixed : Client → (page : ℕ) → Bool
is_fixed client page = client.wanted page || client.cache.wrote page

-- how many of the pages before `end` are in the pool
abbrev pub pages_in_pool : Client → (end : ℕ) → ℕ
pages_in_pool client zero = 0
pages_in_pool client (suc page) =
    if is_none (client.cache.content page) then pages_in_pool client page
    else pages_in_pool client page + 1

-- a page before `end` is in the pool and not fixed
abbrev pub some_unfixed : Client → (end : ℕ) → Bool
some_unfixed client zero = false
some_unfixed client (suc page) =
    some_unfixed client page
    || (not (is_none (client.cache.content page)) && not (is_fixed client page))

-- the pool can take one more page
abbrev pub has_room : Limits → Client → Bool
has_room limits client =
    nat_lt (pages_in_pool client limits.pages) limits.slots || some_unfixed client limits.pages

-- what a client says of itself: an open transaction whose ask is out waits
pub data ClientStatus : Type 0 where
  StatusNotWelcome : ClientStatus
  StatusIdle : ClientStatus
  StatusOpen : ClientStatus
  StatusWaiting : ClientStatus
  StatusCommitting : ClientStatus

-- of a welcomed client, by where its transaction is
abbrev pub welcomed_status : TransactionState → Ask → ClientStatus
welcomed_status Idle ask = StatusIdle
welcomed_status Open ask = if is_asking ask then StatusWaiting else StatusOpen
welcomed_status Committing ask = StatusCommitting

-- of a client, welcomed or not
abbrev pub client_status : Client → ClientStatus
client_status client =
    if not client.cache.welcomed then StatusNotWelcome
    else welcomed_status client.cache.status client.ask

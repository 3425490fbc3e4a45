-- What one incarnation of a client has: its copies of pages (TODS 1997) and its transaction, and
-- each change of them.
use Rattle.std.specs.Prelude.{ℕ, ◌+◌, max, Bool, true, false, if◌then◌else◌, List, [], ◌∷◌, Option}
use Rattle.std.specs.Prelude.{Some, None}
use Rattle.cb_protocol.specs.Basics.{Bytes, update}
use Rattle.cb_protocol.specs.Serial.{Operation, Put, Saw}

-- where a client stands with its transaction: none, an open one, or one whose Commit was sent and
-- not yet answered
pub data TransactionState : Type 0 where
  Idle : TransactionState
  Open : TransactionState
  Committing : TransactionState

-- there is no transaction
abbrev pub is_idle : TransactionState → Bool
is_idle Idle = true
is_idle _ = false

-- the transaction is open
abbrev pub is_open : TransactionState → Bool
is_open Open = true
is_open _ = false

-- the transaction's Commit was sent and not yet answered
abbrev pub is_committing : TransactionState → Bool
is_committing Committing = true
is_committing _ = false

-- A client's copies and transaction. A held page is a copy that the server granted; its bytes are
-- in the pool, or it is bare: the pool let the bytes go while the transaction reads the page. A
-- copy of a page is also the lock that lets its client read it (TODS 1997).
pub record Cache : Type 0 where
  pub welcomed : Bool  -- the server's Welcome came
  pub number : ℕ  -- of the last transaction begun; 0 before the first
  pub status : TransactionState
  pub seen : ℕ → ℕ  -- the greatest grant that ever came for the page
  pub held : ℕ → Option ℕ  -- the grant of the copy held
  pub version : ℕ → ℕ  -- of the copy held: the number of the commit that wrote it
  -- the copy's bytes; none where nothing is held or the grant is bare
  pub content : ℕ → Option Bytes
  pub locked : ℕ → Bool  -- the transaction reads the page
  pub may_write : ℕ → Bool  -- the client has write permission for the page
  pub tag : ℕ → ℕ  -- the transaction that was last permitted to write the page (MayWrite)
  pub dropped : ℕ  -- the last transaction that was dropped or aborted
  pub wrote : ℕ → Bool  -- the open or committing transaction wrote the page
  -- of the open or committing transaction, the newest first. A history variable: no answer and no
  -- message depends on it
  pub operations : List Operation

-- nothing held, no transaction, not yet welcomed
abbrev pub new_cache : Cache
new_cache = record {
  welcomed = false;
  number = 0;
  status = Idle;
  seen = λ page. 0;
  held = λ page. None;
  version = λ page. 0;
  content = λ page. None;
  locked = λ page. false;
  may_write = λ page. false;
  tag = λ page. 0;
  dropped = 0;
  wrote = λ page. false;
  operations = [];
}

-- One change of a cache. The tables of calls and messages say when each is made.
pub data CacheChange : Type 0 where
  TakeWelcome : CacheChange
  Begin : CacheChange  -- a transaction begins, with the next number
  Lock : (page : ℕ) → CacheChange
  -- a read is answered with these bytes, and locks the page
  Read : (page : ℕ) → (bytes : Bytes) → CacheChange
  TakePermission : (page : ℕ) → CacheChange
  WriteBytes : (page : ℕ) → (bytes : Bytes) → CacheChange  -- a write
  Finish : CacheChange  -- the transaction commits
  -- the transaction ends as dropped or aborted: the copies that it wrote go, and all permissions
  Abandon : CacheChange
  -- the transaction ends as committed; what it wrote has this version
  TakeDone : (number : ℕ) → CacheChange
  Install : (page grant version : ℕ) → (bytes : Bytes) → CacheChange  -- a new copy
  Fill : (page grant : ℕ) → (bytes : Bytes) → CacheChange  -- bytes for a bare grant
  -- a grant that is not held was named: it is seen
  RefuseGrant : (page grant : ℕ) → CacheChange
  LetGo : (page : ℕ) → CacheChange  -- the copy goes, and its permission
  -- the pool lets the bytes go, the grant stays
  MakeBare : (page : ℕ) → CacheChange
  YieldPermission : (page : ℕ) → CacheChange  -- the write permission goes, the copy stays

-- the cache after a change; the first argument is the setting of kept write permission
abbrev pub cache_after : (keep_write : Bool) → Cache → CacheChange → Cache
cache_after keep_write cache TakeWelcome = record cache { welcomed = true }
cache_after keep_write cache Begin = record cache { number = cache.number + 1; status = Open }
cache_after keep_write cache (Lock page) =
    record cache { locked = update cache.locked page true }
cache_after keep_write cache (Read page bytes) = record cache {
  locked = update cache.locked page true;
  operations = Saw page bytes ∷ cache.operations;
}
cache_after keep_write cache (TakePermission page) = record cache {
  may_write = update cache.may_write page true;
  tag = update cache.tag page cache.number;
}
cache_after keep_write cache (WriteBytes page bytes) = record cache {
  content = update cache.content page (Some bytes);
  wrote = update cache.wrote page true;
  operations = Put page bytes ∷ cache.operations;
}
cache_after keep_write cache Finish = record cache { status = Committing }
cache_after keep_write cache Abandon = record cache {
  dropped = cache.number;
  status = Idle;
  held = λ page. if cache.wrote page then None else cache.held page;
  content = λ page. if cache.wrote page then None else cache.content page;
  locked = λ page. false;
  may_write = λ page. false;
  wrote = λ page. false;
  operations = [];
}
cache_after keep_write cache (TakeDone number) = record cache {
  status = Idle;
  version = λ page. if cache.wrote page then number else cache.version page;
  locked = λ page. false;
  may_write = λ page. if keep_write then cache.may_write page else false;
  wrote = λ page. false;
  operations = [];
}
cache_after keep_write cache (Install page grant version bytes) = record cache {
  seen = update cache.seen page grant;
  held = update cache.held page (Some grant);
  version = update cache.version page version;
  content = update cache.content page (Some bytes);
}
cache_after keep_write cache (Fill page grant bytes) =
    record cache { content = update cache.content page (Some bytes) }
cache_after keep_write cache (RefuseGrant page grant) =
    record cache { seen = update cache.seen page (max (cache.seen page) grant) }
cache_after keep_write cache (LetGo page) = record cache {
  may_write = update cache.may_write page false;
  held = update cache.held page None;
  content = update cache.content page None;
}
cache_after keep_write cache (MakeBare page) =
    record cache { content = update cache.content page None }
cache_after keep_write cache (YieldPermission page) =
    record cache { may_write = update cache.may_write page false }

-- A client's copies of pages, as its callers see them, and the protocol's client that has them.
use Rattle.std.specs.Prelude.{◌≡◌, ℕ, Bool, true, false, ◌||◌, if◌then◌else◌, List, length}
use Rattle.std.specs.Prelude.{replicate, unwrap_or, Option, None}
use Rattle.std.specs.Option.{is_some}
use Rattle.cb_page.specs.Bounds.{Bounds, AreInRange}
use Rattle.cb_page.specs.Flags as flags
use Rattle.cb_pool.specs.PoolState.{PoolState, copy_of, empty_pool, referred}
use Rattle.cb_twoq.specs.Calls.{References, references_in}
use Rattle.cb_protocol.specs.Basics.{Bytes}
use Rattle.cb_protocol.specs.Client.{Client, has_room}
use Rattle.cb_cache.specs.declared.table.PageCopy.{PageCopy}
use Rattle.cb_cache.specs.Rows.{no_copy, row_at}
-- the protocol's limits at those of the store
pub use Rattle.cb_protocol.specs.StoreLimits.{limits_of}

-- What is known of each page, which pages the client may write, which of them its transaction wrote
-- or asked to write, and the pool of bytes.
pub record CacheState : Type 0 where
  pub limits : Bounds
  pub rows : List PageCopy
  pub may_write : List Bool
  pub wrote : List Bool
  pub wanted : List Bool
  pub pool : PoolState

-- what is known of a page
abbrev pub copy_at : CacheState → (page : ℕ) → PageCopy
copy_at copies page = row_at copies.rows page

-- the bytes of the page's copy, if they are in the pool
abbrev pub content_at : CacheState → (page : ℕ) → Option Bytes
content_at copies page = copy_of copies.pool page

-- the references to pages, in their order, each with the pages that were fixed then
abbrev pub references_at : CacheState → References
references_at copies = references_in copies.pool.calls

-- the copies once a page was referred to, if its bytes are in the pool
abbrev pub referred_to : CacheState → (page : ℕ) → CacheState
referred_to copies page = record copies { pool = referred copies.pool page }

-- no grant ever came
abbrev pub no_copies : Bounds → CacheState
no_copies limits = record {
  limits = limits;
  rows = replicate limits.pages no_copy;
  may_write = replicate limits.pages false;
  wrote = replicate limits.pages false;
  wanted = replicate limits.pages false;
  pool = empty_pool limits.slots limits.pages limits.page_size;
}

-- each has an entry for each page, and the pool has the limits' sizes
pub record HaveSizes (copies : CacheState) : Type 0 where
  pub rows : length copies.rows ≡ copies.limits.pages
  pub may_write : length copies.may_write ≡ copies.limits.pages
  pub wrote : length copies.wrote ≡ copies.limits.pages
  pub wanted : length copies.wanted ≡ copies.limits.pages
  pub pages : length copies.pool.pages ≡ copies.limits.pages
  pub fixed : length copies.pool.fixed ≡ copies.limits.pages
  pub slots : copies.pool.slots ≡ copies.limits.slots
  pub page_size : copies.pool.page_size ≡ copies.limits.page_size

-- What holds of the copies of every client (this project's rules).
pub record AreCopies (copies : CacheState) : Type 0 where
  pub limits : AreInRange copies.limits
  pub sizes : HaveSizes copies
  -- a page in the pool is held, and so is one that may be written
  pub here_held : (page : ℕ) → is_some (content_at copies page) ≡ true
      → is_some (copy_at copies page).held ≡ true
  pub permitted_held : (page : ℕ) → flags.has copies.may_write page ≡ true
      → is_some (copy_at copies page).held ≡ true
  -- what the transaction wrote is in the pool
  pub wrote_here : (page : ℕ) → flags.has copies.wrote page ≡ true
      → is_some (content_at copies page) ≡ true
  -- the pool may not let a page go that the transaction wrote or asked to write
  pub fixed : (page : ℕ) → flags.has copies.pool.fixed page
      ≡ (flags.has copies.wanted page || flags.has copies.wrote page)

-- the client with these copies in place of its own; all else stays
abbrev pub client_with : CacheState → Client → Client
client_with copies client = record client {
  cache = record client.cache {
    seen = λ page. unwrap_or (copy_at copies page).seen 0;
    held = λ page. (copy_at copies page).held;
    version = λ page. (copy_at copies page).version;
    content = λ page. content_at copies page;
    may_write = λ page. flags.has copies.may_write page;
    tag = λ page. unwrap_or (copy_at copies page).tag 0;
    wrote = λ page. flags.has copies.wrote page;
  };
  wanted = λ page. flags.has copies.wanted page;
}

-- the bytes of these pages are out of the pool, and no page was referred to
pub record Emptied (old : PoolState) (pages : List Bool) (new : PoolState) : Type 0 where
  pub slots : new.slots ≡ old.slots
  pub page_size : new.page_size ≡ old.page_size
  pub fixed : new.fixed ≡ old.fixed
  pub count : length new.pages ≡ length old.pages
  pub content : (page : ℕ) → copy_of new page
      ≡ (if flags.has pages page then None else copy_of old page)
  pub references : references_in new.calls ≡ references_in old.calls

-- the pool can't take in one more page
abbrev pub IsFull : CacheState → Type 0
IsFull copies =
    (client : Client) → has_room (limits_of copies.limits) (client_with copies client) ≡ false

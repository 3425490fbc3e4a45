-- What a client that has locked pages owes the server, and the protocol's client that has them.
use Rattle.std.specs.Prelude.{◌≡◌, ℕ, true, length, Option, Some, None, IfSome}
use Rattle.std.specs.Option.{is_some}
use Rattle.cb_page.specs.Flags.{has}
use Rattle.cb_protocol.specs.Client.{Client, DueDowngrade, new_client}
use Rattle.cb_locks.specs.Dues.{called_by, is_due}
use Rattle.cb_locks.specs.Locks.{LocksState, due_at}
use Rattle.cb_locks.specs.declared.dues.DueDowngrade as locks
use Rattle.cb_cache.specs.CacheState.{CacheState, client_with, content_at, copy_at}

-- a downgrade that is due
abbrev pub downgrade_of : Option locks.DueDowngrade → Option DueDowngrade
downgrade_of None = None
downgrade_of (Some due) = Some (record { grant = due.grant; tag = due.tag })

-- the client with what these locks say in place of its own; all else stays
abbrev pub locks_with : LocksState → Client → Client
locks_with locks client = record client {
  cache = record client.cache { locked = λ page. has locks.locked page };
  due = λ page. is_some (due_at locks page).callback;
  due_downgrade = λ page. downgrade_of (due_at locks page).downgrade;
}

-- a client that has these copies and locks
abbrev pub holder : CacheState → LocksState → Client
holder copies locks = client_with copies (locks_with locks new_client)

-- A page of which the end of a transaction has something to say is locked, and what is due is of
-- the grant held.
pub record OwesLocked (copies : CacheState) (locks : LocksState) : Type 0 where
  pub sized : length locks.locked ≡ copies.limits.pages
  pub due_locked : (page : ℕ) → is_due (due_at locks page) ≡ true → has locks.locked page ≡ true
  pub due_held : (page : ℕ) → IfSome (called_by (due_at locks page))
      (λ called. (copy_at copies page).held ≡ Some called.0)
  pub bare_locked : (page : ℕ) → is_some (copy_at copies page).held ≡ true
      → content_at copies page ≡ None → has locks.locked page ≡ true
  pub wrote_locked : (page : ℕ) → has copies.wrote page ≡ true → has locks.locked page ≡ true

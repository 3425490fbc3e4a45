-- How many frames the end of a transaction may say of its pages.
use Rattle.std.specs.Prelude.{◌+◌, ℕ, zero, suc, Bool, true, false, ◌&&◌, ◌||◌, not}
use Rattle.std.specs.Option.{is_some}
use Rattle.cb_page.specs.Counting.{bit}
use Rattle.cb_page.specs.Flags.{has}
use Rattle.cb_cache.specs.CacheState.{CacheState, content_at}
use Rattle.cb_locks.specs.Dues.{is_due}
use Rattle.cb_locks.specs.Locks.{LocksState, due_at}

-- something is due of the page that is answered at the end: a permission alone isn't where the
-- transaction is dropped
abbrev pub answers : LocksState → (dropped : Bool) → (page : ℕ) → Bool
answers locks true page = is_some (due_at locks page).callback
answers locks false page = is_due (due_at locks page)

-- so is due of the page, or it is bare, or a transaction that is dropped wrote it
abbrev pub speaks : CacheState → LocksState → (dropped : Bool) → (page : ℕ) → Bool
speaks copies locks dropped page =
    answers locks dropped page
    || (dropped && has copies.wrote page || not (is_some (content_at copies page)))

-- how many of the pages before `end` are locked and are so
abbrev pub room_below : CacheState → LocksState → (dropped : Bool) → (end : ℕ) → ℕ
room_below copies locks dropped zero = 0
room_below copies locks dropped (suc page) =
    room_below copies locks dropped page
    + bit (has locks.locked page && speaks copies locks dropped page)

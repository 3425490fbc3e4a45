-- What a client's transaction has locked, and what is due at its end.
use Rattle.std.specs.Prelude.{ℕ, Bool, false, List, [], ◌++◌, length, replicate, option_to_list}
use Rattle.std.specs.Prelude.{slice_index_or, slice_set, Option, Some, None, suc, zero}
use Rattle.cb_locks.specs.declared.callback_due.CallbackDue.{CallbackDue}
use Rattle.cb_locks.specs.declared.dues.PageDue.{PageDue}
use Rattle.cb_locks.specs.Dues.{called_by, noted, nothing_due}

-- the locks of one incarnation of a client
pub record LocksState : Type 0 where
  pub client : ℕ
  pub incarnation : ℕ
  pub txn : Option ℕ  -- the transaction that began last
  pub locked : List Bool  -- the pages that it reads
  pub dues : List PageDue  -- what is due of each page at its end

-- no transaction has begun, and nothing is locked or due
abbrev pub no_locks : (client incarnation pages : ℕ) → LocksState
no_locks client incarnation pages = record {
  client = client;
  incarnation = incarnation;
  txn = None;
  locked = replicate pages false;
  dues = replicate pages nothing_due;
}

-- what is due of a page
abbrev pub due_at : LocksState → (page : ℕ) → PageDue
due_at locks page = slice_index_or locks.dues page nothing_due

-- this is due of the page
abbrev pub with_due : LocksState → (page : ℕ) → PageDue → LocksState
with_due locks page due = record locks { dues = slice_set locks.dues page due }

-- this callback of the page is due too
abbrev pub with_noted : LocksState → (page grant : ℕ) → (tag : Option ℕ) → LocksState
with_noted locks page grant tag = with_due locks page (noted (due_at locks page) grant tag)

-- the page is not locked, and nothing is due of it
abbrev pub unlocked : LocksState → (page : ℕ) → LocksState
unlocked locks page = record locks {
  locked = slice_set locks.locked page false;
  dues = slice_set locks.dues page nothing_due;
}

-- nothing is locked or due
abbrev pub ended : LocksState → LocksState
ended locks = record locks {
  locked = replicate (length locks.locked) false;
  dues = replicate (length locks.dues) nothing_due;
}

-- a callback of this client's copy of the page, or of its permission where there is a tag
abbrev pub callback : LocksState → (page grant : ℕ) → (tag : Option ℕ) → CallbackDue
callback locks page grant tag = record {
  client = locks.client;
  incarnation = locks.incarnation;
  page = page;
  grant = grant;
  tag = tag;
}

-- that callback of the page, if there is one
abbrev pub callback_by : LocksState → (page : ℕ) → Option (ℕ × Option ℕ) → Option CallbackDue
callback_by locks page None = None
callback_by locks page (Some called) = Some (callback locks page called.0 called.1)

-- the callback of the page that is to be answered at the transaction's end
abbrev pub owed_at : LocksState → (page : ℕ) → Option CallbackDue
owed_at locks page = callback_by locks page (called_by (due_at locks page))

-- those of the pages before `end`, rising
abbrev pub owed_below : LocksState → (end : ℕ) → List CallbackDue
owed_below locks zero = []
owed_below locks (suc page) = owed_below locks page ++ option_to_list (owed_at locks page)

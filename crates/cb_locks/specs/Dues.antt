-- What a client owes the server of a page when its transaction ends.
use Rattle.std.specs.Prelude.{◌≡◌, ℕ, Bool, true, false, ◌||◌, List, map, count_by, Option, Some}
use Rattle.std.specs.Prelude.{None}
use Rattle.std.specs.Option.{is_some}
use Rattle.cb_locks.specs.declared.dues.DueDowngrade.{DueDowngrade}
use Rattle.cb_locks.specs.declared.dues.PageDue.{PageDue}

-- nothing is due of the page
abbrev pub nothing_due : PageDue
nothing_due = record { callback = None; downgrade = None }

-- the copy is due (TODS 1997), or the write permission (this project's kept write permission)
abbrev pub is_due : PageDue → Bool
is_due due = is_some due.callback || is_some due.downgrade

-- the callback to answer: its grant, and its tag where the permission alone is due
abbrev pub copy_first : (callback : Option ℕ) → (downgrade : Option DueDowngrade)
    → Option (ℕ × Option ℕ)
copy_first (Some grant) downgrade = Some (grant, None)
copy_first None (Some downgrade) = Some (downgrade.grant, Some downgrade.tag)
copy_first None None = None

-- One answer a page: a copy that is given back takes its permission with it.
abbrev pub called_by : PageDue → Option (ℕ × Option ℕ)
called_by due = copy_first due.callback due.downgrade

-- this callback is due too; one with a tag is of the permission alone
abbrev pub noted : PageDue → (grant : ℕ) → (tag : Option ℕ) → PageDue
noted due grant None = record due { callback = Some grant }
noted due grant (Some tag) =
    record due { downgrade = Some (record { grant = grant; tag = tag }) }

-- the flags and the count of the pages of which something is due
pub record AreCounted (dues : List PageDue) (flags : List Bool) (count : ℕ) : Type 0 where
  pub flags_are : flags ≡ map is_due dues
  pub count_is : count ≡ count_by is_due dues

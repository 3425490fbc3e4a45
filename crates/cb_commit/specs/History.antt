-- Commits over an opening store, and how far they are on disk.
use Rattle.std.specs.Prelude.{◌≡◌, ℕ, ◌+◌, ◌-◌, ◌<◌, ◌≤◌, nat_lt, nat_le, ◌&&◌, if◌then◌else◌, List}
use Rattle.std.specs.Prelude.{[], ◌∷◌, ◌++◌, map, take, drop, length, slice_set}
use Rattle.std.specs.Prelude.{Option, Some, None}
use Rattle.std.specs.List.{All}
use Rattle.cb_frame.specs.Grammar.{page_of}
use Rattle.cb_page.specs.Rising.{IsRising}
use Rattle.cb_frame.specs.declared.frame.Frame.{Frame}
use Rattle.cb_frame.specs.declared.frame.Body.TheVariants as body
use Rattle.cb_frame.specs.declared.frame.ShortBody.TheVariants as short
use Rattle.cb_frame.specs.declared.writes.Write.{Write}
use Rattle.cb_commit.specs.declared.store.StoredPage.{StoredPage}
use Rattle.cb_commit.specs.declared.commit.Commit.{Commit}
use Rattle.cb_commit.specs.Stores.{StoreState}
use Rattle.cb_commit.specs.Batches.{BatchState, changed_below, after_batch}

-- the pages after a commit of this number wrote these, in order
abbrev pub rewritten : ℕ → List StoredPage → List Write → List StoredPage
rewritten number pages [] = pages
rewritten number pages (write ∷ writes) =
    rewritten number
    (slice_set pages write.page (record { version = number; bytes = write.bytes })) writes

-- the store with one commit written over it
abbrev pub written : StoreState → Commit → StoreState
written store commit = record store {
  pages = rewritten commit.number store.pages commit.writes;
  number = commit.number;
}

-- the store with commits written over it, the first one first
abbrev pub store_after : StoreState → List Commit → StoreState
store_after store [] = store
store_after store (commit ∷ commits) = store_after (written store commit) commits

-- The opening store, the store now, all commits since, the first one first, how many of them were
-- forgotten, and the number of the last commit on disk. Of what was forgotten, and of the opening
-- store, memory has nothing; it stands here all the same.
pub record CommitsState : Type 0 where
  pub opening : StoreState
  pub store : StoreState
  pub commits : List Commit
  pub forgotten : ℕ
  pub flushed : ℕ

-- a page that the store has, with as many bytes as a page has
pub record WritesInto (store : StoreState) (write : Write) : Type 0 where
  pub page : write.page < length store.pages
  pub bytes : length write.bytes ≡ store.page_size

-- What a commit may write into a store: pages that it has, each once, rising.
pub record FitsInto (s : StoreState) (writes : List Write) : Type 0 where
  pub pages : All (WritesInto s) writes
  pub rising : IsRising (map page_of writes)

-- the commits have the numbers after this one, one by one
abbrev pub Numbered : ℕ → List Commit → Type 0
Numbered last [] = Unit {0}
Numbered last (commit ∷ commits) = (commit.number ≡ last + 1) × Numbered (last + 1) commits

-- The store is the opening store with the commits written over it; they are numbered on from the
-- opening store's, and each writes a page once; no later commit is on disk than there is, and what
-- was forgotten is on disk (this project's rule).
pub record AreCommits (s : CommitsState) : Type 0 where
  pub folded : s.store ≡ store_after s.opening s.commits
  pub numbered : Numbered s.opening.number s.commits
  pub rising : All (λ commit. IsRising (map page_of commit.writes)) s.commits
  pub count : s.store.number ≡ s.opening.number + length s.commits
  pub pages : length s.opening.pages ≡ length s.store.pages
  pub page_size : s.opening.page_size ≡ s.store.page_size
  pub from_opening : s.opening.number ≤ s.flushed
  pub to_last : s.flushed ≤ s.store.number
  pub forgotten_on_disk : s.opening.number + s.forgotten ≤ s.flushed

-- nothing committed yet, so nothing forgotten; what the store opens with is on disk
abbrev pub begun : StoreState → CommitsState
begun s = record { opening = s; store = s; commits = []; forgotten = 0; flushed = s.number }

-- the commits that weren't forgotten, the first one first
abbrev pub remembered : CommitsState → List Commit
remembered s = drop s.forgotten s.commits

-- the commits up to a number are forgotten; of those that were before, nothing changes
abbrev pub forgot : CommitsState → ℕ → CommitsState
forgot s number =
    record s { forgotten = s.forgotten + (number - (s.opening.number + s.forgotten)) }

-- one more commit
abbrev pub applied : CommitsState → Commit → CommitsState
applied s commit =
    record s { store = written s.store commit; commits = s.commits ++ commit ∷ [] }

-- the store after the commits up to a number
abbrev pub store_at : CommitsState → ℕ → StoreState
store_at s number = store_after s.opening (take (number - s.opening.number) s.commits)

-- what is to be written next, if anything
abbrev pub next_batch : CommitsState → Option BatchState
next_batch s = if nat_lt s.flushed s.store.number then Some (record {
  number = s.store.number;
  pages = changed_below s.flushed s.store.pages (length s.store.pages);
}) else None

-- Table rule: whichever commit from the last flushed one on the tables are at, the batch makes them
-- the store (this project's rule).
abbrev pub CatchesUp : CommitsState → BatchState → Type 0
CatchesUp s batch = (number : ℕ) → s.flushed ≤ number → number ≤ s.store.number
    → after_batch (store_at s number) batch ≡ s.store

-- that commit was made, and isn't on disk yet
pub record CanFlush (s : CommitsState) (number : ℕ) : Type 0 where
  pub above : s.flushed < number
  pub there : number ≤ s.store.number

-- the Done of a commit, to its client at its incarnation
abbrev pub done_of : Commit → Frame
done_of commit = record {
  client = commit.client;
  incarnation = commit.incarnation;
  body = body.Short (short.Done commit.txn commit.number);
}

-- a Done for each commit above a number up to another, in order
abbrev pub dones_between : ℕ → ℕ → List Commit → List Frame
dones_between above last [] = []
dones_between above last (commit ∷ commits) =
    (if nat_lt above commit.number && nat_le commit.number last then done_of commit ∷ [] else [])
    ++ dones_between above last commits

-- What memory has of a server's commits, and what proofs alone have.
use Rattle.std.specs.Prelude.{ℕ, List, [], ◌∷◌}
use Rattle.cb_commit.specs.History.{CommitsState}
use Rattle.cb_commit.specs.Stores.{StoreState}
use Rattle.cb_commit.specs.declared.commit.Commit.{Commit}
use Rattle.cb_commit.specs.Past.{PastState}

-- what stands for a store that nobody opened with
abbrev pub no_store : StoreState
no_store = record { page_size = 0; pages = []; number = 0 }

-- the store that was opened with, of the list that proofs have of it alone
abbrev pub opened : List (StoreState × Unit {0}) → StoreState
opened [] = no_store
opened (first ∷ _) = first.0

-- the commits over the store that was opened with
abbrev pub commits_in : List (StoreState × Unit {0}) → StoreState → PastState Commit → ℕ
    → CommitsState
commits_in opening store commits flushed = record {
  opening = opened opening;
  store = store;
  commits = commits.items;
  forgotten = commits.forgotten;
  flushed = flushed;
}

-- Commits and flushes in any order, and what the tables are then.
use Rattle.std.specs.Prelude.{◌≡◌, ℕ, ◌+◌, ◌≤◌, List, [], ◌∷◌, Option, Some, None}
use Rattle.sqlite.specs.Store.{Ghosts}
use Rattle.sqlite.specs.Held.{Held, state}
use Rattle.cb_commit.specs.declared.commit.Commit.{Commit}
use Rattle.cb_commit.specs.Stores.{StoreState, IsSound}
use Rattle.cb_commit.specs.Batches.{BatchState, after_batch}
use Rattle.cb_commit.specs.History.{CommitsState, FitsInto, applied, begun, store_at}
use Rattle.cb_shelf.specs.Inside.{IsSame, IsSettled}
use Rattle.cb_shelf.specs.Statements.{MakesAll, batch_statements}
use Rattle.cb_shelf.specs.Flushing.{to_write, once_written}

-- The commits of a server, the batch that is held, the one that was written and isn't reported yet,
-- and the store that the tables are.
pub record Flushing : Type 0 where
  pub commits : CommitsState
  pub held : Option BatchState
  pub unreported : Option BatchState
  pub tables : StoreState

-- What comes of a server and its tables, one step at a time: a commit; the next batch is taken,
-- unless one is held; the batch that is held is written; what was written is reported, and none is
-- held then. A step that is refused changes nothing, and is none of these.
pub data Event : Type 0 where
  committed : Commit → Event
  taken : Event
  written : Event
  reported : Event

-- the tables once a batch is written
abbrev pub rewritten_tables : StoreState → Option BatchState → StoreState
rewritten_tables tables (Some batch) = after_batch tables batch
rewritten_tables tables None = tables

abbrev pub after_event : Flushing → Event → Flushing
after_event f (committed commit) = record f { commits = applied f.commits commit }
after_event f taken = record f { held = to_write f.held f.commits }
after_event f written =
    record f { unreported = f.held; tables = rewritten_tables f.tables f.held }
after_event f reported = record f {
  commits = once_written f.commits f.unreported;
  held = None;
  unreported = None;
}

abbrev pub after_events : Flushing → List Event → Flushing
after_events f [] = f
after_events f (event ∷ events) = after_events (after_event f event) events

-- a commit has the next number and fits the store
abbrev pub MayCome : Flushing → Event → Type 0
MayCome f (committed commit) = (commit.number ≡ f.commits.store.number + 1)
    × FitsInto f.commits.store commit.writes
MayCome f _ = Unit {0}

abbrev pub MayAllCome : Flushing → List Event → Type 0
MayAllCome f [] = Unit {0}
MayAllCome f (event ∷ events) = MayCome f event × MayAllCome (after_event f event) events

-- nothing is committed yet, and the tables are the store
abbrev pub opened : StoreState → Flushing
opened store =
    record { commits = begun store; held = None; unreported = None; tables = store }

-- Flush rule: whatever was committed, at whichever step of a flush, and however often a batch was
-- written, the tables are the store after some of the commits, at least those that were reported
-- (this project's rule).
abbrev pub TablesFollow : Type 0
TablesFollow = (store : StoreState) → IsSound store → (events : List Event)
    → MayAllCome (opened store) events
    → let now = after_events (opened store) events in (number : ℕ)
    × (now.commits.flushed ≤ number) × (number ≤ now.commits.store.number)
    × (now.tables ≡ store_at now.commits number)

-- how far a flush came: it took no batch, or took one, and wrote it, and reported it
pub data Reach : Type 0 where
  takes_none : Reach
  takes : Reach
  writes : Reach
  reports : Reach

-- its steps
abbrev pub steps_of : Reach → List Event
steps_of takes_none = []
steps_of takes = taken ∷ []
steps_of writes = taken ∷ written ∷ []
steps_of reports = taken ∷ written ∷ reported ∷ []

-- what the tables are told by it: the statements of its batch, if that is written, and nothing is
-- left open then
abbrev pub Runs : {S : Type 0} → Ghosts S → Reach → Option BatchState → Held S → Held S → Type 0
Runs g reports (Some batch) old new =
    MakesAll g (batch_statements batch) (state g old).now (state g new).committed
    × IsSettled (state g new)
Runs g writes (Some batch) old new =
    MakesAll g (batch_statements batch) (state g old).now (state g new).committed
    × IsSettled (state g new)
Runs g _ batch old new = IsSame (state g old) (state g new)

-- The steps that a flush is: what they make of the commits and of the batch that is held, whatever
-- the tables are and whatever was written before, and which statements ran.
pub record AreSteps {S : Type 0} (g : Ghosts S) (commits after : CommitsState)
    (held left : Option BatchState) (old new : Held S) : Type 0 where
  pub reach : Reach
  pub makes : (unreported : Option BatchState) (tables : StoreState) → (after_events (record {
    commits = commits;
    held = held;
    unreported = unreported;
    tables = tables;
  }) (steps_of reach)).commits ≡ after
  pub leaves : (unreported : Option BatchState) (tables : StoreState) → (after_events (record {
    commits = commits;
    held = held;
    unreported = unreported;
    tables = tables;
  }) (steps_of reach)).held ≡ left
  pub runs : Runs g reach (to_write held commits) old new

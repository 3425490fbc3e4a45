-- Commits, flushes, refusals, opens and stops in any order, and what a load answers then. This
-- project's rules.
use Rattle.std.specs.Prelude.{◌≡◌, ℕ, ◌+◌, ◌-◌, ◌<◌, ◌≤◌, Bool, true, false, Option, Some, None}
use Rattle.std.specs.Prelude.{List, [], ◌∷◌, ◌++◌, length, take}
use Rattle.std.specs.List.{All, Contains}
use Rattle.sqlite.specs.Store.{Ghosts}
use Rattle.sqlite.specs.Effect.{Database}
use Rattle.cb_page.specs.Bounds.{Bounds}
use Rattle.cb_frame.specs.declared.frame.Frame.{Frame}
use Rattle.cb_commit.specs.declared.commit.Commit.{Commit}
use Rattle.cb_commit.specs.Stores.{StoreState, IsOf, zeros}
use Rattle.cb_commit.specs.Batches.{BatchState}
use Rattle.cb_commit.specs.History.{done_of, store_after}
use Rattle.cb_shelf.specs.Statements.{MakesAll, batch_statements}
use Rattle.cb_shelf.specs.Writing.{Fits}
use Rattle.cb_shelf.specs.LifeRows.{LifeState, life_row, unserved}
use Rattle.cb_shelf.specs.Living as living
use Rattle.cb_shelf.specs.Living.{Follows, life_from, life_statements}
use Rattle.cb_shelf.specs.Newer.{HoldsNewer}
use Rattle.cb_shelf.specs.Opening.{laid, LaysOut}
use Rattle.cb_shelf.specs.Flushing.{dones_of}
use Rattle.cb_shelf.specs.Events.{Flushing, Event, MayCome, after_event, opened}
use Rattle.cb_shelf.specs.Events.Event.{written, reported}
use Rattle.cb_shelf_laws.specs.LifeLaws.{IsUnlived}
use Rattle.cb_shelf_laws.specs.Tables.{no_schema, old_schema}
use Rattle.cb_shelf_laws.specs.Rows.{IsLife, IsShelf, HasFullPages}

-- What may happen: a commit, or a step of a flush; a write that is refused, and changes nothing;
-- the shelf is opened again; a life of the server begins, or gets room for an incarnation; or the
-- server stops, once the batch that it holds is in the file or before, and another one begins over
-- the file.
pub data Step : Type 0 where
  happened : Event → Step
  refused : Step
  reopened : Step
  lived : LifeState → Step
  raised : (incarnation : ℕ) → Step
  stopped : (is_written : Bool) → Step

-- What the servers over a file went through: the commits of former servers that were in the file
-- when each stopped, the first one first; the present server; every Done that was said; the life
-- that the tables tell of; and the floor of each life that began, the last one first.
pub record Course : Type 0 where
  pub former : List Commit
  pub present : Flushing
  pub dones : List Frame
  pub life : LifeState
  pub floors : List ℕ

-- nothing is committed, and the tables are the store that the first open left, and tell of this
-- life
abbrev pub begun : StoreState → LifeState → Course
begun opening life = record {
  former = [];
  present = opened opening;
  dones = [];
  life = life;
  floors = [];
}

-- the commits that count
abbrev pub commits_of : Course → List Commit
commits_of c = c.former ++ c.present.commits.commits

-- of a server's commits, those that its tables have
abbrev pub commits_in : Flushing → List Commit
commits_in f = take (f.tables.number - f.commits.opening.number) f.commits.commits

-- the server stops, and another one begins over the tables
abbrev pub restarted : Course → Course
restarted c = record c {
  former = c.former ++ commits_in c.present;
  present = opened c.present.tables;
}

-- the Dones that an event says
abbrev pub dones_by : Flushing → Event → List Frame
dones_by f reported = dones_of f.commits f.unreported
dones_by f _ = []

abbrev pub after_step : Course → Step → Course
after_step c (happened event) = record c {
  present = after_event c.present event;
  dones = c.dones ++ dones_by c.present event;
}
after_step c refused = c
after_step c reopened = c
after_step c (lived life) = record c { life = life; floors = life.floor ∷ c.floors }
after_step c (raised incarnation) = record c { life = living.raised c.life incarnation }
after_step c (stopped false) = restarted c
after_step c (stopped true) = restarted (record c { present = after_event c.present written })

abbrev pub after_steps : Course → List Step → Course
after_steps c [] = c
after_steps c (step ∷ steps) = after_steps (after_step c step) steps

-- the Done of one of these commits, whose number isn't above this one
abbrev pub IsDoneOf : List Commit → ℕ → Frame → Type 0
IsDoneOf commits most frame = (commit : Commit) × Contains commits commit
    × (commit.number ≤ most) × (frame ≡ done_of commit)

-- The first open of a file, the opening store, which it leaves there, and the life that the tables
-- tell of then. It found no table, and made them with zeros; or those of an older generation alone,
-- and copied the store in them; or a shelf's tables with that store. Or these had no table of
-- lives, and the first life that is kept began over them. A store that was copied or found is of
-- the limits, with full pages.
pub data FirstOpen {S : Type 0} (g : Ghosts S) (limits : Bounds) (opening : StoreState)
    (life : LifeState) (before first : Database) : Type 0 where
  made : before.schema ≡ no_schema → LaysOut g limits before first → opening ≡ zeros limits
      → life ≡ unserved false → FirstOpen g limits opening life before first
  copied : before.schema ≡ old_schema → MakesAll g (laid opening true) before first
      → IsOf limits opening → HasFullPages opening → life ≡ unserved true
      → FirstOpen g limits opening life before first
  found : (older : Bool) → IsShelf older before → IsLife older before life
      → HoldsNewer before opening → LaysOut g limits before first → IsOf limits opening
      → HasFullPages opening → FirstOpen g limits opening life before first
  unlived : (older : Bool) → IsUnlived older before → HoldsNewer before opening
      → Follows before life → MakesAll g (life_statements life) before first
      → IsOf limits opening → HasFullPages opening → FirstOpen g limits opening life before first

module _ {S : Type 0} (g : Ghosts S) (limits : Bounds) where
  -- the statements of a batch that fits make one database of another
  abbrev pub Writes : Option BatchState → Database → Database → Type 0
  Writes (Some batch) before after =
      Fits limits batch × MakesAll g (batch_statements batch) before after
  Writes None before after = before ≡ after

  -- what an event makes of the tables: a batch that is held is written, and nothing else
  abbrev pub MakesEvent : Flushing → Event → Database → Database → Type 0
  MakesEvent f written before after = Writes f.held before after
  MakesEvent f event before after = before ≡ after

  abbrev pub MakesStep : Course → Step → Database → Database → Type 0
  MakesStep c (happened event) before after =
      MayCome c.present event × MakesEvent c.present event before after
  MakesStep c refused before after = before ≡ after
  MakesStep c reopened before after = LaysOut g limits before after
  MakesStep c (lived life) before after =
      Follows before life × MakesAll g (life_statements life) before after
  MakesStep c (raised incarnation) before after = (c.life.below ≤ incarnation)
      × MakesAll g (life_row (living.raised c.life incarnation) ∷ []) before after
  MakesStep c (stopped false) before after = LaysOut g limits before after
  MakesStep c (stopped true) before after = (between : Database)
      × Writes c.present.held before between × LaysOut g limits between after

  -- steps made one database of another, one after the other
  abbrev pub MakesSteps : Course → List Step → Database → Database → Type 0
  MakesSteps c [] before after = before ≡ after
  MakesSteps c (step ∷ steps) before after = (between : Database)
      × MakesStep c step before between × MakesSteps (after_step c step) steps between after

-- The store is the opening one with so many of the commits that count written over it, the first
-- ones: at least those that were reported, at most all. Each Done that was said is of one of these,
-- and has no number above the store's.
pub record IsFollowed (opening : StoreState) (c : Course) (answered : StoreState) : Type 0 where
  pub count : ℕ
  pub store : answered ≡ store_after opening (take count (commits_of c))
  pub number : answered.number ≡ opening.number + count
  pub least : c.present.commits.flushed ≤ answered.number
  pub most : count ≤ length (commits_of c)
  pub dones : All (IsDoneOf (take count (commits_of c)) answered.number) c.dones

-- what the tables answer after the first open, and the steps since
abbrev pub LoadsFollowCommits : {S : Type 0} → Ghosts S → Type 0
LoadsFollowCommits g = (limits : Bounds) (steps : List Step) (opening answered : StoreState)
    (life : LifeState) (before first after : Database)
    → FirstOpen g limits opening life before first
    → MakesSteps g limits (begun opening life) steps first after
    → HasFullPages answered → HoldsNewer after answered
    → IsFollowed opening (after_steps (begun opening life) steps) answered

-- These floors, the last one first, rise from the one number on, and stay below the other.
abbrev pub AreNew : List ℕ → (least below : ℕ) → Type 0
AreNew [] least below = Unit {0}
AreNew (floor ∷ floors) least below = (floor < below) × (least ≤ floor) × AreNew floors least floor

-- After the first open, and the steps since: the floors of the lives that began rise, so none was
-- handed out twice. All are below the number that the tables tell, and so is each incarnation that
-- a life had room for; and the next life's floor is this number.
abbrev pub FloorsAreNew : {S : Type 0} → Ghosts S → Type 0
FloorsAreNew g = (limits : Bounds) (steps : List Step) (opening : StoreState)
    (life next : LifeState) (before first after : Database)
    → FirstOpen g limits opening life before first
    → MakesSteps g limits (begun opening life) steps first after
    → AreNew (after_steps (begun opening life) steps).floors life.below
    (after_steps (begun opening life) steps).life.below
    × (Follows after next → next ≡ life_from (after_steps (begun opening life) steps).life.below)

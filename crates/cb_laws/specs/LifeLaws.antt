-- How a life of the server begins, and which incarnations its clients have: what the code that
-- starts a server over a table that it finds needs to know.
use Rattle.std.specs.Prelude.{◌≡◌, ◌<◌, ◌≤◌, ℕ, ◌+◌, ◌*◌, List, []}
use Rattle.cb_protocol.specs.AnyMessages.{ComesFromClient, ReachedBy}
use Rattle.cb_protocol.specs.Basics.{Limits, max_number}
use Rattle.cb_protocol.specs.Deadlock.{InputInRange}
use Rattle.cb_protocol.specs.Headline.{SoundOpening}
use Rattle.cb_protocol.specs.LivesWorld.{IsNewFloor, Lives, LivesEvent, Reaches, server_of_life}
use Rattle.cb_protocol.specs.Ranges.{InputTaken, IsNumber}
use Rattle.cb_protocol.specs.Server.{DeadlockTest}
use Rattle.cb_protocol.specs.World.{Opening}

-- Some inputs make a new server over that store into the server of a life with that floor. So each
-- law of a server that is reached from a new one holds of it, and of all that it becomes. Such laws
-- speak of three kinds of inputs, and those that do it are of each kind.
pub record LifeIsReached (limits : Limits) (cycle : DeadlockTest) (opening : Opening) (floor : ℕ)
    : Type 0 where
  -- messages of clients that there are
  pub any : ReachedBy limits cycle opening (ComesFromClient limits)
      (server_of_life limits opening floor)
  -- messages of clients and pages that there are
  pub in_range : ReachedBy limits cycle opening InputInRange (server_of_life limits opening floor)
  -- messages with all numbers in range, which the server doesn't refuse as exhausted, where the
  -- floor is an incarnation
  pub taken : IsNumber floor → ReachedBy limits cycle opening (InputTaken limits)
      (server_of_life limits opening floor)

-- So with each floor but 0: the inputs are a Hello of it from each client.
abbrev pub LivesAreReached : Type 0
LivesAreReached = (limits : Limits) (cycle : DeadlockTest) (opening : Opening) (floor : ℕ)
    → 1 ≤ floor → LifeIsReached limits cycle opening floor

-- the incarnations of each life are a range of their own, of 2^32; the first life has the number 0
abbrev pub floor_of_life : (life : ℕ) → ℕ
floor_of_life life = life * 4294967296

-- While the server admitted nobody of the next range or above, the floor of each later life is
-- a new one. So a number that a start took, and that served nobody, need not be taken again.
abbrev pub RangesGiveFloors : Type 0
RangesGiveFloors = (lives : Lives) (life later : ℕ) → lives.floor ≡ floor_of_life life
    → life < later
    → ((client : ℕ) → client < lives.world.server.clients
    → (lives.world.server.session client).current < floor_of_life (life + 1))
    → IsNewFloor lives (floor_of_life later)

-- Of the lives behind the first, those with a number below 2^30 have a floor that is an
-- incarnation, and those from 2^30 on have one above every incarnation.
pub record FloorsInRange : Type 0 where
  pub within : (life : ℕ) → 1 ≤ life → life < 1073741824 → IsNumber (floor_of_life life)
  pub beyond : (life : ℕ) → 1073741824 ≤ life → max_number < floor_of_life life

-- Which incarnations clients have; to a floor above all of these nobody comes.
pub record IncarnationsInRange (lives : Lives) : Type 0 where
  -- each client's is from 1 to 2^62 - 1
  pub numbers : (client : ℕ) → IsNumber (lives.world.incarnation client)
  -- Above that a floor is allowed, and all that is promised holds. No client is of that life, and
  -- nothing commits in it: what is on disk stands.
  pub nobody : max_number < lives.floor
      → ((client : ℕ) → lives.world.incarnation client < lives.floor)
      × (lives.world.server.commits ≡ [])

-- So at each moment over all lives.
abbrev pub IncarnationsStayInRange : Limits → DeadlockTest → Type 0
IncarnationsStayInRange limits cycle = (opening : Opening) (events : List LivesEvent)
    (lives : Lives) → SoundOpening opening → Reaches limits cycle opening events lives
    → IncarnationsInRange lives

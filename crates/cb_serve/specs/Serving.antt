-- A service from its beginning to its end: rounds, and how it ends.
use Rattle.std.specs.Prelude.{◌≡◌, ◌≢◌, ◌⊎◌, ◌-◌, ◌^◌, ℕ, length, List, [], ◌∷◌, ◌++◌, take, Option}
use Rattle.std.specs.Prelude.{Some, None, IfSome, Result, Ok, Err, IsTrue}
use Rattle.std.specs.List.{AllByRecursion, flat_map}
use Rattle.std.specs.Io.KnownBytes.{Appends, Consumes, IsAtEnd}
use Rattle.sqlite.specs.Held.{Held, state}
use Rattle.sqlite.specs.State.{HasCleanDisk, Survives}
use Rattle.sqlite.specs.Store.{Ghosts}
use Rattle.cb_commit.specs.Batches.{BatchState}
use Rattle.cb_commit.specs.Stores.{StoreState}
use Rattle.cb_page.specs.Bounds.{Bounds}
use Rattle.cb_protocol.specs.Flush.{next_batch}
use Rattle.cb_protocol.specs.LivesWorld.{server_of_life}
use Rattle.cb_protocol.specs.Server.{Server}
use Rattle.cb_server_state.specs.Commits.{batch_of}
use Rattle.cb_server_state.specs.States.{limits_of, opening_of}
use Rattle.cb_shelf.specs.LifeRows.{LifeState}
use Rattle.cb_shelf.specs.Newer.{HoldsNewer}
use Rattle.cb_shelf.specs.Writing.{Fits}
use Rattle.cb_serve.specs.Answering.{LacksNumber, Spells, after_inputs, inputs_in, said_to}
use Rattle.cb_serve.specs.Calls.{IsFinal}
use Rattle.cb_serve.specs.Living.{IsRoundOfLife, MakesRoom, MayMakeRoom, RefusesRoom}
use Rattle.cb_serve.specs.Rounds.{LeavesBatch, Round, SaysDones, Standing, StaysUnwritten}
use Rattle.cb_serve.specs.Rounds.{Writes, WritesOrNot, counted_on}
use Rattle.cb_serve.specs.Streams.{IsNoFrame, IsPart, IsPiece, Piece, bytes_of, count_passed}
use Rattle.cb_serve.specs.declared.fault.RoundFault.{RoundFault}
use Rattle.cb_serve.specs.declared.fault.RoundFault.TheVariants as round
use Rattle.cb_serve.specs.declared.fault.ServeFault.{ServeFault}
use Rattle.cb_serve.specs.declared.fault.ServeFault.TheVariants as fault
use Rattle.cb_serve.specs.declared.serving.Served.{Served}

-- the bytes that rounds read, and those that they put out
abbrev pub read_in : List Round → List ℕ
read_in rounds = flat_map (λ (round : Round). round.read) rounds

abbrev pub put_in : List Round → List ℕ
put_in rounds = flat_map (λ (round : Round). round.answers ++ round.dones) rounds

-- the protocol's server of a life over a store, before any frame
abbrev pub opened : Bounds → StoreState → (floor : ℕ) → Server
opened limits store floor = server_of_life (limits_of limits) (opening_of store) floor

-- on a clean disk the tables hold the store, as long as the connection is open
abbrev pub HoldsStore : {S : Type 0} → Ghosts S → StoreState → Held S → Type 0
HoldsStore g store tables = HasCleanDisk (state g tables) → IsTrue (state g tables).is_open
    → HoldsNewer (state g tables).now store

-- serving that was refused before any round
abbrev pub refused : RoundFault → Served
refused f = record { passed_over = 0; ending = Err (fault.Round f) }

-- The cause of a round that wasn't finished: a read was refused, which gave nothing; or something
-- was read. A call that was refused wasn't interrupted, or as often in a row as 64 bits can count.
abbrev pub HasCause : RoundFault → (read : List ℕ) → Type 0
HasCause (round.Input refusal) read = IsFinal refusal × (read ≡ [])
HasCause (round.Output refusal) read = IsFinal refusal × (read ≢ [])
HasCause _ read = read ≢ []

module _ {S : Type 0} (g : Ghosts S) (limits : Bounds) where
  -- these rounds, one after another; each goes on from less than a whole piece
  abbrev pub AreRounds : List Round → (old new : Standing S) → (old_life new_life : LifeState)
      → Type 0
  AreRounds [] old new old_life new_life = (new ≡ old) × (new_life ≡ old_life)
  AreRounds (round ∷ rounds) old new old_life new_life = IsPart limits old.waiting
      × (between : Standing S) × (life : LifeState)
      × IsRoundOfLife g limits round old between old_life life
      × AreRounds rounds between new life new_life

  -- a round came to no batch, and the tables are as before
  abbrev pub Untouched : Option BatchState → (old tables : Held S) → Type 0
  Untouched batch old tables = (batch ≡ None) × (tables ≡ old)

  -- What the fault of a round that wasn't finished tells. Its batch fits, so none is `Shape`.
  --   Store: its batch wasn't written, so on a clean disk the tables are as before; all of its
  --     answers were put out, and no more.
  --   Exhausted: nothing was put out, and no number is left for the frame that comes next.
  --   Input: no piece was taken, and nothing put out.
  --   Output: a front of its answers was put out, and it came to no batch; or all of them and a
  --     front of its Dones, and its batch is written.
  --   Memory: nothing was put out, and it came to no batch; or all of its answers, and no more, and
  --     its batch, if there is one, is written or not.
  abbrev pub Tells : RoundFault → (put : List ℕ) → List Piece → (rest answers dones : List ℕ)
      → Option BatchState → Server → (old tables : Held S) → Type 0
  Tells round.Shape put pieces rest answers dones batch server old tables = ⊥
  Tells round.Store put pieces rest answers dones batch server old tables =
      (put ≡ answers) × StaysUnwritten g limits batch old tables
  Tells round.Exhausted put pieces rest answers dones batch server old tables =
      (put ≡ []) × Untouched batch old tables × LacksNumber limits server rest
  Tells (round.Input refusal) put pieces rest answers dones batch server old tables =
      (pieces ≡ []) × (put ≡ []) × Untouched batch old tables
  Tells (round.Output refusal) put pieces rest answers dones batch server old tables =
      ((n : ℕ) × (put ≡ take n answers) × Untouched batch old tables)
      ⊎ ((n : ℕ) × (put ≡ answers ++ take n dones) × SaysDones limits server batch dones
      × Writes g limits batch old tables)
  Tells round.Memory put pieces rest answers dones batch server old tables =
      ((put ≡ []) × Untouched batch old tables) ⊎ (put ≡ answers)

  -- A round that wasn't finished: what it read begins with these pieces, and what it put out is
  -- said to them; its batch, if it came to one, is the next of the server that took them, and fits;
  -- and its fault tells how far it came.
  pub record IsStopped (f : RoundFault) (read put : List ℕ) (passed : ℕ) (old : Standing S)
      (tables : Held S) : Type 0 where
    pub begins : IsPart limits old.waiting
    pub pieces : List Piece
    pub rest : List ℕ
    pub batch : Option BatchState
    pub answers : List ℕ
    pub dones : List ℕ
    pub are : AllByRecursion (IsPiece limits) pieces
    pub cut : old.waiting ++ read ≡ flat_map bytes_of pieces ++ rest
    pub counted : passed ≡ counted_on old.passed (count_passed pieces)
    pub says : Spells limits (said_to old.server (inputs_in pieces)) answers
    pub next : IfSome batch (λ b.
        next_batch (after_inputs old.server (inputs_in pieces)) ≡ Some (batch_of b))
    pub fits : IfSome batch (Fits limits)
    pub written : WritesOrNot g limits batch old.tables tables
    pub crash : LeavesBatch g limits batch old.tables tables
    pub told : Tells f put pieces rest answers dones batch
        (after_inputs old.server (inputs_in pieces)) old.tables tables

  -- A round that took these pieces, and found no room for whom the server knew then: nothing was
  -- put out.
  pub record LacksRoom (f : RoundFault) (read put : List ℕ) (passed : ℕ) (old : Standing S)
      (life : LifeState) (tables : Held S) : Type 0 where
    pub begins : IsPart limits old.waiting
    pub pieces : List Piece
    pub rest : List ℕ
    pub are : AllByRecursion (IsPiece limits) pieces
    pub cut : old.waiting ++ read ≡ flat_map bytes_of pieces ++ rest
    pub counted : passed ≡ counted_on old.passed (count_passed pieces)
    pub unsaid : put ≡ []
    pub told : RefusesRoom g f old.tables tables
    pub crash : Survives (state g old.tables) (state g tables) (MayMakeRoom g life old.tables)

  -- a round of a life that wasn't finished: it found no room, or it was stopped as any over the
  -- tables that it left with room
  abbrev pub StopsInLife : RoundFault → (read put : List ℕ) → (passed : ℕ) → Standing S
      → LifeState → (tables : Held S) → Type 0
  StopsInLife f read put passed old life tables = ((mid : Held S) × (new_life : LifeState)
      × MakesRoom g life new_life old.tables mid
      × IsStopped f read put passed (record old { tables = mid }) tables)
      ⊎ LacksRoom f read put passed old life tables

  -- behind the last round nothing was read, put out or passed over, and the tables stayed
  abbrev pub EndsQuietly : (read put : List ℕ) → (passed : ℕ) → Standing S → Held S → Type 0
  EndsQuietly read put passed last tables =
      (read ≡ []) × (put ≡ []) × (passed ≡ last.passed) × (tables ≡ last.tables)

  -- how it ends behind so many rounds: with the input; with an input that goes on wrongly, or ends
  -- within a frame; once 64 bits can't count more rounds; or within a round, for its cause
  abbrev pub Ends : {E : Type 0} → Result E ServeFault → (rounds : ℕ) → (read put : List ℕ)
      → (passed : ℕ) → (new_in : Option (List ℕ)) → Standing S → LifeState → Held S → Type 0
  Ends (Ok _) rounds read put passed new_in last life tables =
      (last.waiting ≡ []) × IsAtEnd new_in × EndsQuietly read put passed last tables
  Ends (Err fault.NoFrame) rounds read put passed new_in last life tables =
      IsNoFrame limits last.waiting × EndsQuietly read put passed last tables
  Ends (Err fault.Cut) rounds read put passed new_in last life tables = IsPart limits last.waiting
      × (last.waiting ≢ []) × IsAtEnd new_in × EndsQuietly read put passed last tables
  Ends (Err fault.Endless) rounds read put passed new_in last life tables =
      (rounds ≡ 2 ^ 64 - 1) × EndsQuietly read put passed last tables
  Ends (Err (fault.Round f)) rounds read put passed new_in last life tables =
      HasCause f read × StopsInLife f read put passed last life tables

  -- Rounds from there on, how they end, and how many pieces were passed over in all.
  pub record Serves {E : Type 0} (ending : Result E ServeFault) (passed : ℕ) (old : Standing S)
      (life : LifeState) (tables : Held S) (old_in new_in old_out new_out : Option (List ℕ))
      : Type 0 where
    pub rounds : List Round
    pub last : Standing S
    pub last_life : LifeState
    pub are : AreRounds rounds old last life last_life
    pub read : List ℕ
    pub reads : Consumes old_in new_in (read_in rounds ++ read)
    pub put : List ℕ
    pub puts : Appends old_out new_out (put_in rounds ++ put)
    pub ends : Ends ending (length rounds) read put passed new_in last last_life tables

  -- Rounds over a store that the tables hold: the first of them begins with the server of a life
  -- over it, and with these tables.
  pub record ServesStore (store : StoreState) (life : LifeState) (served : Served)
      (old new : Held S) (old_in new_in old_out new_out : Option (List ℕ)) : Type 0 where
    pub holds : HoldsStore g store old
    pub serves : Serves served.ending served.passed_over
        (record { server = opened limits store life.floor; waiting = []; passed = 0; tables = old })
        life new
        old_in new_in old_out new_out

  -- It was refused before any round: memory was refused for a server, or for what is read. Nothing
  -- was read or put out, and the tables are as before, and hold the store.
  pub record LacksMemory (store : StoreState) (served : Served)
      (old new : Held S) (old_in new_in old_out new_out : Option (List ℕ)) : Type 0 where
    pub told : served ≡ refused round.Memory
    pub tables : new ≡ old
    pub holds : HoldsStore g store new
    pub unread : new_in ≡ old_in
    pub unsaid : new_out ≡ old_out

  -- a service over a store that the tables hold: rounds, or no memory to begin with
  abbrev pub IsServed : StoreState → LifeState → Served → (old new : Held S)
      → (old_in new_in old_out new_out : Option (List ℕ)) → Type 0
  IsServed store life served old new old_in new_in old_out new_out =
      ServesStore store life served old new old_in new_in old_out new_out
      ⊎ LacksMemory store served old new old_in new_in old_out new_out

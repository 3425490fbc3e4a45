-- One round of a service: what it reads, says, writes to the tables and says then.
use Rattle.std.specs.Prelude.{◌≡◌, ◌≢◌, ℕ, zero, ◌+◌, ◌-◌, ◌^◌, min, List, [], ◌∷◌, ◌++◌}
use Rattle.std.specs.Prelude.{Option, Some, None, IfSome, option_map}
use Rattle.std.specs.List.{AllByRecursion, flat_map}
use Rattle.sqlite.specs.Held.{Held, state}
use Rattle.sqlite.specs.State.{HasCleanDisk, Survives}
use Rattle.sqlite.specs.Store.{Ghosts}
use Rattle.cb_commit.specs.Batches.{BatchState}
use Rattle.cb_page.specs.Bounds.{Bounds}
use Rattle.cb_protocol.specs.AnyMessages.{ReachesDisk}
use Rattle.cb_protocol.specs.Flush.{next_batch}
use Rattle.cb_protocol.specs.Server.{Server}
use Rattle.cb_server_state.specs.Commits.{batch_of}
use Rattle.cb_shelf.specs.Flushing.{WritesOne, WritesOrStays}
use Rattle.cb_shelf.specs.Inside.{IsSame}
use Rattle.cb_shelf.specs.Writing.{Wrote}
use Rattle.cb_serve.specs.Answering.{Spells, after_inputs, inputs_in, said_to}
use Rattle.cb_serve.specs.Streams.{IsPiece, IsRest, Piece, bytes_of, count_passed}

-- The bytes that a round read, the pieces that they completed, the bytes that it put out for them,
-- the batch that it wrote, if there was one, and the bytes of the Dones.
pub record Round : Type 0 where
  pub read : List ℕ
  pub pieces : List Piece
  pub answers : List ℕ
  pub batch : Option BatchState
  pub dones : List ℕ

-- Where a service stands between two rounds: the protocol's server, the bytes that came and aren't
-- taken, how many pieces were passed over, and the tables.
pub record Standing (S : Type 0) : Type 0 where
  pub server : Server
  pub waiting : List ℕ
  pub passed : ℕ
  pub tables : Held S

-- a count goes on, up to what 64 bits can count
abbrev pub counted_on : ℕ → ℕ → ℕ
counted_on count zero = count
counted_on count more = min (count + more) (2 ^ 64 - 1)

-- the commits on disk: all, or those up to a batch's
abbrev pub reached : Server → Option BatchState → Server
reached server None = server
reached server (Some batch) = after_inputs server (ReachesDisk batch.number ∷ [])

-- what is said once the batch is on disk
abbrev pub SaysDones : Bounds → Server → Option BatchState → List ℕ → Type 0
SaysDones limits server None bytes = bytes ≡ []
SaysDones limits server (Some batch) bytes =
    Spells limits (said_to server (ReachesDisk batch.number ∷ [])) bytes

module _ {S : Type 0} (g : Ghosts S) (limits : Bounds) where
  -- the batch, if there is one, was written and committed
  abbrev pub Writes : Option BatchState → (old new : Held S) → Type 0
  Writes None old new = new ≡ old
  Writes (Some batch) old new = WritesOne g limits batch old new

  -- it was, or the tables are as before
  abbrev pub WritesOrNot : Option BatchState → (old new : Held S) → Type 0
  WritesOrNot None old new = new ≡ old
  WritesOrNot (Some batch) old new = WritesOrStays g limits batch old new

  -- there is a batch, and it wasn't written: on a clean disk the tables are as before
  abbrev pub StaysUnwritten : Option BatchState → (old new : Held S) → Type 0
  StaysUnwritten None old new = ⊥
  StaysUnwritten (Some batch) old new =
      HasCleanDisk (state g new) → IsSame (state g old) (state g new)

  -- what a crash leaves: what it left before, or the tables with the batch (where there
  -- is no batch it says nothing, since then `written` says that the tables are the same)
  abbrev pub LeavesBatch : Option BatchState → (old new : Held S) → Type 0
  LeavesBatch batch old new = Survives (state g old) (state g new) (λ trees.
      IfSome batch (λ b. Wrote g b old trees))

  -- A round: something is read; the bytes are cut into pieces and a rest that is no whole one; the
  -- protocol's server is called with the pieces; all that is committed is written; and the commits
  -- are on disk when the Dones are said.
  pub record IsRound (round : Round) (old new : Standing S) : Type 0 where
    pub some : round.read ≢ []
    pub are : AllByRecursion (IsPiece limits) round.pieces
    pub cut : old.waiting ++ round.read ≡ flat_map bytes_of round.pieces ++ new.waiting
    pub rest : IsRest limits new.waiting
    pub passed : new.passed ≡ counted_on old.passed (count_passed round.pieces)
    pub answers : Spells limits (said_to old.server (inputs_in round.pieces)) round.answers
    pub batch : next_batch (after_inputs old.server (inputs_in round.pieces))
        ≡ option_map batch_of round.batch
    pub written : Writes round.batch old.tables new.tables
    pub crash : LeavesBatch round.batch old.tables new.tables
    pub dones : SaysDones limits (after_inputs old.server (inputs_in round.pieces)) round.batch
        round.dones
    pub server : new.server ≡ reached (after_inputs old.server (inputs_in round.pieces)) round.batch
    pub all_on_disk : next_batch new.server ≡ None

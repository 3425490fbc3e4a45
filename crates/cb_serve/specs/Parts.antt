-- The parts of a round.
use Rattle.std.specs.Prelude.{◌≡◌, ◌≢◌, ◌⊎◌, ℕ, List, [], ◌++◌, take, drop, Option, None}
use Rattle.std.specs.Prelude.{Some, IfSome, option_map, true, false}
use Rattle.std.specs.Io.KnownBytes.{Appends, Consumes, IsAtEnd}
use Rattle.std.specs.List.{AllByRecursion, flat_map}
use Rattle.sqlite.specs.Held.{Held, state}
use Rattle.sqlite.specs.State.{HasCleanDisk, Survives}
use Rattle.sqlite.specs.Store.{Ghosts}
use Rattle.cb_commit.specs.Batches.{BatchState}
use Rattle.cb_page.specs.Bounds.{Bounds}
use Rattle.cb_frame.specs.Grammar.{Fits as FrameFits}
use Rattle.cb_frame.specs.declared.frame.Frame.{Frame}
use Rattle.cb_outbox.specs.Messages.{messages_of}
use Rattle.cb_protocol.specs.AnyMessages.{ReachesDisk}
use Rattle.cb_protocol.specs.Flush.{next_batch}
use Rattle.cb_protocol.specs.Server.{Server}
use Rattle.cb_server.specs.ServerValue.{ServerValue, forgot, server_of}
use Rattle.cb_server.specs.Taking.{Does}
use Rattle.cb_server_state.specs.Commits.{batch_of}
use Rattle.cb_shelf.specs.LifeRows.{LifeState}
use Rattle.cb_shelf.specs.Inside.{IsSame}
use Rattle.cb_shelf.specs.Writing.{Fits}
use Rattle.cb_serve.specs.Answering.{LacksNumber, Spells, TakesPieces, after_inputs, inputs_in}
use Rattle.cb_serve.specs.Answering.{said_to}
use Rattle.cb_serve.specs.Calls.{IsFinal}
use Rattle.cb_serve.specs.Living.{IsRoundOfLife, MakesRoom, MayMakeRoom, RefusesRoom}
use Rattle.cb_serve.specs.Rounds.{LeavesBatch, Round, SaysDones, Standing, Writes}
use Rattle.cb_serve.specs.Rounds.{StaysUnwritten, WritesOrNot, counted_on, reached}
use Rattle.cb_serve.specs.Serving.{HasCause, StopsInLife}
use Rattle.cb_serve.specs.Streams.{IsNoFrame, IsPart, IsPiece, Piece, bytes_of, count_passed}
use Rattle.cb_serve.specs.declared.fault.RoundFault.{RoundFault}
use Rattle.cb_serve.specs.declared.fault.RoundFault.TheVariants as round
use Rattle.cb_serve.specs.declared.round.Buffers.{Buffers}
use Rattle.cb_serve.specs.declared.round.RoundEnd.{RoundEnd}
use Rattle.cb_serve.specs.declared.round.RoundEnd.TheVariants as end
use Rattle.cb_serve.specs.declared.taking.Taken.{Taken}

-- All whole pieces of what came are taken, and what is said to them is put out.
pub record Answered (old : ServerValue) (buffers after : Buffers) (taken : Taken)
    (new : ServerValue)
    (old_out new_out : Option (List ℕ)) : Type 0 where
  pub pieces : List Piece
  pub answers : List ℕ
  pub takes : TakesPieces old buffers.pending.items pieces taken.used answers new
  pub rest : after.pending.items ≡ drop taken.used buffers.pending.items
  pub part : taken.ends ≡ false → IsPart old.limits after.pending.items
  pub no_frame : taken.ends ≡ true → IsNoFrame old.limits after.pending.items
  pub passed : after.passed_over ≡ counted_on buffers.passed_over (count_passed pieces)
  pub puts : Appends old_out new_out answers

-- why nothing was taken of what was read: the read was refused, and gave nothing; or there was no
-- memory for what it gave
abbrev pub StopsReading : RoundFault → (read : List ℕ) → Type 0
StopsReading (round.Input refusal) read = IsFinal refusal × (read ≡ [])
StopsReading round.Memory read = read ≢ []
StopsReading _ read = ⊥

-- why a round stops that has read something: it reads no more, and a write isn't made again
abbrev pub StopsBehind : RoundFault → Type 0
StopsBehind (round.Input refusal) = ⊥
StopsBehind (round.Output refusal) = IsFinal refusal
StopsBehind _ = Unit {0}

-- What was put out of the answers to pieces, by why no more was: none, where no number is left for
-- what comes next, or memory was refused; or a front of them, where the output was.
abbrev pub PutsAnswers : RoundFault → Bounds → (put answers : List ℕ) → Server → (rest : List ℕ)
    → Type 0
PutsAnswers round.Exhausted limits put answers server rest =
    (put ≡ []) × LacksNumber limits server rest
PutsAnswers round.Memory limits put answers server rest = put ≡ []
PutsAnswers (round.Output e) limits put answers server rest = (n : ℕ) × (put ≡ take n answers)
PutsAnswers _ limits put answers server rest = ⊥

-- What waits begins with some pieces, and of what is said to them this was put out, and no more.
pub record StopsAnswering (fault : RoundFault) (old : ServerValue) (buffers after : Buffers)
    (old_out new_out : Option (List ℕ)) : Type 0 where
  pub pieces : List Piece
  pub rest : List ℕ
  pub answers : List ℕ
  pub are : AllByRecursion (IsPiece old.limits) pieces
  pub cut : buffers.pending.items ≡ flat_map bytes_of pieces ++ rest
  pub passed : after.passed_over ≡ counted_on buffers.passed_over (count_passed pieces)
  pub says : Spells old.limits (said_to (server_of old) (inputs_in pieces)) answers
  pub put : List ℕ
  pub puts : Appends old_out new_out put
  pub told : PutsAnswers fault old.limits put answers
      (after_inputs (server_of old) (inputs_in pieces)) rest

-- The commits up to a number are on disk, which is said by these frames; then they are forgotten.
pub record ReportsWritten (old : ServerValue) (number : ℕ) (dones : List Frame)
    (new : ServerValue) : Type 0 where
  pub reported : ServerValue
  pub does : Does old (ReachesDisk number) (messages_of dones) reported
  pub fit : AllByRecursion (FrameFits old.limits) dones
  pub forgets : new ≡ forgot reported number

module _ {S : Type 0} (g : Ghosts S) where
  -- What is committed is written, in one batch; then it is on disk, and the Dones are put out.
  pub record Commits (old : ServerValue) (old_tables new_tables : Held S) (new : ServerValue)
      (old_out new_out : Option (List ℕ)) : Type 0 where
    pub batch : Option BatchState
    pub dones : List ℕ
    pub next : next_batch (server_of old) ≡ option_map batch_of batch
    pub written : Writes g old.limits batch old_tables new_tables
    pub says : SaysDones old.limits (server_of old) batch dones
    pub becomes : server_of new ≡ reached (server_of old) batch
    pub all_on_disk : next_batch (server_of new) ≡ None
    pub limits : new.limits ≡ old.limits
    pub crash : LeavesBatch g old.limits batch old_tables new_tables
    pub puts : Appends old_out new_out dones

  -- No room was found for whom the server knew once it had taken these pieces; nothing was put out.
  pub record FindsNoRoom (fault : RoundFault) (old : ServerValue) (buffers after : Buffers)
      (life : LifeState) (old_tables new_tables : Held S) (old_out new_out : Option (List ℕ))
      : Type 0 where
    pub pieces : List Piece
    pub rest : List ℕ
    pub are : AllByRecursion (IsPiece old.limits) pieces
    pub cut : buffers.pending.items ≡ flat_map bytes_of pieces ++ rest
    pub passed : after.passed_over ≡ counted_on buffers.passed_over (count_passed pieces)
    pub unsaid : new_out ≡ old_out
    pub told : RefusesRoom g fault old_tables new_tables
    pub crash : Survives (state g old_tables) (state g new_tables) (MayMakeRoom g life old_tables)

  -- it wasn't answered, or not whole: with room, or for want of it
  abbrev pub StopsWithin : RoundFault → ServerValue → (buffers after : Buffers) → LifeState
      → (old_tables new_tables : Held S) → (old_out new_out : Option (List ℕ)) → Type 0
  StopsWithin fault old buffers after life old_tables new_tables old_out new_out =
      ((new_life : LifeState) × MakesRoom g life new_life old_tables new_tables
      × StopsAnswering fault old buffers after old_out new_out)
      ⊎ FindsNoRoom fault old buffers after life old_tables new_tables old_out new_out

  -- a batch that fits was refused, by the database or for want of memory: on a clean disk the
  -- tables are as before
  abbrev pub RefusesBatch : RoundFault → (old new : Held S) → Type 0
  RefusesBatch round.Store old new =
      HasCleanDisk (state g new) → IsSame (state g old) (state g new)
  RefusesBatch round.Memory old new =
      HasCleanDisk (state g new) → IsSame (state g old) (state g new)
  RefusesBatch _ old new = ⊥

  -- What was put out of the Dones of a batch, by why no more was: none, where the database refused
  -- the batch, or memory was; or a front of them, where the output was, and the batch is written.
  abbrev pub PutsDones : RoundFault → Bounds → (put dones : List ℕ) → Option BatchState → Server
      → (old new : Held S) → Type 0
  PutsDones round.Store limits put dones batch server old new =
      (put ≡ []) × StaysUnwritten g limits batch old new
  PutsDones round.Memory limits put dones batch server old new = put ≡ []
  PutsDones (round.Output e) limits put dones batch server old new = (n : ℕ) × (put ≡ take n dones)
      × SaysDones limits server batch dones × Writes g limits batch old new
  PutsDones _ limits put dones batch server old new = ⊥

  -- The next batch wasn't written, or its Dones weren't put out.
  pub record StopsCommit (fault : RoundFault) (old : ServerValue) (old_tables new_tables : Held S)
      (old_out new_out : Option (List ℕ)) : Type 0 where
    pub batch : Option BatchState
    pub dones : List ℕ
    pub put : List ℕ
    pub next : IfSome batch (λ b. next_batch (server_of old) ≡ Some (batch_of b))
    pub fits : IfSome batch (Fits old.limits)
    pub written : WritesOrNot g old.limits batch old_tables new_tables
    pub crash : LeavesBatch g old.limits batch old_tables new_tables
    pub puts : Appends old_out new_out put
    pub told : PutsDones fault old.limits put dones batch (server_of old) old_tables new_tables

  -- where a service with this server, this buffers and these tables stands
  abbrev pub standing : ServerValue → Buffers → Held S → Standing S
  standing server buffers tables = record {
    server = server_of server;
    waiting = buffers.pending.items;
    passed = buffers.passed_over;
    tables = tables;
  }

  -- A whole round was done, and puts these bytes out.
  pub record DoesRound (limits : Bounds) (old new : Standing S) (old_life new_life : LifeState)
      (old_in new_in old_out new_out : Option (List ℕ)) : Type 0 where
    pub round : Round
    pub is : IsRoundOfLife g limits round old new old_life new_life
    pub reads : Consumes old_in new_in round.read
    pub puts : Appends old_out new_out (round.answers ++ round.dones)

  -- how a round ends: the input has ended, and nothing was done; or it was done, and the input goes
  -- on, rightly or not
  abbrev pub EndsRound : Bounds → RoundEnd → (old new : Standing S)
      → (old_life new_life : LifeState) → (old_in new_in old_out new_out : Option (List ℕ)) → Type 0
  EndsRound limits end.Ended old new old_life new_life old_in new_in old_out new_out =
      (new ≡ old) × Consumes old_in new_in [] × IsAtEnd new_in × (new_out ≡ old_out)
      × (new_life ≡ old_life)
  EndsRound limits end.GoesOn old new old_life new_life old_in new_in old_out new_out =
      DoesRound limits old new old_life new_life old_in new_in old_out new_out
      × IsPart limits new.waiting
  EndsRound limits end.NoFrame old new old_life new_life old_in new_in old_out new_out =
      DoesRound limits old new old_life new_life old_in new_in old_out new_out
      × IsNoFrame limits new.waiting

  -- A round was begun and not finished, behind less than a whole piece.
  pub record StopsRound (limits : Bounds) (fault : RoundFault) (old : Standing S)
      (life : LifeState) (passed : ℕ) (tables : Held S)
      (old_in new_in old_out new_out : Option (List ℕ)) : Type 0 where
    pub read : List ℕ
    pub reads : Consumes old_in new_in read
    pub put : List ℕ
    pub puts : Appends old_out new_out put
    pub cause : HasCause fault read
    pub stopped : IsPart limits old.waiting
        → StopsInLife g limits fault read put passed old life tables

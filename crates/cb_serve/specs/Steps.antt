-- What is done with the first piece of a stream's bytes.
use Rattle.std.specs.Prelude.{◌≡◌, ℕ, ◌<◌, List, [], ◌∷◌, ◌++◌, drop, true, false}
use Rattle.cb_frame.specs.declared.frame.Frame.{Frame}
use Rattle.cb_server.specs.ServerValue.{ServerValue, server_of}
use Rattle.cb_server.specs.Taking.{lacks_number_for}
use Rattle.cb_serve.specs.Answering.{LacksNumber, TakesPieces}
use Rattle.cb_serve.specs.Rounds.{counted_on}
use Rattle.cb_serve.specs.Streams.{IsNoFrame, IsPart, Piece, count_passed}
use Rattle.cb_serve.specs.declared.fault.RoundFault.{RoundFault}
use Rattle.cb_serve.specs.declared.fault.RoundFault.TheVariants as round
use Rattle.cb_serve.specs.declared.taking.Step.{Step}
use Rattle.cb_serve.specs.declared.taking.Step.TheVariants as step
use Rattle.cb_serve.specs.declared.taking.Taken.{Taken}

-- what became of the first piece of the bytes, if that is whole: it was taken, and `said` is what
-- is said to it
abbrev pub TakesFront : ServerValue → List ℕ → Step → (said : List ℕ) → ServerValue → Type 0
TakesFront old bytes (step.Taken used count) said new = (0 < used) × (piece : Piece)
    × TakesPieces old bytes (piece ∷ []) used said new × (count ≡ count_passed (piece ∷ []))
TakesFront old bytes step.Part said new = IsPart old.limits bytes × (said ≡ []) × (new ≡ old)
TakesFront old bytes step.NoFrame said new = IsNoFrame old.limits bytes × (said ≡ []) × (new ≡ old)

-- All whole pieces of the bytes are taken, what is said to them is appended, and those that are
-- passed over are counted.
pub record TakesAll (old : ServerValue) (bytes said_before : List ℕ) (passed_before : ℕ)
    (taken : Taken) (said_after : List ℕ) (passed_after : ℕ) (new : ServerValue) : Type 0 where
  pub pieces : List Piece
  pub more : List ℕ
  pub said : said_after ≡ said_before ++ more
  pub takes : TakesPieces old bytes pieces taken.used more new
  pub count : passed_after ≡ counted_on passed_before (count_passed pieces)
  pub part : taken.ends ≡ false → IsPart old.limits (drop taken.used bytes)
  pub no_frame : taken.ends ≡ true → IsNoFrame old.limits (drop taken.used bytes)

-- why a frame wasn't taken: no number is left for it, or memory was refused
abbrev pub RefusesFrame : ServerValue → Frame → RoundFault → Type 0
RefusesFrame old frame round.Exhausted = lacks_number_for old frame ≡ true
RefusesFrame old frame round.Memory = Unit {0}
RefusesFrame old frame _ = ⊥

-- why the first piece of the bytes wasn't taken: no number is left for its frame, or memory was
-- refused
abbrev pub RefusesFront : ServerValue → List ℕ → RoundFault → Type 0
RefusesFront old bytes round.Exhausted = LacksNumber old.limits (server_of old) bytes
RefusesFront old bytes round.Memory = Unit {0}
RefusesFront old bytes _ = ⊥

-- Some of the first pieces of the bytes were taken, and the next one wasn't.
pub record StopsTaking (old : ServerValue) (bytes : List ℕ) (passed_before passed_after : ℕ)
    (fault : RoundFault) : Type 0 where
  pub pieces : List Piece
  pub used : ℕ
  pub said : List ℕ
  pub mid : ServerValue
  pub takes : TakesPieces old bytes pieces used said mid
  pub count : passed_after ≡ counted_on passed_before (count_passed pieces)
  pub refuses : RefusesFront mid (drop used bytes) fault

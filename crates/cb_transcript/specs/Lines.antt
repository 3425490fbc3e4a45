-- Which texts are read line by line, the events that they mean, and the fault of any other text.
-- This project's rules.
use Rattle.std.specs.Prelude.{
  ◌≡◌,
  ℕ,
  ◌+◌,
  ◌<◌,
  ◌≤◌,
  Bool,
  List,
  [],
  length,
  take,
  Option,
  Some,
  None,
  IsSome,
  slice_index_or,
}
use Rattle.std.specs.List.{filter_map}
use Rattle.cb_page.specs.Faults.{first_fault}
use Rattle.cb_transcript.specs.Pieces.{lines_of}
use Rattle.cb_transcript.specs.declared.text.ScheduleFault.{ScheduleFault}
use Rattle.cb_transcript.specs.declared.text.ScheduleFault.TheVariants as fault

-- What the lines of a text may say.
pub record Grammar (E : Type 0) : Type 0 where
  -- the faults of a line under its number, behind so many events of earlier lines, each behind the
  -- test of its cause, lowest first
  pub causes : (number earlier : ℕ) → List ℕ → List (Bool × ScheduleFault)
  pub event : List ℕ → Option E  -- the event that a line means; none where it is skipped

-- the events of lines, in order
abbrev pub events_of : {E : Type 0} → Grammar E → List (List ℕ) → List E
events_of grammar lines = filter_map grammar.event lines

-- the lowest fault of the line of this index; lines are numbered from 1
unfoldable pub fault_at : {E : Type 0} → Grammar E → List (List ℕ) → ℕ → Option ScheduleFault
fault_at grammar lines i =
    first_fault (grammar.causes (i + 1) (length (events_of grammar (take i lines)))
    (slice_index_or lines i []))

-- The text means these events: no line has a fault.
pub record IsText {E : Type 0} (grammar : Grammar E) (text : List ℕ) (events : List E)
    : Type 0 where
  pub faultless : (i : ℕ) → i < length (lines_of text) → fault_at grammar (lines_of text) i ≡ None
  pub meaning : events ≡ events_of grammar (lines_of text)

-- The first faulty line has this lowest fault.
pub record HasFault {E : Type 0} (grammar : Grammar E) (text : List ℕ) (fault : ScheduleFault)
    : Type 0 where
  pub line : ℕ
  pub is_line : line < length (lines_of text)
  pub faultless : (i : ℕ) → i < line → fault_at grammar (lines_of text) i ≡ None
  pub lowest : fault_at grammar (lines_of text) line ≡ Some fault

-- There is an event, and no fault up to it.
pub record HasEvent {E : Type 0} (grammar : Grammar E) (text : List ℕ) : Type 0 where
  pub line : ℕ
  pub is_line : line < length (lines_of text)
  pub faultless : (i : ℕ) → i ≤ line → fault_at grammar (lines_of text) i ≡ None
  pub event : IsSome (grammar.event (slice_index_or (lines_of text) line []))

-- Why a text was not read: its first faulty line's lowest fault; or memory ran out, at an event.
abbrev pub RefusesText : {E : Type 0} → Grammar E → List ℕ → ScheduleFault → Type 0
RefusesText grammar text fault.Memory = HasEvent grammar text
RefusesText grammar text other = HasFault grammar text other

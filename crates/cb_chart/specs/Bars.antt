-- The bars of a chart: when clients could read copies, and write them.
use Rattle.std.specs.Prelude.{◌≡◌, ◌≤◌, ◌<◌, ◌+◌, ◌==◌, ◌&&◌, ◌↔◌, ℕ, Bool, true, false, not}
use Rattle.std.specs.Prelude.{List, [], ◌++◌, length, slice_index_or, if◌then◌else◌}
use Rattle.std.specs.List.{Contains, list_any}
use Rattle.cb_chart.specs.declared.bars.Bar.{Bar}
use Rattle.cb_chart.specs.declared.bars.ClientCopy.{ClientCopy}

-- both permit to write, or neither does
abbrev pub alike : Bool → Bool → Bool
alike true permitted = permitted
alike false permitted = not permitted

-- both are of one client and page, and as much is permitted
abbrev pub same_copy : ClientCopy → ClientCopy → Bool
same_copy a b = (a.client == b.client) && ((a.page == b.page) && alike a.may_write b.may_write)

-- the bar is of that copy, and the event is the last after which it stands
abbrev pub lasts : (event : ℕ) → ClientCopy → Bar → Bool
lasts event copy bar = (bar.last == event) && same_copy bar.copy copy

-- the bar stands after the event before that one, and its copy is one of these
abbrev pub goes_on : List ClientCopy → (event : ℕ) → Bar → Bool
goes_on copies event bar =
    (bar.last + 1 == event) && list_any (λ copy. same_copy copy bar.copy) copies

-- the bar after that event, where these are the copies
abbrev pub lengthened : List ClientCopy → (event : ℕ) → Bar → Bar
lengthened copies event bar =
    if goes_on copies event bar then record bar { last = event } else bar

-- a bar of that copy stands after the event
abbrev pub StandsAt : List Bar → (event : ℕ) → ClientCopy → Type 0
StandsAt bars event copy = (bar : Bar) × Contains bars bar × (bar.copy ≡ copy)
    × (bar.first ≤ event) × (event ≤ bar.last)

-- Bars stand exactly for the copies after each event: `sights` are these, event by event.
pub record AreBars (sights : List (List ClientCopy)) (bars : List Bar) : Type 0 where
  pub exact : (event : ℕ) (copy : ClientCopy) → event < length sights
      → StandsAt bars event copy ↔ Contains (slice_index_or sights event []) copy
  pub within : (bar : Bar) → Contains bars bar
      → (bar.first ≤ bar.last) × (bar.last < length sights)

-- The bar stands for one of these copies, after that event alone.
pub record IsNew (copies : List ClientCopy) (event : ℕ) (bar : Bar) : Type 0 where
  pub copy : Contains copies bar.copy
  pub first : bar.first ≡ event
  pub last : bar.last ≡ event

-- Bars begin for copies, behind the old ones, so that each copy has one that lasts up to the event.
pub record Begins (old : List Bar) (copies : List ClientCopy) (event : ℕ) (new : List Bar)
    : Type 0 where
  pub added : List Bar
  pub behind : new ≡ old ++ added
  pub are_new : (bar : Bar) → Contains added bar → IsNew copies event bar
  pub each : (copy : ClientCopy) → Contains copies copy
      → (bar : Bar) × Contains new bar × (bar.copy ≡ copy) × (bar.last ≡ event)

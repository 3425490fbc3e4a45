-- 2Q, the full version of the article (Johnson and Shasha, VLDB 1994), on three plain lists, newest
-- first. Where nothing is fixed these are the published cases. That the page leaves A1out before a
-- slot is reclaimed, and that fixed pages are passed over, is this project's rule.
use Rattle.std.specs.Prelude.{ℕ, ◌+◌, Bool, nat_lt, List, [], ◌∷◌, length, take, ◌++◌, ◌≤◌, Option}
use Rattle.std.specs.Prelude.{Some, None, if◌then◌else◌}
use Rattle.std.specs.Option.{option_or, option_map}
use Rattle.cb_page.specs.Flags as flags
use Rattle.cb_twoq.specs.Pages.{has, without, times}
-- what a reclaim takes: a slot that is free, or that of a page of A1in or of Am
pub use Rattle.cb_twoq.specs.declared.slot.Slot.{Slot}
pub use Rattle.cb_twoq.specs.declared.slot.Slot.TheVariants.{Free, OfA1in, OfAm}

-- the settings, the pages in slots (A1in and Am) and the pages remembered (A1out)
pub record TwoQState : Type 0 where
  pub slots : ℕ
  pub kin : ℕ
  pub kout : ℕ
  pub a1in : List ℕ
  pub am : List ℕ
  pub a1out : List ℕ

-- nothing on them
abbrev pub empty : ℕ → ℕ → ℕ → TwoQState
empty slots kin kout =
    record { slots = slots; kin = kin; kout = kout; a1in = []; am = []; a1out = [] }

-- the oldest page of a list that isn't fixed
abbrev pub oldest_unfixed : List Bool → List ℕ → Option ℕ
oldest_unfixed fixed [] = None
oldest_unfixed fixed (newest ∷ older) =
    option_or (oldest_unfixed fixed older) (if flags.has fixed newest then None else Some newest)

-- a free slot; else A1in's oldest unfixed page if A1in is longer than kin; else Am's; else A1in's;
-- else none
abbrev pub reclaim : List Bool → TwoQState → Option Slot
reclaim fixed queues =
    if nat_lt (length queues.a1in + length queues.am) queues.slots then Some Free
    else
    let a1in = option_map OfA1in (oldest_unfixed fixed queues.a1in) in
    let am = option_map OfAm (oldest_unfixed fixed queues.am) in
    option_or (if nat_lt queues.kin (length queues.a1in) then a1in else None)
    (option_or am a1in)

-- the page let go
abbrev pub page_of : Slot → Option ℕ
page_of Free = None
page_of (OfA1in page) = Some page
page_of (OfAm page) = Some page

-- a page let go from A1in goes to the head of A1out, whose tail is dropped beyond kout; one from Am
-- is forgotten
abbrev pub let_go : Slot → TwoQState → TwoQState
let_go Free queues = queues
let_go (OfA1in page) queues = record queues {
  a1in = without page queues.a1in;
  a1out = take queues.kout (page ∷ queues.a1out);
}
let_go (OfAm page) queues = record queues { am = without page queues.am }

-- a page is taken off A1out, a slot is made, and it goes to the head of Am if it was on A1out, else
-- of A1in
abbrev pub enter : ℕ → Slot → TwoQState → TwoQState
enter page slot queues =
    let rest = let_go slot (record queues { a1out = without page queues.a1out }) in
    if has queues.a1out page then record rest { am = page ∷ rest.am }
    else record rest { a1in = page ∷ rest.a1in }

-- a page of Am moves to its head
abbrev pub renew : ℕ → TwoQState → TwoQState
renew page queues =
    if has queues.am page then record queues { am = page ∷ without page queues.am } else queues

-- A reference: the page let go, if any, and the queues after it; none where all slots are taken by
-- fixed pages. A page on Am moves to its head, for one on A1in nothing changes, and any other
-- enters in the slot reclaimed.
abbrev pub reference : ℕ → List Bool → TwoQState → Option (Option ℕ × TwoQState)
reference page fixed queues =
    if has queues.am page then Some (None, renew page queues)
    else if has queues.a1in page then Some (None, queues)
    else option_map (λ slot. (page_of slot, enter page slot queues)) (reclaim fixed queues)

-- a page leaves A1in or Am and isn't put on A1out
abbrev pub forget : ℕ → TwoQState → TwoQState
forget page queues =
    record queues { a1in = without page queues.a1in; am = without page queues.am }

-- the pages in slots
abbrev pub members_of : TwoQState → List ℕ
members_of queues = queues.a1in ++ queues.am

-- no page is on the queues twice, the pages in slots have their slots, and not too many are
-- remembered
pub record AreQueues (queues : TwoQState) : Type 0 where
  pub once : (page : ℕ) →
      times page queues.a1in + times page queues.am + times page queues.a1out ≤ 1
  pub within : length queues.a1in + length queues.am ≤ queues.slots
  pub remembered : length queues.a1out ≤ queues.kout

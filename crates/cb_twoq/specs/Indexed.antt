-- The three lists of 2Q as an `lru` cache and two `indexmap` sets keep them.
use Rattle.std.specs.Prelude.{◌≡◌, ℕ, true, false, List, ◌∷◌, reverse, ⊤, if◌then◌else◌}
use Rattle.std.specs.Map.{keys_of}
use Rattle.indexmap.specs.IndexSet.{IndexSet}
use Rattle.lru.specs.LruCache.{LruCache}
use Rattle.cb_twoq.specs.Pages.{has, without}
use Rattle.cb_twoq.specs.Queues.{TwoQState, Slot, Free, OfA1in, OfAm}
use Rattle.cb_twoq.specs.declared.twoq.queues.IndexedQueues.{IndexedQueues}

-- the pages of a set, which keeps its oldest first, newest first
abbrev pub newest_first : {S : Type 0} → IndexSet ℕ S → List ℕ
newest_first pages = reverse pages.keys

-- the pages of a cache, which keeps its newest first
abbrev pub cached : {V : Type 0} → LruCache ℕ V → List ℕ
cached cache = keys_of cache.entries

-- a page that is on a list moves to its head
abbrev pub renewed : ℕ → List ℕ → List ℕ
renewed page pages = if has pages page then page ∷ without page pages else pages

-- the lists that they keep
abbrev pub queues_of : IndexedQueues → TwoQState
queues_of queues = record {
  slots = queues.slots;
  kin = queues.kin;
  kout = queues.kout;
  a1in = newest_first queues.a1in;
  am = cached queues.am;
  a1out = newest_first queues.a1out;
}

-- a page is put on Am if it was on A1out, which it leaves, else on A1in; nothing is let go yet
abbrev pub place : ℕ → TwoQState → TwoQState
place page queues =
    if has queues.a1out page
    then record queues { am = page ∷ queues.am; a1out = without page queues.a1out }
    else record queues { a1in = page ∷ queues.a1in }

-- the slot's page is on its list
abbrev pub IsSlotOf : Slot → TwoQState → Type 0
IsSlotOf Free queues = ⊤
IsSlotOf (OfA1in page) queues = has queues.a1in page ≡ true
IsSlotOf (OfAm page) queues = has queues.am page ≡ true

-- a page that goes to A1out isn't there
abbrev pub IsOff : Slot → List ℕ → Type 0
IsOff Free a1out = ⊤
IsOff (OfA1in page) a1out = has a1out page ≡ false
IsOff (OfAm page) a1out = ⊤

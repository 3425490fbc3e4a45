-- How many frames the end of a transaction may say of its pages.
use Rattle.std.proofs.Common.{◌≡◌, ◌<◌, ◌≤◌, ◌+◌, ◌-◌, ◌&&◌, ℕ, zero, suc, Bool, true, false, refl, ap, ◌∙◌, arith}
use Rattle.cb_page.specs.Flags.{has}
use Rattle.cb_cache.specs.CacheState.{CacheState}
use Rattle.cb_page.specs.Counting.{bit}
use Rattle.cb_locks.specs.Locks.{LocksState}
use Rattle.cb_cache.specs.Room.{room_below, speaks}

-- pages that aren't locked need no room
room_skip : (gap : ℕ) (v : CacheState) (l : LocksState) (d : Bool) (from : ℕ) → ((k : ℕ) → from ≤ k → k < from + gap → has l.locked k ≡ false) → room_below v l d (from + gap) ≡ room_below v l d from
room_skip zero v l d from none = let e : from + zero ≡ from = omega arith in ap (room_below v l d) e
room_skip (suc gap) v l d from none =
    let e : from + suc gap ≡ suc (from + gap) = omega arith in
    let free : has l.locked (from + gap) ≡ false = none (from + gap) (omega arith) (omega arith) in
    let one : bit (has l.locked (from + gap) && speaks v l d (from + gap)) ≡ 0 = rw free refl in
    let next : room_below v l d (from + suc gap) ≡ room_below v l d (from + gap) + bit (has l.locked (from + gap) && speaks v l d (from + gap)) = ap (room_below v l d) e in
    let rest = room_skip gap v l d from (λ k a lt. none k a (omega (arith, lt))) in
    omega arith

pub room_to : (v : CacheState) (l : LocksState) (d : Bool) (from to : ℕ) → from ≤ to → ((k : ℕ) → from ≤ k → k < to → has l.locked k ≡ false) → room_below v l d to ≡ room_below v l d from
room_to v l d from to le none =
    let gap : to ≡ from + (to - from) = omega arith in
    ap (room_below v l d) gap ∙ room_skip (to - from) v l d from (λ k a lt. none k a (omega (arith, lt, gap)))

-- the count goes on by a page that is locked
pub room_next : (v : CacheState) (l : LocksState) (d : Bool) (from page count more : ℕ) → from ≤ page → has l.locked page ≡ true → ((k : ℕ) → from ≤ k → k < page → has l.locked k ≡ false)
    → count ≡ room_below v l d from → more ≡ bit (speaks v l d page) → count + more ≡ room_below v l d (page + 1)
room_next v l d from page count more le found none counted here =
    let e : page + 1 ≡ suc page = omega arith in
    let skipped = room_to v l d from page le none in
    let one : bit (has l.locked page && speaks v l d page) ≡ bit (speaks v l d page) = rw found refl in
    let next : room_below v l d (page + 1) ≡ room_below v l d page + bit (has l.locked page && speaks v l d page) = ap (room_below v l d) e in
    omega arith

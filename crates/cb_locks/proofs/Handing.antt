-- What is due is handed out page by page.
use Rattle.std.proofs.Common.{◌≡◌, ◌<◌, ◌≤◌, ◌+◌, ◌-◌, ℕ, suc, zero, Bool, true, false, cond, ◌||◌, ◌++◌, length, length-append, add-one, count_by, option_to_list, take, refl, sym, ◌∙◌, ap, arith, Option, Some, None}
use Rattle.std.proofs.lemmas.List.{append-nil}
use Rattle.std.proofs.lemmas.List.Sums.{count_by_more_no, count_by_more_yes, sum_by-take-le}
use Rattle.std.specs.Option.{is_some}
use Rattle.cb_locks.specs.declared.dues.DueDowngrade.{DueDowngrade}
use Rattle.cb_locks.specs.Dues.{called_by, copy_first, is_due, nothing_due}
use Rattle.cb_locks.specs.Locks.{LocksState, callback_by, due_at, owed_at, owed_below}
use Rattle.cb_locks.proofs.Counted.{not_due}

-- of a page of which nothing is due no callback is to be answered
pub owes_none : (locks : LocksState) (page : ℕ) → due_at locks page ≡ nothing_due → owed_at locks page ≡ None
owes_none locks page none = ap (λ due. callback_by locks page (called_by due)) none

-- of one of which something is due one is
pub owes_one : (locks : LocksState) (page : ℕ) → is_due (due_at locks page) ≡ true → length (option_to_list (owed_at locks page)) ≡ 1
owes_one locks page is = by (due_at locks page).callback (due_at locks page).downgrade is
  where
    by : (callback : Option ℕ) (downgrade : Option DueDowngrade) → (is_some callback || is_some downgrade) ≡ true → length (option_to_list (callback_by locks page (copy_first callback downgrade))) ≡ 1
    by (Some grant) downgrade is = refl
    by None (Some downgrade) is = refl
    by None None is = cc

-- pages of which nothing is due add nothing
pub owed_skip : (extra : ℕ) (locks : LocksState) (from : ℕ) → ((k : ℕ) → from ≤ k → k < from + extra → due_at locks k ≡ nothing_due) → owed_below locks (from + extra) ≡ owed_below locks from
owed_skip zero locks from none = let e : from + zero ≡ from = omega arith in ap (owed_below locks) e
owed_skip (suc extra) locks from none =
    let e : from + suc extra ≡ suc (from + extra) = omega arith in
    let last = owes_none locks (from + extra) (none (from + extra) (omega arith) (omega arith)) in
    ap (owed_below locks) e ∙ ap (λ owed. owed_below locks (from + extra) ++ option_to_list owed) last ∙ append-nil (owed_below locks (from + extra)) ∙ owed_skip extra locks from (λ k le lt. none k le (omega (arith, lt)))

-- the next page of which something is due is this one
abbrev pub IsNext : LocksState → (from page : ℕ) → Type 0
IsNext locks from page =
    (from ≤ page) × (page < length locks.dues) × (is_due (due_at locks page) ≡ true) × ((k : ℕ) → from ≤ k → k < page → due_at locks k ≡ nothing_due)

-- its own is the next one
pub owed_step : (locks : LocksState) (from page : ℕ) → IsNext locks from page → owed_below locks (page + 1) ≡ owed_below locks from ++ option_to_list (owed_at locks page)
owed_step locks from page next =
    let le = next.0 in
    let e : page + 1 ≡ suc page = omega arith in
    let gap : page ≡ from + (page - from) = omega arith in
    let skip : owed_below locks page ≡ owed_below locks from = ap (owed_below locks) gap ∙ owed_skip (page - from) locks from (λ k le lt. next.3 k le (omega (arith, lt, gap))) in
    ap (owed_below locks) e ∙ ap (λ owed. owed ++ option_to_list (owed_at locks page)) skip

-- where there is no further one
pub owed_end : (locks : LocksState) (from end : ℕ) → from ≤ end → ((k : ℕ) → from ≤ k → due_at locks k ≡ nothing_due) → owed_below locks from ≡ owed_below locks end
owed_end locks from end le none =
    let gap : end ≡ from + (end - from) = omega arith in
    sym (ap (owed_below locks) gap ∙ owed_skip (end - from) locks from (λ k le lt. none k le))

-- so many are handed out as pages are counted
pub owed_counted : (locks : LocksState) (end : ℕ) → end ≤ length locks.dues → length (owed_below locks end) ≡ count_by is_due (take end locks.dues)
owed_counted locks zero le = refl
owed_counted locks (suc page) le = by (is_due (due_at locks page)) refl (owed_counted locks page (omega (arith, le)))
  where
    within : page < length locks.dues
    within = omega (arith, le)

    by : (b : Bool) → is_due (due_at locks page) ≡ b → length (owed_below locks page) ≡ count_by is_due (take page locks.dues) → length (owed_below locks (suc page)) ≡ count_by is_due (take (suc page) locks.dues)
    by true e before =
        let more = ap (λ n. count_by is_due (take n locks.dues)) (sym (add-one page)) ∙ count_by_more_yes is_due locks.dues page nothing_due within e in
        let one = owes_one locks page e in
        length-append (owed_below locks page) (option_to_list (owed_at locks page)) ∙ omega arith
    by false e before =
        let same = ap (λ n. count_by is_due (take n locks.dues)) (sym (add-one page)) ∙ count_by_more_no is_due locks.dues page nothing_due within e in
        let none = ap (λ o. length (option_to_list o)) (owes_none locks page (not_due _ e)) in
        length-append (owed_below locks page) (option_to_list (owed_at locks page)) ∙ omega arith

-- there is room for one more where there is for all
pub owed_room : (locks : LocksState) (from page : ℕ) → IsNext locks from page → length (owed_below locks from) < count_by is_due locks.dues
owed_room locks from page next =
    let lt = next.1 in
    let step = ap length (owed_step locks from page next) in
    let sum = length-append (owed_below locks from) (option_to_list (owed_at locks page)) in
    let one = owes_one locks page next.2 in
    let counted = owed_counted locks (page + 1) (omega (arith, lt)) in
    let most = sum_by-take-le (λ due. cond (is_due due) 1 0) locks.dues (page + 1) in omega arith

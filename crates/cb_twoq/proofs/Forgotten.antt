-- Taking a page out keeps the law of a chooser, and the queues.
use Rattle.std.proofs.Common.{◌≡◌, ◌≢◌, ◌≤◌, ◌+◌, ◌⊎◌, inl, inr, ℕ, Bool, true, false, List, [], ◌++◌, length, Some, refl, sym, ◌∙◌, ap, arith}
use Rattle.std.proofs.Math.ListN.{length-append}
use Rattle.cb_twoq.specs.Pages.{has, without, times}
use Rattle.cb_twoq.specs.Law.{Forgets}
use Rattle.cb_twoq.specs.Queues.{TwoQState, forget, AreQueues, members_of}
use Rattle.cb_twoq.proofs.PageLists.{without_absent}
use Rattle.cb_twoq.proofs.Counts.{one_self, one_other, times_append, is_there, isnt_there, not_there, same_there, times_without, length_without}
use Rattle.cb_twoq.proofs.Referred.{in_am, in_a1in, in_neither}

-- off a list, a page is there no more often than before, and not at all if it was there once
pub times_off : (g : ℕ) (xs : List ℕ) (p : ℕ) → times p (without g xs) ≤ times p xs
times_off g xs p = by (has xs g) refl
  where
    by : (b : Bool) → has xs g ≡ b → times p (without g xs) ≤ times p xs
    by true h = let w = times_without g xs p h in omega arith
    by false h = let e : times p (without g xs) ≡ times p xs = ap (times p) (without_absent g xs h) in omega arith

pub length_off : (g : ℕ) (xs : List ℕ) → length (without g xs) ≤ length xs
length_off g xs = by (has xs g) refl
  where
    by : (b : Bool) → has xs g ≡ b → length (without g xs) ≤ length xs
    by true h = let w = length_without g xs h in omega arith
    by false h = let e : length (without g xs) ≡ length xs = ap length (without_absent g xs h) in omega arith

-- a page is taken out
module _ (q : TwoQState) (page : ℕ) (queues : AreQueues q) where
  pub forgotten_queues : AreQueues (forget page q)
  forgotten_queues = record {
    once = λ p. let a = times_off page q.a1in p in let b = times_off page q.am p in let k = queues.once p in omega arith;
    within = let a = length_off page q.a1in in let b = length_off page q.am in let k = queues.within in omega arith;
    remembered = queues.remembered;
  }

  pub others_off : (xs : List ℕ) (p : ℕ) → p ≢ page → times p (without page xs) ≡ times p xs
  others_off xs p ne = by (has xs page) refl
    where
      by : (b : Bool) → has xs page ≡ b → times p (without page xs) ≡ times p xs
      by true h = let w = times_without page xs p h in let o = one_other p page ne in omega arith
      by false h = ap (times p) (without_absent page xs h)

  pub own_off : (xs : List ℕ) → times page xs ≤ 1 → times page (without page xs) ≡ 0
  own_off xs le = by (has xs page) refl
    where
      by : (b : Bool) → has xs page ≡ b → times page (without page xs) ≡ 0
      by true h = let w = times_without page xs page h in let o = one_self page in omega arith
      by false h = ap (times page) (without_absent page xs h) ∙ isnt_there xs page h

  forgotten_count : (a : Bool) → has q.a1in page ≡ a → (m : Bool) → has q.am page ≡ m
      → ((has (members_of q) page ≡ true) × (length (members_of (forget page q)) + 1 ≡ length (members_of q))) ⊎ ((has (members_of q) page ≡ false) × (length (members_of (forget page q)) ≡ length (members_of q)))
  forgotten_count true h true k =
      let i = is_there q.a1in page h in let j = is_there q.am page k in let o = queues.once page in absurd (omega arith)
  forgotten_count true h false k =
      let l = length-append q.a1in q.am in let m = length-append (without page q.a1in) (without page q.am) in let v = length_without page q.a1in h in
      let w : length (without page q.am) ≡ length q.am = ap length (without_absent page q.am k) in
      inl (in_a1in [] q page queues h, omega arith)
  forgotten_count false h true k =
      let l = length-append q.a1in q.am in let m = length-append (without page q.a1in) (without page q.am) in let v = length_without page q.am k in
      let w : length (without page q.a1in) ≡ length q.a1in = ap length (without_absent page q.a1in h) in
      inl (in_am [] q page queues k, omega arith)
  forgotten_count false h false k =
      let l = length-append q.a1in q.am in let m = length-append (without page q.a1in) (without page q.am) in
      let v : length (without page q.am) ≡ length q.am = ap length (without_absent page q.am k) in
      let w : length (without page q.a1in) ≡ length q.a1in = ap length (without_absent page q.a1in h) in
      inr (in_neither [] q page queues k h, omega arith)

  pub forgotten : Forgets (members_of q) page (members_of (forget page q))
  forgotten = record {
    out = let e = times_append page (without page q.a1in) (without page q.am) in let o = queues.once page in
        let a = own_off q.a1in (omega arith) in let b = own_off q.am (omega arith) in not_there (without page q.a1in ++ without page q.am) page (omega arith);
    others = λ p other _. let ne : p ≢ page = λ h. other (ap Some (sym h)) in
        let e = times_append p (without page q.a1in) (without page q.am) in let f = times_append p q.a1in q.am in
        let a = others_off q.a1in p ne in let b = others_off q.am p ne in same_there (without page q.a1in ++ without page q.am) (q.a1in ++ q.am) p (omega arith);
    count = forgotten_count (has q.a1in page) refl (has q.am page) refl;
  }

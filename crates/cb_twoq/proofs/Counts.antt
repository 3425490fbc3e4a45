-- How often a page is on a list.
use Rattle.std.proofs.Common.{◌≡◌, ◌≢◌, true≢false, suc, zero, ◌<◌, ◌≤◌, ◌+◌, ℕ, Bool, true, false, nat_eq, nat_lt, List, [], ◌∷◌, ◌++◌, length, take, Option, Some, None, if◌then◌else◌, ◌||◌, refl, sym, ◌∙◌, ap, arith}
use Rattle.std.proofs.lemmas.Grind.{common_steps}
use Rattle.std.specs.Option.{option_or}
use Rattle.cb_page.specs.Flags as flags
use Rattle.cb_twoq.specs.Pages.{has, without, one, times}
use Rattle.cb_twoq.specs.Queues.{oldest_unfixed}

pub one_self : (p : ℕ) → one p p ≡ 1
one_self p = grind (arith, common_steps)

pub one_other : (p x : ℕ) → p ≢ x → one p x ≡ 0
one_other p x h = grind (arith, common_steps)

pub one_at_most : (p x : ℕ) → one p x ≤ 1
one_at_most p x = grind (arith, common_steps)

pub times_cons : (p x : ℕ) (xs : List ℕ) → times p (x ∷ xs) ≡ one p x + times p xs
unfolding times
times_cons p x xs = refl

pub times_none : (p : ℕ) → times p [] ≡ 0
unfolding times
times_none p = refl

pub times_append : (p : ℕ) (xs ys : List ℕ) → times p (xs ++ ys) ≡ times p xs + times p ys
times_append p [] ys = let e = times_none p in omega (arith, e)
times_append p (x ∷ xs) ys =
    let e = times_append p xs ys in let f = times_cons p x (xs ++ ys) in let g = times_cons p x xs in omega (arith, e, f, g)

-- a page is on a list where it is there at least once
pub has_times : (xs : List ℕ) (p : ℕ) → has xs p ≡ nat_lt 0 (times p xs)
has_times [] p = sym (ap (λ n. nat_lt 0 n) (times_none p))
has_times (x ∷ xs) p = by (nat_eq p x) refl (has_times xs p)
  where
    by : (b : Bool) → nat_eq p x ≡ b → has xs p ≡ nat_lt 0 (times p xs) → has (x ∷ xs) p ≡ nat_lt 0 (times p (x ∷ xs))
    by true e rest =
        let n : one p x ≡ 1 = ap (λ b. if b then 1 else 0) e in
        let m : 0 < times p (x ∷ xs) = omega (arith, n, times_cons p x xs) in
        ap (λ b. b || has xs p) e ∙ sym (grind (arith, common_steps))
    by false e rest =
        let n : one p x ≡ 0 = ap (λ b. if b then 1 else 0) e in
        let m : times p (x ∷ xs) ≡ times p xs = omega (arith, n, times_cons p x xs) in
        ap (λ b. b || has xs p) e ∙ rest ∙ sym (ap (λ k. nat_lt 0 k) m)

pub is_there : (xs : List ℕ) (p : ℕ) → has xs p ≡ true → 0 < times p xs
is_there xs p h = let e = has_times xs p in let f : nat_lt 0 (times p xs) ≡ true = sym e ∙ h in grind (arith, common_steps)

pub isnt_there : (xs : List ℕ) (p : ℕ) → has xs p ≡ false → times p xs ≡ 0
isnt_there xs p h = let e = has_times xs p in let f : nat_lt 0 (times p xs) ≡ false = sym e ∙ h in grind (arith, common_steps)

pub there : (xs : List ℕ) (p : ℕ) → 0 < times p xs → has xs p ≡ true
there xs p h = has_times xs p ∙ grind (arith, common_steps)

pub not_there : (xs : List ℕ) (p : ℕ) → times p xs ≡ 0 → has xs p ≡ false
not_there xs p h = has_times xs p ∙ ap (λ n. nat_lt 0 n) h

pub same_there : (xs ys : List ℕ) (p : ℕ) → times p xs ≡ times p ys → has xs p ≡ has ys p
same_there xs ys p e = has_times xs p ∙ ap (λ n. nat_lt 0 n) e ∙ sym (has_times ys p)

-- taken off, it is there once less
pub times_without : (g : ℕ) (xs : List ℕ) (p : ℕ) → has xs g ≡ true → times p (without g xs) + one p g ≡ times p xs
times_without g [] p h = absurd (true≢false (sym h))
times_without g (x ∷ xs) p h = by (nat_eq g x) refl (times_without g xs p)
  where
    by : (b : Bool) → nat_eq g x ≡ b → (has xs g ≡ true → times p (without g xs) + one p g ≡ times p xs)
        → times p (without g (x ∷ xs)) + one p g ≡ times p (x ∷ xs)
    by true e rest =
        let same : g ≡ x = grind (arith, common_steps) in
        let l : without g (x ∷ xs) ≡ xs = ap (λ b. if b then xs else x ∷ without g xs) e in
        let o : one p g ≡ one p x = ap (one p) same in
        let n : times p (without g (x ∷ xs)) ≡ times p xs = ap (times p) l in
        let m = times_cons p x xs in omega arith
    by false e rest =
        let l : without g (x ∷ xs) ≡ x ∷ without g xs = ap (λ b. if b then xs else x ∷ without g xs) e in
        let n : times p (without g (x ∷ xs)) ≡ times p (x ∷ without g xs) = ap (times p) l in
        let m = times_cons p x xs in let k = times_cons p x (without g xs) in
        let r = rest (sym (ap (λ b. b || has xs g) e) ∙ h) in omega arith

pub length_without : (g : ℕ) (xs : List ℕ) → has xs g ≡ true → length (without g xs) + 1 ≡ length xs
length_without g [] h = absurd (true≢false (sym h))
length_without g (x ∷ xs) h = by (nat_eq g x) refl (length_without g xs)
  where
    by : (b : Bool) → nat_eq g x ≡ b → (has xs g ≡ true → length (without g xs) + 1 ≡ length xs)
        → length (without g (x ∷ xs)) + 1 ≡ length (x ∷ xs)
    by true e rest =
        let l : length (without g (x ∷ xs)) ≡ length xs = ap (λ b. length (if b then xs else x ∷ without g xs)) e in omega arith
    by false e rest =
        let l : length (without g (x ∷ xs)) ≡ length (x ∷ without g xs) = ap (λ b. length (if b then xs else x ∷ without g xs)) e in
        let r = rest (sym (ap (λ b. b || has xs g) e) ∙ h) in omega arith

pub times_take : (n : ℕ) (xs : List ℕ) (p : ℕ) → times p (take n xs) ≤ times p xs
times_take zero xs p = let e = times_none p in omega arith
times_take (suc n) [] p = omega arith
times_take (suc n) (x ∷ xs) p = let r = times_take n xs p in let a = times_cons p x xs in let b = times_cons p x (take n xs) in omega arith

pub length_take_at_most : (n : ℕ) (xs : List ℕ) → length (take n xs) ≤ n
length_take_at_most n xs = grind (arith, common_steps)

-- the oldest unfixed page is there and isn't fixed
pub oldest_there : (fixed : List Bool) (xs : List ℕ) (p : ℕ) → oldest_unfixed fixed xs ≡ Some p → (has xs p ≡ true) × (flags.has fixed p ≡ false)
oldest_there fixed [] p h = absurd (cc)
oldest_there fixed (x ∷ xs) p h = by (oldest_unfixed fixed xs) refl (flags.has fixed x) refl (oldest_there fixed xs p)
  where
    by : (o : Option ℕ) → oldest_unfixed fixed xs ≡ o → (b : Bool) → flags.has fixed x ≡ b → (oldest_unfixed fixed xs ≡ Some p → (has xs p ≡ true) × (flags.has fixed p ≡ false)) → (has (x ∷ xs) p ≡ true) × (flags.has fixed p ≡ false)
    by (Some y) e b f rest =
        let same : Some y ≡ Some p = sym (ap (λ o. option_or o (if flags.has fixed x then None else Some x)) e) ∙ h in
        let r = rest (e ∙ same) in
        let i = is_there xs p r.0 in let c = times_cons p x xs in
        (there (x ∷ xs) p (omega arith), r.1)
    by None e true f rest =
        let no : None ≡ Some p = sym (ap (λ o. option_or o (if flags.has fixed x then None else Some x)) e ∙ ap (λ b. if b then None else Some x) f) ∙ h in absurd (cc)
    by None e false f rest =
        let same : Some x ≡ Some p = sym (ap (λ o. option_or o (if flags.has fixed x then None else Some x)) e ∙ ap (λ b. if b then None else Some x) f) ∙ h in
        let eq : x ≡ p = cc in
        let c = times_cons p x xs in
        let o : one p x ≡ 1 = ap (one p) eq ∙ one_self p in
        (there (x ∷ xs) p (omega arith), ap (flags.has fixed) (sym eq) ∙ f)

-- where there is none, all are fixed
pub all_fixed : (fixed : List Bool) (xs : List ℕ) → oldest_unfixed fixed xs ≡ None → (p : ℕ) → has xs p ≡ true → flags.has fixed p ≡ true
all_fixed fixed [] h p t = absurd (true≢false (sym t))
all_fixed fixed (x ∷ xs) h p t = by (oldest_unfixed fixed xs) refl (flags.has fixed x) refl (nat_eq p x) refl (λ e. all_fixed fixed xs e p)
  where
    by : (o : Option ℕ) → oldest_unfixed fixed xs ≡ o → (b : Bool) → flags.has fixed x ≡ b → (c : Bool) → nat_eq p x ≡ c → (oldest_unfixed fixed xs ≡ None → has xs p ≡ true → flags.has fixed p ≡ true) → flags.has fixed p ≡ true
    by (Some y) e b f c g rest =
        let no : Some y ≡ None = sym (ap (λ o. option_or o (if flags.has fixed x then None else Some x)) e) ∙ h in absurd (cc)
    by None e false f c g rest =
        let no : Some x ≡ None = sym (ap (λ o. option_or o (if flags.has fixed x then None else Some x)) e ∙ ap (λ b. if b then None else Some x) f) ∙ h in absurd (cc)
    by None e true f true g rest = let eq : p ≡ x = grind (arith, common_steps) in ap (flags.has fixed) eq ∙ f
    by None e true f false g rest = rest e (sym (ap (λ b. b || has xs p) g) ∙ t)

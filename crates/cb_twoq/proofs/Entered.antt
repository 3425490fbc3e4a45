-- What a page that comes into the queues keeps.
use Rattle.std.proofs.Common.{◌≡◌, ◌<◌, ◌≤◌, ◌+◌, ℕ, Bool, true, false, nat_eq, nat_lt, List, ◌∷◌, ◌++◌, length, Option, Some, None, if◌then◌else◌, refl, sym, ◌∙◌, ap, subst, arith}
use Rattle.std.proofs.lemmas.Grind.{common_steps}
use Rattle.std.specs.Option.{option_or, option_map}
use Rattle.std.proofs.Math.ListN.{length-append}
use Rattle.cb_page.specs.Flags as flags
use Rattle.cb_twoq.specs.Pages.{has, without, one, times}
use Rattle.cb_twoq.specs.Law.{Chooses, IsFull}
use Rattle.cb_twoq.specs.Queues.{TwoQState, oldest_unfixed, Slot, Free, OfA1in, OfAm, reclaim, page_of, let_go, enter, AreQueues, members_of}
use Rattle.cb_twoq.proofs.PageLists.{without_absent}
use Rattle.cb_twoq.proofs.Counts.{times_cons, times_append, is_there, isnt_there, there, not_there, times_without, length_without, times_take, length_take_at_most, oldest_there, all_fixed}
use Rattle.cb_twoq.proofs.Chosen.{chosen_free, chosen_slot}

-- what a reclaim's choice comes from
abbrev pub pick : Bool → Bool → Option ℕ → Option ℕ → Option Slot
pick free long i m = if free then Some Free else option_or (if long then option_map OfA1in i else None) (option_or (option_map OfAm m) (option_map OfA1in i))

abbrev pub Origin : Bool → Option ℕ → Option ℕ → Option Slot → Type 0
Origin free i m None = (free ≡ false) × (i ≡ None) × (m ≡ None)
Origin free i m (Some Free) = free ≡ true
Origin free i m (Some (OfA1in g)) = (free ≡ false) × (i ≡ Some g)
Origin free i m (Some (OfAm g)) = (free ≡ false) × (m ≡ Some g)

pub picked : (free long : Bool) (i m : Option ℕ) → Origin free i m (pick free long i m)
picked true long i m = refl
picked false true (Some g) m = (refl, refl)
picked false true None (Some g) = (refl, refl)
picked false true None None = (refl, refl, refl)
picked false false i (Some g) = (refl, refl)
picked false false (Some g) None = (refl, refl)
picked false false None None = (refl, refl, refl)

abbrev pub free_of : TwoQState → Bool
free_of q = nat_lt (length q.a1in + length q.am) q.slots

pub reclaimed : (fixed : List Bool) (q : TwoQState) (o : Option Slot) → reclaim fixed q ≡ o → Origin (free_of q) (oldest_unfixed fixed q.a1in) (oldest_unfixed fixed q.am) o
reclaimed fixed q o e = subst (Origin (free_of q) (oldest_unfixed fixed q.a1in) (oldest_unfixed fixed q.am)) e (picked (free_of q) (nat_lt q.kin (length q.a1in)) (oldest_unfixed fixed q.a1in) (oldest_unfixed fixed q.am))

-- the queues after a page came in: they are queues, and the members are as the law says
abbrev pub Entered : TwoQState → List Bool → ℕ → Option ℕ → TwoQState → Type 0
Entered q fixed page gone r = AreQueues r × Chooses q.slots fixed (members_of q) page gone (members_of r)

abbrev pub enter_as : Bool → ℕ → Slot → TwoQState → TwoQState
enter_as b page slot q =
    if b
    then (let r = let_go slot (record q { a1out = without page q.a1out }) in record r { am = page ∷ r.am })
    else (let r = let_go slot q in record r { a1in = page ∷ r.a1in })

entering : (b : Bool) (page : ℕ) (slot : Slot) (q : TwoQState) → has q.a1out page ≡ b → enter_as b page slot q ≡ enter page slot q
entering true page slot q h = let r = let_go slot (record q { a1out = without page q.a1out }) in ap (λ c. if c then record r { am = page ∷ r.am } else record r { a1in = page ∷ r.a1in }) (sym h)
entering false page slot q h =
    let same : (let r = let_go slot q in record r { a1in = page ∷ r.a1in }) ≡ (let r = let_go slot (record q { a1out = without page q.a1out }) in record r { a1in = page ∷ r.a1in }) = ap (λ l. let r = let_go slot (record q { a1out = l }) in record r { a1in = page ∷ r.a1in }) (sym (without_absent page q.a1out h)) in
    let r = let_go slot (record q { a1out = without page q.a1out }) in
    same ∙ ap (λ c. if c then record r { am = page ∷ r.am } else record r { a1in = page ∷ r.a1in }) (sym h)

module _ (fixed : List Bool) (q : TwoQState) (page : ℕ) (queues : AreQueues q) (off_am : has q.am page ≡ false) (off_a1in : has q.a1in page ≡ false) where
  out_of : times page (q.a1in ++ q.am) ≡ 0
  out_of = let a = isnt_there q.am page off_am in let b = isnt_there q.a1in page off_a1in in let e = times_append page q.a1in q.am in omega arith

  members_once : (p : ℕ) → times p (q.a1in ++ q.am) ≤ 1
  members_once p = let e = times_append p q.a1in q.am in let o = queues.once p in omega arith

  length_of : length (q.a1in ++ q.am) ≡ length q.a1in + length q.am
  length_of = length-append q.a1in q.am

  -- with the page, no page is there twice
  with_page : has q.a1out page ≡ false → (p : ℕ) → one p page + (times p q.a1in + times p q.am + times p q.a1out) ≤ 1
  with_page h p = by (nat_eq p page) refl
    where
      by : (b : Bool) → nat_eq p page ≡ b → one p page + (times p q.a1in + times p q.am + times p q.a1out) ≤ 1
      by true e =
          let same : p ≡ page = grind (arith, common_steps) in
          let n : one p page ≡ 1 = ap (λ b. if b then 1 else 0) e in
          let a : times p q.am ≡ 0 = ap (λ x. times x q.am) same ∙ isnt_there q.am page off_am in
          let b : times p q.a1in ≡ 0 = ap (λ x. times x q.a1in) same ∙ isnt_there q.a1in page off_a1in in
          let c : times p q.a1out ≡ 0 = ap (λ x. times x q.a1out) same ∙ isnt_there q.a1out page h in omega arith
      by false e =
          let n : one p page ≡ 0 = ap (λ b. if b then 1 else 0) e in let o = queues.once p in omega arith

  is_full : free_of q ≡ false → q.slots ≤ length q.a1in + length q.am
  is_full h = grind (arith, common_steps)

  is_free : free_of q ≡ true → length q.a1in + length q.am < q.slots
  is_free h = grind (arith, common_steps)

  entered_by : (slot : Slot) (b : Bool) → has q.a1out page ≡ b → Origin (free_of q) (oldest_unfixed fixed q.a1in) (oldest_unfixed fixed q.am) (Some slot)
      → Entered q fixed page (page_of slot) (enter_as b page slot q)
  entered_by Free true h o =
      let room = is_free o in (
        record {
          once = λ p. let w = times_without page q.a1out p h in let c = times_cons p page q.am in let k = queues.once p in omega arith;
          within = omega arith;
          remembered = let l = length_without page q.a1out h in let k = queues.remembered in omega arith;
        },
        chosen_free q.slots fixed (q.a1in ++ q.am) (q.a1in ++ page ∷ q.am) page (let l = length_of in omega arith) out_of
            (let l = length_of in let m = length-append q.a1in (page ∷ q.am) in omega arith)
            (λ p. let a = times_append p q.a1in q.am in let b = times_append p q.a1in (page ∷ q.am) in let c = times_cons p page q.am in omega arith),
      )
  entered_by Free false h o =
      let room = is_free o in (
        record {
          once = λ p. let w = with_page h p in let c = times_cons p page q.a1in in omega arith;
          within = omega arith;
          remembered = queues.remembered;
        },
        chosen_free q.slots fixed (q.a1in ++ q.am) (page ∷ q.a1in ++ q.am) page (let l = length_of in omega arith) out_of
            (omega arith)
            (λ p. times_cons p page (q.a1in ++ q.am)),
      )
  entered_by (OfA1in g) true h o =
      let full = is_full o.0 in let found = oldest_there fixed q.a1in g o.1 in let len = length_without g q.a1in found.0 in
      let outs = length_without page q.a1out h in (
        record {
          once = λ p. let w = times_without page q.a1out p h in let v = times_without g q.a1in p found.0 in let c = times_cons p page q.am in
              let d = times_cons p g (without page q.a1out) in let t = times_take q.kout (g ∷ without page q.a1out) p in let k = queues.once p in omega arith;
          within = let k = queues.within in omega arith;
          remembered = length_take_at_most q.kout (g ∷ without page q.a1out);
        },
        chosen_slot q.slots fixed (q.a1in ++ q.am) (without g q.a1in ++ page ∷ q.am) page g (let l = length_of in omega arith) out_of
            (let l = length_of in let m = length-append (without g q.a1in) (page ∷ q.am) in omega arith)
            (let i = is_there q.a1in g found.0 in let e = times_append g q.a1in q.am in there (q.a1in ++ q.am) g (omega arith)) found.1 members_once
            (λ p. let a = times_append p q.a1in q.am in let b = times_append p (without g q.a1in) (page ∷ q.am) in let c = times_cons p page q.am in
            let v = times_without g q.a1in p found.0 in omega arith),
      )
  entered_by (OfA1in g) false h o =
      let full = is_full o.0 in let found = oldest_there fixed q.a1in g o.1 in let len = length_without g q.a1in found.0 in (
        record {
          once = λ p. let w = with_page h p in let v = times_without g q.a1in p found.0 in let c = times_cons p page (without g q.a1in) in
              let d = times_cons p g q.a1out in let t = times_take q.kout (g ∷ q.a1out) p in omega arith;
          within = let k = queues.within in omega arith;
          remembered = length_take_at_most q.kout (g ∷ q.a1out);
        },
        chosen_slot q.slots fixed (q.a1in ++ q.am) (page ∷ without g q.a1in ++ q.am) page g (let l = length_of in omega arith) out_of
            (let l = length_of in let m = length-append (page ∷ without g q.a1in) q.am in omega arith)
            (let i = is_there q.a1in g found.0 in let e = times_append g q.a1in q.am in there (q.a1in ++ q.am) g (omega arith)) found.1 members_once
            (λ p. let a = times_append p q.a1in q.am in let b = times_append p (page ∷ without g q.a1in) q.am in let c = times_cons p page (without g q.a1in) in
            let v = times_without g q.a1in p found.0 in omega arith),
      )
  entered_by (OfAm g) true h o =
      let full = is_full o.0 in let found = oldest_there fixed q.am g o.1 in let len = length_without g q.am found.0 in
      let outs = length_without page q.a1out h in (
        record {
          once = λ p. let w = times_without page q.a1out p h in let v = times_without g q.am p found.0 in let c = times_cons p page (without g q.am) in
              let k = queues.once p in omega arith;
          within = let k = queues.within in omega arith;
          remembered = let k = queues.remembered in omega arith;
        },
        chosen_slot q.slots fixed (q.a1in ++ q.am) (q.a1in ++ page ∷ without g q.am) page g (let l = length_of in omega arith) out_of
            (let l = length_of in let m = length-append q.a1in (page ∷ without g q.am) in omega arith)
            (let i = is_there q.am g found.0 in let e = times_append g q.a1in q.am in there (q.a1in ++ q.am) g (omega arith)) found.1 members_once
            (λ p. let a = times_append p q.a1in q.am in let b = times_append p q.a1in (page ∷ without g q.am) in let c = times_cons p page (without g q.am) in
            let v = times_without g q.am p found.0 in omega arith),
      )
  entered_by (OfAm g) false h o =
      let full = is_full o.0 in let found = oldest_there fixed q.am g o.1 in let len = length_without g q.am found.0 in (
        record {
          once = λ p. let w = with_page h p in let v = times_without g q.am p found.0 in let c = times_cons p page q.a1in in omega arith;
          within = let k = queues.within in omega arith;
          remembered = queues.remembered;
        },
        chosen_slot q.slots fixed (q.a1in ++ q.am) (page ∷ q.a1in ++ without g q.am) page g (let l = length_of in omega arith) out_of
            (let l = length_of in let m = length-append (page ∷ q.a1in) (without g q.am) in omega arith)
            (let i = is_there q.am g found.0 in let e = times_append g q.a1in q.am in there (q.a1in ++ q.am) g (omega arith)) found.1 members_once
            (λ p. let a = times_append p q.a1in q.am in let b = times_append p (page ∷ q.a1in) (without g q.am) in let c = times_cons p page q.a1in in
            let v = times_without g q.am p found.0 in omega arith),
      )

  pub entered : (slot : Slot) → reclaim fixed q ≡ Some slot → Entered q fixed page (page_of slot) (enter page slot q)
  entered slot e = by (has q.a1out page) refl
    where
      by : (b : Bool) → has q.a1out page ≡ b → Entered q fixed page (page_of slot) (enter page slot q)
      by true h = subst (Entered q fixed page (page_of slot)) (entering true page slot q h) (entered_by slot true h (reclaimed fixed q (Some slot) e))
      by false h = subst (Entered q fixed page (page_of slot)) (entering false page slot q h) (entered_by slot false h (reclaimed fixed q (Some slot) e))

  pub full : reclaim fixed q ≡ None → IsFull q.slots fixed (members_of q) page
  full e =
      let o = reclaimed fixed q None e in let f = is_full o.0 in let l = length_of in
      record {
        out = not_there (q.a1in ++ q.am) page out_of;
        taken = omega arith;
        all_fixed = λ p t. by p t (has q.a1in p) refl;
      }
    where
      by : (p : ℕ) → has (q.a1in ++ q.am) p ≡ true → (b : Bool) → has q.a1in p ≡ b → flags.has fixed p ≡ true
      by p t true h = all_fixed fixed q.a1in (reclaimed fixed q None e).1 p h
      by p t false h =
          let i = is_there (q.a1in ++ q.am) p t in let a = times_append p q.a1in q.am in let z = isnt_there q.a1in p h in
          all_fixed fixed q.am (reclaimed fixed q None e).2 p (there q.am p (omega arith))

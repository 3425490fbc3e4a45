-- What the chooser did, done to the pages.
use Rattle.std.proofs.Common.{◌≡◌, ◌≢◌, ◌<◌, ◌≤◌, ◌+◌, ◌⊎◌, inl, inr, ℕ, Bool, true, false, nat_eq, List, length, [], ◌∷◌, ◌++◌, Option, Some, None, Result, Ok, IfOk, IfSome, true≢false, refl, sym, subst, ◌∙◌, ap, arith}
use Rattle.std.proofs.lemmas.Grind.{common_steps}
use Rattle.std.specs.Option.{is_some}
use Rattle.std.proofs.Math.ListN.{get_or, set, length-set}
use Rattle.std.proofs.lemmas.List.{get_or-set_same, get_or-set_other}
use Rattle.cb_twoq.specs.Pages.{has}
use Rattle.cb_twoq.specs.Law.{Chooses, Forgets}
use Rattle.cb_twoq.specs.Calls.{Calls, IsLed}
use Rattle.cb_twoq.specs.declared.chooser.Chooser as chooser
use Rattle.cb_twoq.specs.declared.chooser.ChooseFault.{ChooseFault}
use Rattle.cb_twoq.specs.declared.chooser.ChooserCall.TheVariants.{Reference}
use Rattle.cb_twoq.proofs.Called.{led_on}
use Rattle.cb_pool.specs.PoolState.{PoolState, copy_of, held, let_go, AreSized}
use Rattle.cb_page.specs.Counting.{bit}
use Rattle.cb_pool.specs.Agree.{Agrees}
use Rattle.cb_pool.proofs.Counted.{Pages, here, held_set, within_pages}

same_or_not : (p q : ℕ) → (p ≡ q) ⊎ (p ≢ q)
same_or_not p q = by (nat_eq p q) refl
  where
    by : (b : Bool) → nat_eq p q ≡ b → (p ≡ q) ⊎ (p ≢ q)
    by true e = inl (grind (arith, common_steps))
    by false e = inr (grind (arith, common_steps))

-- which pages are here, once one was put in or taken out
pub here_same : (pages : Pages) (i : ℕ) (v : Option (List ℕ)) → i < length pages → here (set pages i v) i ≡ is_some v
here_same pages i v lt = ap is_some (get_or-set_same pages i v None lt)

pub here_other : (pages : Pages) (i p : ℕ) (v : Option (List ℕ)) → p ≢ i → here (set pages i v) p ≡ here pages p
here_other pages i p v ne = ap is_some (get_or-set_other pages i p v None ne)

-- the sizes stay
pub sized_set : (size : ℕ) (pages : Pages) (page : ℕ) (bytes : List ℕ) → page < length pages → length bytes ≡ size → AreSized size pages → AreSized size (set pages page (Some bytes))
sized_set size pages page bytes lt len sized p b at = elim (same_or_not p page) [
  | inl e ↦
      (let same : Some bytes ≡ Some b = sym (get_or-set_same pages page (Some bytes) None lt) ∙ sym (ap (λ q. get_or (set pages page (Some bytes)) q None) e) ∙ at in
      let eq : bytes ≡ b = cc in sym (ap length eq) ∙ len)
  | inr n ↦ sized p b (sym (get_or-set_other pages page p (Some bytes) None n) ∙ at)
]

pub sized_off : (size : ℕ) (pages : Pages) (page : ℕ) → page < length pages → AreSized size pages → AreSized size (set pages page None)
sized_off size pages page lt sized p b at = elim (same_or_not p page) [
  | inl e ↦ (let no : None ≡ Some b = sym (get_or-set_same pages page None None lt) ∙ sym (ap (λ q. get_or (set pages page None) q None) e) ∙ at in absurd (cc))
  | inr n ↦ sized p b (sym (get_or-set_other pages page p None None n) ∙ at)
]

-- a page was put in, and the chooser lets none go
module _ (s : PoolState) (old new : List ℕ) (slots slots_new : ℕ) (page : ℕ) (bytes : List ℕ) (agrees : Agrees s old slots) (same : slots_new ≡ slots)
    (below : page < length s.fixed) (long : length bytes ≡ s.page_size) (within : length new ≤ slots_new) where
  lt : page < length s.pages
  lt = let f = agrees.is_pool.flags in omega arith

  kept_none : Chooses slots s.fixed old page None new → Agrees (record s { pages = set s.pages page (Some bytes) }) new slots_new
  kept_none chosen =
      let count = by chosen.goes in
      record {
        is_pool = record {
          within = let e = agrees.same_slots in omega arith;
          flags = agrees.is_pool.flags ∙ sym (length-set s.pages page (Some bytes));
          sized = sized_set s.page_size s.pages page bytes lt long agrees.is_pool.sized;
        };
        members_here = λ p. elim (same_or_not p page) [
          | inl e ↦ ap (has new) e ∙ chosen.member ∙ sym (ap (here (set s.pages page (Some bytes))) e ∙ here_same s.pages page (Some bytes) lt)
          | inr n ↦ chosen.others p (λ e. n (sym (cc))) (λ e. absurd (cc)) ∙ agrees.members_here p ∙ sym (here_other s.pages page p (Some bytes) n)
        ];
        count = count;
        same_slots = same ∙ agrees.same_slots;
      }
    where
      by : ((has old page ≡ true) × (length new ≡ length old)) ⊎ ((has old page ≡ false) × (length old < slots) × (length new ≡ length old + 1)) → length new ≡ held (set s.pages page (Some bytes))
      by (inl w) =
          let h : bit (here s.pages page) ≡ 1 = ap bit (sym (agrees.members_here page) ∙ w.0) in
          let e = held_set s.pages page (Some bytes) lt in let c = agrees.count in let l = w.1 in omega arith
      by (inr w) =
          let h : bit (here s.pages page) ≡ 0 = ap bit (sym (agrees.members_here page) ∙ w.0) in
          let e = held_set s.pages page (Some bytes) lt in let c = agrees.count in let l = w.2 in omega arith

  kept_some : (g : ℕ) → Chooses slots s.fixed old page (Some g) new → Agrees (record s { pages = set (set s.pages g None) page (Some bytes) }) new slots_new
  kept_some g chosen =
      let go = chosen.goes in
      let in_g : here s.pages g ≡ true = sym (agrees.members_here g) ∙ go.was_member in
      let ltg = within_pages s.pages g in_g in
      let ne : page ≢ g = λ e. go.other (sym e) in
      let l1 : length (set s.pages g None) ≡ length s.pages = length-set s.pages g None in
      let lt1 : page < length (set s.pages g None) = let l = lt in omega arith in
      let a : bit (here s.pages g) ≡ 1 = ap bit in_g in
      let b : bit (here (set s.pages g None) page) ≡ 0 = ap bit (here_other s.pages g page None ne ∙ sym (agrees.members_here page) ∙ go.was_out) in
      let s1 = held_set s.pages g None ltg in let s2 = held_set (set s.pages g None) page (Some bytes) lt1 in
      let c = agrees.count in let n = go.count in
      record {
        is_pool = record {
          within = let e = agrees.same_slots in omega arith;
          flags = agrees.is_pool.flags ∙ sym l1 ∙ sym (length-set (set s.pages g None) page (Some bytes));
          sized = sized_set s.page_size (set s.pages g None) page bytes lt1 long (sized_off s.page_size s.pages g ltg agrees.is_pool.sized);
        };
        members_here = λ p. elim (same_or_not p page) [
          | inl e ↦ ap (has new) e ∙ chosen.member ∙ sym (ap (here (set (set s.pages g None) page (Some bytes))) e ∙ here_same (set s.pages g None) page (Some bytes) lt1)
          | inr n ↦ elim (same_or_not p g) [
            | inl e ↦ ap (has new) e ∙ go.left ∙ sym (here_other (set s.pages g None) page p (Some bytes) n ∙ ap (here (set s.pages g None)) e ∙ here_same s.pages g None ltg)
            | inr m ↦ chosen.others p (λ e. n (sym (cc))) (λ e. m (sym (cc))) ∙ agrees.members_here p
                ∙ sym (here_other (set s.pages g None) page p (Some bytes) n ∙ here_other s.pages g p None m)
          ]
        ];
        count = omega arith;
        same_slots = same ∙ agrees.same_slots;
      }

  pub installed : (gone : Option ℕ) → Chooses slots s.fixed old page gone new → Agrees (record s { pages = set (let_go gone s.pages) page (Some bytes) }) new slots_new
  installed None chosen = kept_none chosen
  installed (Some g) chosen = kept_some g chosen

-- a page was taken out
module _ (s : PoolState) (old new : List ℕ) (slots slots_new : ℕ) (page : ℕ) (agrees : Agrees s old slots) (same : slots_new ≡ slots) (below : page < length s.fixed) where
  pub removed : Forgets old page new → Agrees (record s { pages = set s.pages page None }) new slots_new
  removed forgets =
      let f = agrees.is_pool.flags in
      let lt : page < length s.pages = omega arith in
      let e = held_set s.pages page None lt in
      let count = by forgets.count e in
      record {
        is_pool = record {
          within = let w = agrees.is_pool.within in omega arith;
          flags = agrees.is_pool.flags ∙ sym (length-set s.pages page None);
          sized = sized_off s.page_size s.pages page lt agrees.is_pool.sized;
        };
        members_here = λ p. elim (same_or_not p page) [
          | inl e ↦ ap (has new) e ∙ forgets.out ∙ sym (ap (here (set s.pages page None)) e ∙ here_same s.pages page None lt)
          | inr n ↦ forgets.others p (λ e. n (sym (cc))) (λ e. absurd (cc)) ∙ agrees.members_here p ∙ sym (here_other s.pages page p None n)
        ];
        count = count;
        same_slots = same ∙ agrees.same_slots;
      }
    where
      by : ((has old page ≡ true) × (length new + 1 ≡ length old)) ⊎ ((has old page ≡ false) × (length new ≡ length old)) → held (set s.pages page None) + bit (here s.pages page) ≡ held s.pages + 0 → length new ≡ held (set s.pages page None)
      by (inl w) e =
          let h : bit (here s.pages page) ≡ 1 = ap bit (sym (agrees.members_here page) ∙ w.0) in let c = agrees.count in let l = w.1 in omega arith
      by (inr w) e =
          let h : bit (here s.pages page) ≡ 0 = ap bit (sym (agrees.members_here page) ∙ w.0) in let c = agrees.count in let l = w.1 in omega arith

-- the calls of the chooser are told beside
pub recorded : (s : PoolState) (calls : Calls) (members : List ℕ) (slots : ℕ) → Agrees s members slots → Agrees (record s { calls = calls }) members slots
recorded s calls members slots agrees = record {
  is_pool = record {
    within = agrees.is_pool.within;
    flags = agrees.is_pool.flags;
    sized = agrees.is_pool.sized;
  };
  members_here = agrees.members_here;
  count = agrees.count;
  same_slots = agrees.same_slots;
}

-- a page that goes is one of the store
pub gone_within : (s : PoolState) (old new : List ℕ) (slots page : ℕ) → Agrees s old slots → (gone : Option ℕ) → Chooses slots s.fixed old page gone new → IfSome gone (λ g. g < length s.pages)
gone_within s old new slots page agrees None chosen = tt
gone_within s old new slots page agrees (Some g) chosen = within_pages s.pages g (sym (agrees.members_here g) ∙ chosen.goes.was_member)

-- a page that is here was referred to, and the call told
module _ {Q : Type 0} (choose : chooser.Ghosts Q) (s : PoolState) (before after : Q) (page : ℕ) (fixed : List Bool) (result : Result (Option ℕ) ChooseFault)
    (agrees : Agrees s (choose.members before) (choose.slots before)) (led : IsLed choose s.slots s.calls before) (here_is : is_some (copy_of s page) ≡ true)
    (ok : IfOk result (λ gone. Chooses (choose.slots before) fixed (choose.members before) page gone (choose.members after)))
    (member : has (choose.members before) page ≡ true → result ≡ Ok None) (slots : choose.slots after ≡ choose.slots before)
    (refers : IfOk result (λ gone. choose.refers before page fixed gone after)) where
  there : has (choose.members before) page ≡ true
  there = agrees.members_here page ∙ here_is

  chosen : Chooses (choose.slots before) fixed (choose.members before) page None (choose.members after)
  chosen = subst (λ (r : Result (Option ℕ) ChooseFault). IfOk r (λ gone. Chooses (choose.slots before) fixed (choose.members before) page gone (choose.members after))) (member there) ok

  counted : ((has (choose.members before) page ≡ true) × (length (choose.members after) ≡ length (choose.members before)))
      ⊎ ((has (choose.members before) page ≡ false) × (length (choose.members before) < choose.slots before) × (length (choose.members after) ≡ length (choose.members before) + 1))
      → length (choose.members after) ≡ held s.pages
  counted (inl w) = w.1 ∙ agrees.count
  counted (inr w) = absurd (true≢false (sym there ∙ w.0))

  pub referred_here : (calls : Calls) → calls ≡ s.calls ++ (Reference page, fixed) ∷ []
      → Agrees (record s { calls = calls }) (choose.members after) (choose.slots after) × IsLed choose s.slots calls after
  referred_here calls e = (
    record {
      is_pool = record {
        within = agrees.is_pool.within;
        flags = agrees.is_pool.flags;
        sized = agrees.is_pool.sized;
      };
      members_here = λ p. elim (same_or_not p page) [
        | inl same ↦ ap (has (choose.members after)) same ∙ chosen.member ∙ sym (ap (here s.pages) same ∙ here_is)
        | inr other ↦ chosen.others p (λ e. other (sym (cc))) (λ e. absurd (cc)) ∙ agrees.members_here p
      ];
      count = counted chosen.goes;
      same_slots = slots ∙ agrees.same_slots;
    },
    subst (λ (all : Calls). IsLed choose s.slots all after) (sym e)
        (led_on choose s.slots s.calls before after (Reference page, fixed) led
        (None, subst (λ (r : Result (Option ℕ) ChooseFault). IfOk r (λ gone. choose.refers before page fixed gone after)) (member there) refers)),
  )

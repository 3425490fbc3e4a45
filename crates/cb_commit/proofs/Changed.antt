-- The pages whose last commit isn't on disk.
use Rattle.std.proofs.Common.{◌≡◌, ℕ, ◌+◌, ◌<◌, ◌≤◌, List, [], ◌∷◌, ◌++◌, Bool, length, map, nat_lt, slice_set, slice_index_or, true, false, ap, sym, arith, ◌∙◌, ◌-◌, inl, inr, rules, zero, suc}
use Rattle.std.specs.List.{All, AllByRecursion}
use Rattle.std.proofs.lemmas.Bool.{cases_eq, cases_Bool, lt-ltb}
use Rattle.std.proofs.lemmas.List.{map-append, length-set, get_or-set_same, get_or-set_other}
use Rattle.std.proofs.lemmas.List.Elements.{All-append}
use Rattle.cb_page.specs.Rising.{RisesFrom, IsRising}
use Rattle.cb_frame.specs.declared.writes.Write.{Write}
use Rattle.cb_commit.specs.declared.store.StoredPage.{StoredPage}
use Rattle.cb_commit.specs.declared.batch.BatchPage.{BatchPage}
use Rattle.cb_commit.specs.Stores.{StoreState, IsSound, IsStored, no_page}
use Rattle.cb_commit.specs.Batches.{IsBatch, changed_below, place_of, taken}
use Rattle.cb_commit.specs.Changes.{AreChanged, marked}
use Rattle.cb_commit.specs.History.{rewritten}

-- pages that aren't changed add nothing
pub changed_skip : (extra : ℕ) (flushed : ℕ) (pages : List StoredPage) (from : ℕ) → ((k : ℕ) → from ≤ k → k < from + extra → nat_lt flushed (slice_index_or pages k no_page).version ≡ false)
    → changed_below flushed pages (from + extra) ≡ changed_below flushed pages from
changed_skip zero flushed pages from none = let e : from + zero ≡ from = omega arith in ap (changed_below flushed pages) e
changed_skip (suc extra) flushed pages from none =
    let e : from + suc extra ≡ suc (from + extra) = omega arith in
    let last = none (from + extra) (omega arith) (omega arith) in
    ap (changed_below flushed pages) e ∙ rw last (search rules) ∙ changed_skip extra flushed pages from (λ k le lt. none k le (omega (arith, lt)))

-- where the next changed page is the one at `page`
pub changed_step : (flushed : ℕ) (pages : List StoredPage) (from page : ℕ) → from ≤ page → ((k : ℕ) → from ≤ k → k < page → nat_lt flushed (slice_index_or pages k no_page).version ≡ false)
    → nat_lt flushed (slice_index_or pages page no_page).version ≡ true → changed_below flushed pages (page + 1) ≡ changed_below flushed pages from ++ taken pages page ∷ []
changed_step flushed pages from page le none is =
    let e : page + 1 ≡ suc page = omega arith in
    let gap : page ≡ from + (page - from) = omega arith in
    let skip : changed_below flushed pages page ≡ changed_below flushed pages from =
    ap (changed_below flushed pages) gap ∙ changed_skip (page - from) flushed pages from (λ k le lt. none k le (omega (arith, lt, gap))) in
    ap (changed_below flushed pages) e ∙ rw is (ap (λ xs. xs ++ taken pages page ∷ []) skip)

-- where no further page is changed
pub changed_end : (flushed : ℕ) (pages : List StoredPage) (from : ℕ) → from ≤ length pages → ((k : ℕ) → from ≤ k → nat_lt flushed (slice_index_or pages k no_page).version ≡ false)
    → changed_below flushed pages from ≡ changed_below flushed pages (length pages)
changed_end flushed pages from le none =
    let gap : length pages ≡ from + (length pages - from) = omega arith in
    sym (ap (changed_below flushed pages) gap ∙ changed_skip (length pages - from) flushed pages from (λ k le lt. none k le))

rises_push : (xs : List ℕ) (least x : ℕ) → RisesFrom least xs → AllByRecursion (λ y. y < x) xs → least ≤ x → RisesFrom least (xs ++ x ∷ [])
rises_push [] least x rises below le = (le, tt)
rises_push (y ∷ xs) least x rises below le = (rises.0, rises_push xs (y + 1) x rises.1 below.1 (omega (arith, below.0)))

below_push : (xs : List ℕ) (x : ℕ) → AllByRecursion (λ y. y < x) xs → AllByRecursion (λ y. y < suc x) (xs ++ x ∷ [])
below_push [] x below = (omega arith, tt)
below_push (y ∷ xs) x below = (omega (arith, below.0), below_push xs x below.1)

below_more : (xs : List ℕ) (x : ℕ) → AllByRecursion (λ y. y < x) xs → AllByRecursion (λ y. y < suc x) xs
below_more [] x below = tt
below_more (y ∷ xs) x below = (omega (arith, below.0), below_more xs x below.1)

places_below : (n flushed : ℕ) (pages : List StoredPage) → AllByRecursion (λ y. y < n) (map place_of (changed_below flushed pages n))
places_below zero flushed pages = tt
places_below (suc n) flushed pages = elim (cases_Bool (nat_lt flushed (slice_index_or pages n no_page).version)) [
  | inl is ↦ rw (is, map-append place_of (changed_below flushed pages n) (taken pages n ∷ [])) (below_push _ n (places_below n flushed pages))
  | inr is ↦ rw (is, map-append place_of (changed_below flushed pages n) []) (let e : map place_of (changed_below flushed pages n) ++ [] ≡ map place_of (changed_below flushed pages n) = search rules in rw e (below_more _ n (places_below n flushed pages)))
]

places_rise : (n flushed : ℕ) (pages : List StoredPage) → IsRising (map place_of (changed_below flushed pages n))
places_rise zero flushed pages = tt
places_rise (suc n) flushed pages = elim (cases_Bool (nat_lt flushed (slice_index_or pages n no_page).version)) [
  | inl is ↦ rw (is, map-append place_of (changed_below flushed pages n) (taken pages n ∷ [])) (rises_push _ 0 n (places_rise n flushed pages) (places_below n flushed pages) (omega arith))
  | inr is ↦ rw (is, map-append place_of (changed_below flushed pages n) []) (let e : map place_of (changed_below flushed pages n) ++ [] ≡ map place_of (changed_below flushed pages n) = search rules in rw e (places_rise n flushed pages))
]

versions_within : (n flushed number : ℕ) (pages : List StoredPage) (size : ℕ) → All (IsStored size number) pages → n ≤ length pages → All (λ x. x.version ≤ number) (changed_below flushed pages n)
versions_within zero flushed number pages size stored le = λ k d lt. absurd (omega (arith, lt))
versions_within (suc n) flushed number pages size stored le = All-append (λ (x : BatchPage). x.version ≤ number) _ _ (versions_within n flushed number pages size stored (omega arith)) (elim (cases_Bool (nat_lt flushed (slice_index_or pages n no_page).version)) [
  | inl is ↦ rw is (λ k d lt. let here : k ≡ 0 = omega (arith, lt) in rw here (stored n no_page (omega arith)).version)
  | inr is ↦ rw is (λ k d lt. absurd (omega (arith, lt)))
])

-- the changed pages of a sound store make a batch
pub changed_is_batch : (flushed : ℕ) (s : StoreState) → IsSound s → IsBatch (record { number = s.number; pages = changed_below flushed s.pages (length s.pages) })
changed_is_batch flushed s sound = record {
  rising = places_rise (length s.pages) flushed s.pages;
  versions = versions_within (length s.pages) flushed s.number s.pages s.page_size sound.pages (omega arith);
}

-- one write of a commit that comes after the flushed one
marks_one : (flushed : ℕ) (pages : List StoredPage) (flags : List Bool) (page number : ℕ) (bytes : List ℕ) → AreChanged flushed pages flags → flushed < number → page < length pages
    → AreChanged flushed (slice_set pages page (record { version = number; bytes = bytes })) (slice_set flags page true)
marks_one flushed pages flags page number bytes are later lt = record {
  size = length-set flags page true ∙ are.size ∙ sym (length-set pages page _);
  flags = λ p. elim (cases_eq p page) [
    | inl e ↦ rw e (get_or-set_same flags page true false (omega (arith, are.size)) ∙ sym (lt-ltb flushed number later) ∙ ap (λ (x : StoredPage). nat_lt flushed x.version) (sym (get_or-set_same pages page _ no_page lt)))
    | inr ne ↦ get_or-set_other flags page p true false ne ∙ are.flags p ∙ ap (λ (x : StoredPage). nat_lt flushed x.version) (sym (get_or-set_other pages page p _ no_page ne))
  ];
}

abbrev rest : {X : Type 0} (P : X → Type 0) (x : X) (xs : List X) → All P (x ∷ xs) → All P xs
rest P x xs all = λ k d lt. all (suc k) d (omega (arith, lt))

-- all writes of such a commit
pub marks : (ws : List Write) (flushed : ℕ) (pages : List StoredPage) (flags : List Bool) (number : ℕ) → AreChanged flushed pages flags → flushed < number → All (λ w. w.page < length pages) ws
    → AreChanged flushed (rewritten number pages ws) (marked flags ws)
marks [] flushed pages flags number are later fit = are
marks (w ∷ ws) flushed pages flags number are later fit =
    marks ws flushed _ _ number (marks_one flushed pages flags w.page number w.bytes are later (fit 0 w (omega arith))) later
    (λ k d lt. let e = length-set pages w.page (record { version = number; bytes = w.bytes }) in rw e (rest (λ (x : Write). x.page < length pages) w ws fit k d lt))

-- The store is the fold of the commits, and the batch brings the tables up to it.
use Rattle.std.proofs.Common.{◌≡◌, ◌⊎◌, ℕ, ◌+◌, ◌-◌, ◌<◌, ◌≤◌, List, [], ◌∷◌, ◌++◌, length, get_or, map, take, drop, nat_lt, nat_le, slice_set, slice_index_or, true, false, refl, ap, sym, arith, ◌∙◌, subst, inl, inr, rules, zero, suc, drop_of_length-le}
use Rattle.std.proofs.lemmas.Bool.{cases_lt, cases_eq, cases_Bool, lt-ltb, le-ltb, le-leb, lt-leb}
use Rattle.std.proofs.lemmas.List.{length-set, length-append, get_or-set_same, get_or-set_other, get_or_past, ext_get_or, take-append-drop, take_all}
use Rattle.std.proofs.lemmas.List.Elements.{All-append}
use Rattle.cb_frame.specs.Grammar.{page_of}
use Rattle.cb_page.specs.Rising.{IsRising}
use Rattle.cb_frame.specs.declared.writes.Write.{Write}
use Rattle.cb_commit.specs.declared.store.StoredPage.{StoredPage}
use Rattle.cb_commit.specs.declared.commit.Commit.{Commit}
use Rattle.cb_commit.specs.declared.batch.BatchPage.{BatchPage}
use Rattle.cb_commit.specs.Stores.{StoreState, no_page}
use Rattle.cb_commit.specs.Batches.{changed_below, overwritten, taken}
use Rattle.cb_commit.specs.History.{AreCommits, CatchesUp, CommitsState, Numbered, applied, done_of, dones_between, rewritten, store_after, store_at, written}
use Rattle.cb_commit.proofs.Rewriting.{rewritten_length}

store_append : (cs ds : List Commit) (s : StoreState) → store_after s (cs ++ ds) ≡ store_after (store_after s cs) ds
store_append [] ds s = refl
store_append (c ∷ cs) ds s = store_append cs ds (written s c)

numbered_push : (cs : List Commit) (c : Commit) (last : ℕ) → Numbered last cs → c.number ≡ last + length cs + 1 → Numbered last (cs ++ c ∷ [])
numbered_push [] c last numbered is = (omega (arith, is), tt)
numbered_push (x ∷ cs) c last numbered is = (numbered.0, numbered_push cs c (last + 1) numbered.1 (omega (arith, is)))

-- one more commit keeps what is kept of all
pub applied_are : (s : CommitsState) (c : Commit) → AreCommits s → c.number ≡ s.store.number + 1 → IsRising (map page_of c.writes) → AreCommits (applied s c)
applied_are s c are is rising = record {
  folded = ap (λ x. written x c) are.folded ∙ sym (store_append s.commits (c ∷ []) s.opening);
  numbered = numbered_push s.commits c s.opening.number are.numbered (omega (arith, is, are.count));
  rising = All-append (λ (x : Commit). IsRising (map page_of x.writes)) s.commits (c ∷ []) are.rising (λ k d lt. let here : k ≡ 0 = omega (arith, lt) in rw here rising);
  count = omega (arith, is, are.count, length-append s.commits (c ∷ []));
  pages = are.pages ∙ sym (rewritten_length c.writes c.number s.store.pages);
  page_size = are.page_size;
  from_opening = are.from_opening;
  to_last = omega (arith, is, are.to_last);
  forgotten_on_disk = are.forgotten_on_disk;
}

numbered_drop : (count : ℕ) (cs : List Commit) (last : ℕ) → Numbered last cs → count ≤ length cs → Numbered (last + count) (drop count cs)
numbered_drop zero cs last numbered le = let e : last + zero ≡ last = omega arith in rw e numbered
numbered_drop (suc count) [] last numbered le = absurd (omega arith)
numbered_drop (suc count) (c ∷ cs) last numbered le = let e : last + suc count ≡ (last + 1) + count = omega arith in rw e (numbered_drop count cs (last + 1) numbered.1 (omega arith))

-- a page is as before a commit, or has its number
rewritten_at : (ws : List Write) (number : ℕ) (pages : List StoredPage) (p : ℕ)
    → (get_or (rewritten number pages ws) p no_page ≡ get_or pages p no_page) ⊎ ((get_or (rewritten number pages ws) p no_page).version ≡ number)
rewritten_at [] number pages p = inl refl
rewritten_at (w ∷ ws) number pages p =
    let new : StoredPage = record { version = number; bytes = w.bytes } in
    elim (rewritten_at ws number (slice_set pages w.page new) p) [
      | inr is ↦ inr is
      | inl is ↦ elim (cases_eq p w.page) [
        | inr ne ↦ inl (is ∙ get_or-set_other pages w.page p new no_page ne)
        | inl e ↦ elim (cases_lt w.page (length pages)) [
          | inl lt ↦ inr (ap (λ (x : StoredPage). x.version) (is ∙ ap (λ n. get_or (slice_set pages w.page new) n no_page) e ∙ get_or-set_same pages w.page new no_page lt))
          | inr le ↦ inl (is ∙ get_or_past (slice_set pages w.page new) p no_page (omega (arith, e, le, length-set pages w.page new)) ∙ sym (get_or_past pages p no_page (omega (arith, e, le))))
        ]
      ]
    ]

-- a page is as before the commits, or its version is above what they begin after
stays : (cs : List Commit) (s : StoreState) (last flushed p : ℕ) → Numbered last cs → flushed ≤ last
    → (get_or (store_after s cs).pages p no_page ≡ get_or s.pages p no_page) ⊎ (flushed < (get_or (store_after s cs).pages p no_page).version)
stays [] s last flushed p numbered le = inl refl
stays (c ∷ cs) s last flushed p numbered le = elim (stays cs (written s c) (last + 1) flushed p numbered.1 (omega arith)) [
  | inr above ↦ inr above
  | inl is ↦ elim (rewritten_at c.writes c.number s.pages p) [
    | inl same ↦ inl (is ∙ same)
    | inr number ↦ inr (omega (arith, ap (λ (x : StoredPage). x.version) is, number, numbered.0))
  ]
]

store_length : (cs : List Commit) (s : StoreState) → length (store_after s cs).pages ≡ length s.pages
store_length [] s = refl
store_length (c ∷ cs) s = store_length cs (written s c) ∙ rewritten_length c.writes c.number s.pages

store_size : (cs : List Commit) (s : StoreState) → (store_after s cs).page_size ≡ s.page_size
store_size [] s = refl
store_size (c ∷ cs) s = store_size cs (written s c)

overwritten_append : (bs cs : List BatchPage) (pages : List StoredPage) → overwritten pages (bs ++ cs) ≡ overwritten (overwritten pages bs) cs
overwritten_append [] cs pages = refl
overwritten_append (b ∷ bs) cs pages = overwritten_append bs cs _

overwritten_length : (bs : List BatchPage) (pages : List StoredPage) → length (overwritten pages bs) ≡ length pages
overwritten_length [] pages = refl
overwritten_length (b ∷ bs) pages = overwritten_length bs _ ∙ length-set pages b.page _

-- with the changed pages below a number written over old ones, a page below it is new, and any other is old
over_at : (n flushed : ℕ) (old new : List StoredPage) → length old ≡ length new → n ≤ length new
    → ((p : ℕ) → (get_or new p no_page ≡ get_or old p no_page) ⊎ (flushed < (get_or new p no_page).version))
    → (p : ℕ) → (p < n → get_or (overwritten old (changed_below flushed new n)) p no_page ≡ get_or new p no_page)
    × (n ≤ p → get_or (overwritten old (changed_below flushed new n)) p no_page ≡ get_or old p no_page)
over_at zero flushed old new same le each p = ((λ lt. absurd (omega (arith, lt))), (λ le. refl))
over_at (suc n) flushed old new same le each p =
    let before = over_at n flushed old new same (omega arith) each p in
    let one = taken new n in
    elim (cases_Bool (nat_lt flushed (slice_index_or new n no_page).version)) [
      | inr is ↦ rw is (
          let e : changed_below flushed new n ++ [] ≡ changed_below flushed new n = search rules in
          rw e (
            (λ lt. elim (cases_eq p n) [
              | inl here ↦ before.1 (omega (arith, here)) ∙ rw here (elim (each n) [
                | inl q ↦ sym q
                | inr above ↦ absurd (let up = lt-ltb flushed _ above in cc)
              ])
              | inr ne ↦ before.0 (omega (arith, lt, ne))
            ]),
            (λ le. before.1 (omega (arith, le))),
          ))
      | inl is ↦ rw (is, overwritten_append (changed_below flushed new n) (one ∷ []) old) (
          let mid = overwritten old (changed_below flushed new n) in
          let size : n < length mid = omega (arith, overwritten_length (changed_below flushed new n) old, same) in (
            (λ lt. elim (cases_eq p n) [
              | inl here ↦ rw here (get_or-set_same mid n _ no_page size)
              | inr ne ↦ get_or-set_other mid n p _ no_page ne ∙ before.0 (omega (arith, lt, ne))
            ]),
            (λ le. get_or-set_other mid n p _ no_page (λ e. omega (arith, e, le)) ∙ before.1 (omega (arith, le))),
          ))
    ]

pub over_all : (flushed : ℕ) (old new : List StoredPage) → length old ≡ length new
    → ((p : ℕ) → (get_or new p no_page ≡ get_or old p no_page) ⊎ (flushed < (get_or new p no_page).version))
    → overwritten old (changed_below flushed new (length new)) ≡ new
over_all flushed old new same each = ext_get_or no_page _ _ (overwritten_length (changed_below flushed new (length new)) old ∙ same)
    (λ p lt. (over_at (length new) flushed old new same (omega arith) each p).0 (omega (arith, lt, overwritten_length (changed_below flushed new (length new)) old, same)))

-- the batch brings the tables up to the store, wherever from the last flushed commit on they are
pub catches_up : (s : CommitsState) → AreCommits s → CatchesUp s (record { number = s.store.number; pages = changed_below s.flushed s.store.pages (length s.store.pages) })
catches_up s are = λ number least last.
    let count = number - s.opening.number in
    let mid = store_at s number in
    let parts : store_after mid (drop count s.commits) ≡ s.store =
    sym (store_append (take count s.commits) (drop count s.commits) s.opening) ∙ ap (store_after s.opening) (take-append-drop count s.commits) ∙ sym are.folded in
    let within : count ≤ length s.commits = omega (arith, are.count, last) in
    let numbered = numbered_drop count s.commits s.opening.number are.numbered within in
    let each = λ (p : ℕ). subst (λ (x : StoreState). (get_or x.pages p no_page ≡ get_or mid.pages p no_page) ⊎ (s.flushed < (get_or x.pages p no_page).version)) parts
    (stays (drop count s.commits) mid (s.opening.number + count) s.flushed p numbered (omega (arith, least, are.from_opening))) in
    let pages = over_all s.flushed mid.pages s.store.pages (store_length (take count s.commits) s.opening ∙ are.pages) each in
    let size : mid.page_size ≡ s.store.page_size = store_size (take count s.commits) s.opening ∙ are.page_size in
    λ i. record { page_size = size i; pages = pages i; number = s.store.number }

-- the Dones of commits that all come after
dones_first : (cs : List Commit) (after above last : ℕ) → Numbered after cs → above ≤ after → dones_between above last cs ≡ map done_of (take (last - after) cs)
dones_first [] after above last numbered le = ap (map done_of) (sym (take_all (last - after) [] (omega arith)))
dones_first (c ∷ cs) after above last numbered le =
    let up : nat_lt above c.number ≡ true = lt-ltb above c.number (omega (arith, numbered.0)) in
    elim (cases_lt after last) [
      | inl lt ↦
          let in' : nat_le c.number last ≡ true = le-leb c.number last (omega (arith, numbered.0)) in
          let n : last - after ≡ suc (last - (after + 1)) = omega arith in
          rw (up, in', n) (ap (λ xs. done_of c ∷ xs) (dones_first cs (after + 1) above last numbered.1 (omega arith)))
      | inr le' ↦
          let out : nat_le c.number last ≡ false = lt-leb c.number last (omega (arith, numbered.0)) in
          let n : last - after ≡ zero = omega arith in
          let m : last - (after + 1) ≡ zero = omega arith in
          rw (up, out, n) (dones_first cs (after + 1) above last numbered.1 (omega arith) ∙ rw m refl)
    ]

-- the Dones of a part of the commits
pub dones_part : (cs : List Commit) (after above last : ℕ) → Numbered after cs → after ≤ above → above ≤ last → dones_between above last cs ≡ map done_of (take (last - above) (drop (above - after) cs))
dones_part [] after above last numbered le le' =
    let none : drop {A = Commit} (above - after) [] ≡ [] = drop_of_length-le {A = Commit} [] (omega arith) in
    rw none (ap (map done_of) (sym (take_all (last - above) [] (omega arith))))
dones_part (c ∷ cs) after above last numbered le le' = elim (cases_eq after above) [
  | inl e ↦
      let n : above - after ≡ zero = omega (arith, e) in
      let m : last - above ≡ last - after = omega (arith, e) in
      rw (n, m) (dones_first (c ∷ cs) after above last numbered (omega (arith, e)))
  | inr ne ↦
      let down : nat_lt above c.number ≡ false = le-ltb above c.number (omega (arith, numbered.0, ne)) in
      let n : above - after ≡ suc (above - (after + 1)) = omega (arith, ne) in
      rw (down, n) (dones_part cs (after + 1) above last numbered.1 (omega (arith, ne)) le')
]

-- A batch that is written makes the store on disk the store of the server that it is of.
use Rattle.std.proofs.Common.{◌≡◌, ◌≢◌, ◌<◌, ◌≤◌, ◌++◌, ◌⊎◌, ◌==◌, ℕ, zero, suc, Bool, true, false, nat_le, nat_lt}
use Rattle.std.proofs.Common.{List, [], ◌∷◌, length, map, Option, Some, None, refl, sym, ◌∙◌, ap, subst, arith}
use Rattle.std.proofs.Common.{if◌then◌else◌, inl, inr, slice_set, slice_index_or}
use Rattle.std.proofs.lemmas.Bool.{cases_eq}
use Rattle.std.proofs.lemmas.Bool.Decides.{nat_tests}
use Rattle.std.proofs.lemmas.List.{get_or_past, get_or-set_other, get_or-set_same, length-set}
use Rattle.cb_commit.specs.Batches.{BatchState, after_batch, overwritten}
use Rattle.cb_commit.specs.Stores.{StoreState, IsOf, bytes_at, no_page, version_at}
use Rattle.cb_commit.specs.declared.batch.BatchPage.{BatchPage}
use Rattle.cb_commit.specs.declared.store.StoredPage.{StoredPage}
use Rattle.cb_page.specs.Bounds.{Bounds}
use Rattle.cb_protocol.specs.AnyMessages.{Numbered, bytes_after, version_after}
use Rattle.cb_protocol.specs.Basics.{Bytes, IsIn}
use Rattle.cb_protocol.specs.Flush as flush
use Rattle.cb_protocol.specs.Flush.{Batch, changed_pages, next_batch, stored_page}
use Rattle.cb_protocol.specs.LivesWorld.{commits_up_to, store_on_disk}
use Rattle.cb_protocol.specs.Messages.{PageWrite, write_of_page}
use Rattle.cb_protocol.specs.Server.{AppliedCommit, Server}
use Rattle.cb_protocol.specs.Session.{new_bytes, new_version}
use Rattle.cb_protocol.specs.World.{Opening}
use Rattle.cb_server_state.specs.Commits.{batch_of, batch_page}
use Rattle.cb_server_state.specs.States.{opening_of}
use Rattle.cb_running_laws.proofs.ServerCommits.{Facts, Within}
use Rattle.cb_protocol.specs.StoreLimits.{limits_of}

-- ---- commits up to a number

-- later ones don't count
pub up_to_later : (d last : ℕ) (added xs : List AppliedCommit)
    → ((x : AppliedCommit) → IsIn x added → last < x.number) → d ≤ last
    → commits_up_to d (added ++ xs) ≡ commits_up_to d xs
up_to_later d last [] xs later le = refl
up_to_later d last (a ∷ added) xs later le =
    let l = later a (inl refl) in
    let e : nat_le a.number d ≡ false = grind (arith, nat_tests, l, le) in
    rw e (up_to_later d last added xs (λ x i. later x (inr i)) le)

-- one that is below the number is among them
pub in_up_to : (d : ℕ) (xs : List AppliedCommit) (x : AppliedCommit) → IsIn x xs → x.number ≤ d
    → IsIn x (commits_up_to d xs)
in_up_to d [] x i le = absurd i
in_up_to d (a ∷ xs) x i le = go (λ j. in_up_to d xs x j le) (nat_le a.number d) refl i
  where
    go : (IsIn x xs → IsIn x (commits_up_to d xs)) → (b : Bool) → nat_le a.number d ≡ b
        → IsIn x (a ∷ xs) → IsIn x (if b then a ∷ xs else commits_up_to d xs)
    go rest true e j = j
    go rest false e (inl same) = absurd (let z : a.number ≡ x.number
        = ap (λ (y : AppliedCommit). y.number) same in grind (arith, nat_tests, e, z, le))
    go rest false e (inr j) = rest j

-- those up to a number are among all
from_up_to : (d : ℕ) (xs : List AppliedCommit) (x : AppliedCommit) → IsIn x (commits_up_to d xs)
    → IsIn x xs
from_up_to d [] x i = i
from_up_to d (a ∷ xs) x i = go (λ j. from_up_to d xs x j) (nat_le a.number d) i
  where
    go : (IsIn x (commits_up_to d xs) → IsIn x xs) → (b : Bool)
        → IsIn x (if b then a ∷ xs else commits_up_to d xs) → IsIn x (a ∷ xs)
    go rest true j = j
    go rest false j = inr (rest j)

-- and among those up to a greater one
pub up_to_more : (d e : ℕ) (xs : List AppliedCommit) (x : AppliedCommit) → d ≤ e
    → IsIn x (commits_up_to d xs) → IsIn x (commits_up_to e xs)
up_to_more d e [] x le i = i
up_to_more d e (a ∷ xs) x le i =
    go (λ j. up_to_more d e xs x le j) (nat_le a.number d) (nat_le a.number e) refl refl i
  where
    go : (IsIn x (commits_up_to d xs) → IsIn x (commits_up_to e xs)) → (b c : Bool)
        → nat_le a.number d ≡ b → nat_le a.number e ≡ c
        → IsIn x (if b then a ∷ xs else commits_up_to d xs)
        → IsIn x (if c then a ∷ xs else commits_up_to e xs)
    go rest true true f h j = j
    go rest true false f h j = absurd (grind (arith, nat_tests, f, h, le))
    go rest false true f h j = inr (from_up_to d xs x j)
    go rest false false f h j = rest j

-- up to the last one they are all
pub up_to_last : (o last : ℕ) (xs : List AppliedCommit) → Numbered o xs last
    → commits_up_to last xs ≡ xs
up_to_last o last [] numbered = refl
up_to_last o last (a ∷ xs) numbered =
    let n = numbered.0 in
    let e : nat_le a.number last ≡ true = grind (arith, nat_tests, n) in rw e refl

-- ---- pages that the later ones leave

-- a page whose version is no later is as the commits up to that number left it
unchanged : (d : ℕ) (ob : ℕ → Bytes) (ov : ℕ → ℕ) (xs : List AppliedCommit) (page : ℕ)
    → version_after ov xs page ≤ d
    → (bytes_after ob (commits_up_to d xs) page ≡ bytes_after ob xs page)
    × (version_after ov (commits_up_to d xs) page ≡ version_after ov xs page)
unchanged d ob ov [] page le = (refl, refl)
unchanged d ob ov (a ∷ xs) page le =
    go (λ l. unchanged d ob ov xs page l) (nat_le a.number d) refl
  where
    by : (version_after ov xs page ≤ d
        → (bytes_after ob (commits_up_to d xs) page ≡ bytes_after ob xs page)
        × (version_after ov (commits_up_to d xs) page ≡ version_after ov xs page)) → (w : Option PageWrite) → nat_le a.number d ≡ false
        → new_version w a.number (version_after ov xs page) ≤ d
        → (bytes_after ob (commits_up_to d xs) page ≡ new_bytes w (bytes_after ob xs page))
        × (version_after ov (commits_up_to d xs) page
        ≡ new_version w a.number (version_after ov xs page))
    by rest None e l = rest l
    by rest (Some w) e l = absurd (grind (arith, nat_tests, e, l))

    go : (version_after ov xs page ≤ d
        → (bytes_after ob (commits_up_to d xs) page ≡ bytes_after ob xs page)
        × (version_after ov (commits_up_to d xs) page ≡ version_after ov xs page))
        → (b : Bool) → nat_le a.number d ≡ b
        → (bytes_after ob (if b then a ∷ xs else commits_up_to d xs) page
        ≡ bytes_after ob (a ∷ xs) page)
        × (version_after ov (if b then a ∷ xs else commits_up_to d xs) page
        ≡ version_after ov (a ∷ xs) page)
    go rest true e = (refl, refl)
    go rest false e = by rest (write_of_page a.writes page) e le

-- a page that no write is of
not_written : (ws : List PageWrite) (pages page : ℕ) → Within pages ws → pages ≤ page
    → write_of_page ws page ≡ None
not_written [] pages page within le = refl
not_written (w ∷ ws) pages page within le =
    let l = within w (inl refl) in
    let e : (w.page == page) ≡ false = grind (arith, nat_tests, l, le) in
    rw e (not_written ws pages page (λ x i. within x (inr i)) le)

beyond : (ov : ℕ → ℕ) (xs : List AppliedCommit) (pages page : ℕ)
    → ((x : AppliedCommit) → IsIn x xs → Within pages x.writes) → pages ≤ page
    → version_after ov xs page ≡ ov page
beyond ov [] pages page within le = refl
beyond ov (a ∷ xs) pages page within le =
    ap (λ (w : Option PageWrite). new_version w a.number (version_after ov xs page))
    (not_written a.writes pages page (within a (inl refl)) le)
    ∙ beyond ov xs pages page (λ x i. within x (inr i)) le

-- ---- a batch over pages

abbrev look : List StoredPage → ℕ → StoredPage
look pages page = slice_index_or pages page no_page

abbrev to_write : flush.StoredPage → BatchPage
to_write p = record { page = p.page; version = p.version; bytes = p.bytes }

batch_pages : (ps : List BatchPage) → map to_write (map batch_page ps) ≡ ps
batch_pages [] = refl
batch_pages (p ∷ ps) = ap (λ (l : List BatchPage). p ∷ l) (batch_pages ps)

over_append : (xs : List StoredPage) (ps qs : List BatchPage)
    → overwritten xs (ps ++ qs) ≡ overwritten (overwritten xs ps) qs
over_append xs [] qs = refl
over_append xs (p ∷ ps) qs = over_append _ ps qs

over_length : (xs : List StoredPage) (ps : List BatchPage) → length (overwritten xs ps) ≡ length xs
over_length xs [] = refl
over_length xs (p ∷ ps) = over_length (slice_set xs p.page (record { version = p.version; bytes = p.bytes })) ps
    ∙ length-set xs p.page (record { version = p.version; bytes = p.bytes })

map_joined : (ps qs : List flush.StoredPage) → map to_write (ps ++ qs) ≡ map to_write ps ++ map to_write qs
map_joined [] qs = refl
map_joined (p ∷ ps) qs = ap (λ (l : List BatchPage). to_write p ∷ l) (map_joined ps qs)

module _ (s : Server) (xs : List StoredPage) where
  -- the pages with those below a number written over them
  abbrev over : ℕ → List StoredPage
  over n = overwritten xs (map to_write (changed_pages s n))

  -- what one page more makes
  abbrev one_more : ℕ → Bool → List StoredPage
  one_more n true = slice_set (over n) n (record { version = s.store.version n; bytes = s.store.bytes n })
  one_more n false = over n

  over_next : (n : ℕ) (b : Bool) → nat_lt s.flushed (s.store.version n) ≡ b → over (suc n) ≡ one_more n b
  over_next n true e = rw e (ap (overwritten xs) (map_joined (changed_pages s n) (stored_page s n ∷ []))
      ∙ over_append xs (map to_write (changed_pages s n)) (to_write (stored_page s n) ∷ []))
  over_next n false e = rw e (ap (overwritten xs) (map_joined (changed_pages s n) [])
      ∙ over_append xs (map to_write (changed_pages s n)) [])

  -- a page that changed
  over_at : (n page : ℕ) → n ≤ length xs → page < n → s.flushed < s.store.version page
      → look (over n) page ≡ record { version = s.store.version page; bytes = s.store.bytes page }
  over_at zero page le lt newer = absurd (omega (arith, lt))
  over_at (suc n) page le lt newer =
      by (λ k. over_at n page (omega (arith, le)) (omega (arith, lt, k)) newer) (cases_eq page n)
    where
      long : length (over n) ≡ length xs
      long = over_length xs (map to_write (changed_pages s n))

      apart : (b : Bool) → page ≢ n → look (one_more n b) page ≡ look (over n) page
      apart true k = get_or-set_other (over n) n page
          (record { version = s.store.version n; bytes = s.store.bytes n }) no_page k
      apart false k = refl

      by : (page ≢ n → look (over n) page
          ≡ record { version = s.store.version page; bytes = s.store.bytes page })
          → (page ≡ n) ⊎ (page ≢ n) → look (over (suc n)) page
          ≡ record { version = s.store.version page; bytes = s.store.bytes page }
      by rest (inl same) =
          let e : nat_lt s.flushed (s.store.version n) ≡ true
          = subst (λ k. nat_lt s.flushed (s.store.version k) ≡ true) same
          (grind (arith, nat_tests, newer)) in
          ap (λ (l : List StoredPage). look l page) (over_next n true e)
          ∙ subst (λ k. look (one_more n true) k
          ≡ record { version = s.store.version k; bytes = s.store.bytes k }) (sym same)
          (get_or-set_same (over n) n
          (record { version = s.store.version n; bytes = s.store.bytes n }) no_page
          (omega (arith, long, le)))
      by rest (inr k) =
          ap (λ (l : List StoredPage). look l page)
          (over_next n (nat_lt s.flushed (s.store.version n)) refl)
          ∙ apart (nat_lt s.flushed (s.store.version n)) k
          ∙ rest k

  -- another
  over_not : (n page : ℕ) → s.store.version page ≤ s.flushed → look (over n) page ≡ look xs page
  over_not zero page old = refl
  over_not (suc n) page old =
      ap (λ (l : List StoredPage). look l page)
      (over_next n (nat_lt s.flushed (s.store.version n)) refl)
      ∙ (by (nat_lt s.flushed (s.store.version n)) refl ∙ over_not n page old)
    where
      by : (b : Bool) → nat_lt s.flushed (s.store.version n) ≡ b
          → look (one_more n b) page ≡ look (over n) page
      by true e = get_or-set_other (over n) n page
          (record { version = s.store.version n; bytes = s.store.bytes n }) no_page
          (λ same. grind (arith, nat_tests, e, old, same))
      by false e = refl

-- ---- the store on disk

abbrev next_if : Server → Bool → Option Batch
next_if s true = Some (record { number = s.store.last_commit; pages = changed_pages s s.pages })
next_if s false = None

abbrev batch_or : Batch → Option Batch → Batch
batch_or b None = b
batch_or b (Some a) = a

-- what the next batch is
pub the_next : (s : Server) (batch : BatchState) → next_batch s ≡ Some (batch_of batch)
    → batch_of batch ≡ record { number = s.store.last_commit; pages = changed_pages s s.pages }
the_next s batch is = go (nat_lt s.flushed s.store.last_commit) refl
  where
    by : (b : Bool) → next_if s b
        ≡ (if b then Some (record { number = s.store.last_commit; pages = changed_pages s s.pages })
        else None)
    by true = refl
    by false = refl

    chosen : (b : Bool) → nat_lt s.flushed s.store.last_commit ≡ b
        → next_if s b ≡ Some (batch_of batch)
    chosen b e = subst (λ (x : Bool). next_if s x ≡ Some (batch_of batch)) e
        (by (nat_lt s.flushed s.store.last_commit) ∙ is)

    go : (b : Bool) → nat_lt s.flushed s.store.last_commit ≡ b → batch_of batch
        ≡ record { number = s.store.last_commit; pages = changed_pages s s.pages }
    go true e = sym (ap (batch_or (batch_of batch)) (chosen true e))
    go false e = absurd (let z : None ≡ Some (batch_of batch) = chosen false e in cc)

module _ (limits : Bounds) (o : Opening) (s : Server) (facts : Facts (limits_of limits) o s)
    (base store : StoreState) (base_of : IsOf limits base) (base_is : o ≡ opening_of base)
    (of : IsOf limits store) (on_disk : ℕ) (told : s.flushed ≤ on_disk)
    (shows : opening_of store ≡ store_on_disk o s on_disk)
    (batch : BatchState) (next : next_batch s ≡ Some (batch_of batch)) where
  is : batch_of batch ≡ record { number = s.store.last_commit; pages = changed_pages s s.pages }
  is = the_next s batch next

  written : overwritten store.pages batch.pages ≡ over s store.pages limits.pages
  written = ap (overwritten store.pages) (sym (batch_pages batch.pages)
      ∙ ap (λ (b : Batch). map to_write b.pages) is
      ∙ ap (λ n. map to_write (changed_pages s n)) facts.pages)

  all : commits_up_to s.store.last_commit s.commits ≡ s.commits
  all = up_to_last o.number s.store.last_commit s.commits facts.books.numbered

  -- no commit is of a page past the last
  past : (page : ℕ) → limits.pages ≤ page → s.store.version page ≡ 0
  past page le = facts.books.version page
      ∙ beyond o.version s.commits limits.pages page facts.within le
      ∙ ap (λ (x : Opening). x.version page) base_is
      ∙ ap (λ (p : StoredPage). p.version)
      (get_or_past base.pages page no_page (let c = base_of.count in omega (arith, c, le)))

  -- a page that changed is one that there is
  there_is : (page : ℕ) → s.flushed < s.store.version page → (r : Bool)
      → nat_lt page limits.pages ≡ r → page < limits.pages
  there_is page newer true f = grind (arith, nat_tests, f)
  there_is page newer false f = absurd
      (let z = past page (grind (arith, nat_tests, f)) in omega (arith, newer, z))

  page_is : (page : ℕ) → (bytes_at (after_batch store batch) page ≡ s.store.bytes page)
      × (version_at (after_batch store batch) page ≡ s.store.version page)
  page_is page = go (nat_lt s.flushed (s.store.version page)) refl
    where
      there : look (overwritten store.pages batch.pages) page
          ≡ look (over s store.pages limits.pages) page
      there = ap (λ (l : List StoredPage). look l page) written

      go : (b : Bool) → nat_lt s.flushed (s.store.version page) ≡ b
          → (bytes_at (after_batch store batch) page ≡ s.store.bytes page)
          × (version_at (after_batch store batch) page ≡ s.store.version page)
      go true e =
          let newer : s.flushed < s.store.version page = grind (arith, nat_tests, e) in
          let lt : page < limits.pages = there_is page newer (nat_lt page limits.pages) refl in
          let at = there ∙ over_at s store.pages limits.pages page
          (let c = of.count in omega (arith, c)) lt newer in
          (ap (λ (p : StoredPage). p.bytes) at, ap (λ (p : StoredPage). p.version) at)
      go false e =
          let old : s.store.version page ≤ s.flushed = grind (arith, nat_tests, e) in
          let at = there ∙ over_not s store.pages limits.pages page old in
          let v = facts.books.version page in
          let same = unchanged on_disk o.bytes o.version s.commits page
          (omega (arith, v, old, told)) in (
            ap (λ (p : StoredPage). p.bytes) at ∙ ap (λ (x : Opening). x.bytes page) shows
                ∙ same.0 ∙ sym (facts.books.bytes page),
            ap (λ (p : StoredPage). p.version) at ∙ ap (λ (x : Opening). x.version page) shows
                ∙ same.1 ∙ sym v,
          )

  number_is : batch.number ≡ s.store.last_commit
  number_is = ap (λ (b : Batch). b.number) is

  -- the store with the batch is that on disk up to the batch's number
  pub batch_on_disk : opening_of (after_batch store batch) ≡ store_on_disk o s batch.number
  batch_on_disk = λ i. record {
    bytes = λ page. ((page_is page).0 ∙ facts.books.bytes page
        ∙ ap (λ (l : List AppliedCommit). bytes_after o.bytes l page) (sym all)
        ∙ ap (λ n. bytes_after o.bytes (commits_up_to n s.commits) page) (sym number_is)) i;
    version = λ page. ((page_is page).1 ∙ facts.books.version page
        ∙ ap (λ (l : List AppliedCommit). version_after o.version l page) (sym all)
        ∙ ap (λ n. version_after o.version (commits_up_to n s.commits) page) (sym number_is)) i;
    number = batch.number;
  }

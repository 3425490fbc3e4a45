-- Lists that are kept oldest first, or with values beside the pages.
use Rattle.std.proofs.Common.{◌≡◌, true, false, true≢false, cond, nat_eq, ◌-◌, ◌||◌, take, take_all, ◌<◌, suc, ◌+◌, ℕ, Bool, List, [], ◌∷◌, ◌++◌, length, drop, reverse, Some, None, if◌then◌else◌, refl, sym, ◌∙◌, ap, rules, arith, is_some}
use Rattle.std.proofs.Math.ListN.{get_or}
use Rattle.std.proofs.Math.Seq.{drop-cons}
use Rattle.std.proofs.lemmas.List.{reverse-append}
use Rattle.std.proofs.lemmas.List.Sorted.{IsPermutation-reverse, list_any-IsPermutation}
use Rattle.std.proofs.lemmas.Grind.{common_steps}
use Rattle.std.proofs.lemmas.Map.Entries.{length-keys_of}
use Rattle.std.specs.Map.{keys_of, lookup, lookup_entry, remove_entry}
use Rattle.std.specs.Set.{remove_key}
use Rattle.std.specs.Option.{option_map_or}
use Rattle.indexmap.specs.IndexSet.{insert_key}
use Rattle.lru.specs.LruCache.{LruCache, put_entries, promoted}
use Rattle.cb_page.specs.Flags as flags
use Rattle.cb_twoq.specs.Pages.{has, without}
use Rattle.cb_twoq.specs.Queues.{oldest_unfixed}
use Rattle.cb_twoq.proofs.PageLists.{oldest_unfixed_push}

-- a page is on a list and on its reverse
pub has_reverse : (page : ℕ) (pages : List ℕ) → has (reverse pages) page ≡ has pages page
has_reverse page pages = sym (list_any-IsPermutation (nat_eq page) pages (reverse pages) (IsPermutation-reverse pages))

-- one page more at the end
pub reverse_cons : (page : ℕ) (pages : List ℕ) → reverse (page ∷ pages) ≡ reverse pages ++ page ∷ []
reverse_cons page pages = reverse-append (page ∷ []) pages

-- put into a set where it isn't yet, it is the newest
pub newest_added : (page : ℕ) (keys : List ℕ) → has (reverse keys) page ≡ false → reverse (insert_key nat_eq keys page) ≡ page ∷ reverse keys
newest_added page keys out =
    ap (λ b. reverse (if b then keys else keys ++ page ∷ [])) (sym (has_reverse page keys) ∙ out) ∙ reverse-append keys (page ∷ [])

-- a page is taken off a list with another at its end
pub without_push : (page last : ℕ) (pages : List ℕ) → nat_eq page last ≡ false → without page (pages ++ last ∷ []) ≡ without page pages ++ last ∷ []
without_push page last [] other = ap (λ b. if b then [] else last ∷ []) other
without_push page last (first ∷ rest) other = by (nat_eq page first) refl (without_push page last rest other)
  where
    by : (b : Bool) → nat_eq page first ≡ b → without page (rest ++ last ∷ []) ≡ without page rest ++ last ∷ []
        → without page ((first ∷ rest) ++ last ∷ []) ≡ without page (first ∷ rest) ++ last ∷ []
    by true e rest_is =
        ap (λ b. if b then rest ++ last ∷ [] else first ∷ without page (rest ++ last ∷ [])) e
        ∙ sym (ap (λ b. (if b then rest else first ∷ without page rest) ++ last ∷ []) e)
    by false e rest_is =
        ap (λ b. if b then rest ++ last ∷ [] else first ∷ without page (rest ++ last ∷ [])) e ∙ ap (λ l. first ∷ l) rest_is
        ∙ sym (ap (λ b. (if b then rest else first ∷ without page rest) ++ last ∷ []) e)

-- a page is taken off the end of a list where it isn't before
pub without_last : (page last : ℕ) (pages : List ℕ) → nat_eq page last ≡ true → has pages page ≡ false → without page (pages ++ last ∷ []) ≡ pages
without_last page last [] same out = ap (λ b. if b then [] else last ∷ []) same
without_last page last (first ∷ rest) same out = by (nat_eq page first) refl (without_last page last rest same)
  where
    by : (b : Bool) → nat_eq page first ≡ b → (has rest page ≡ false → without page (rest ++ last ∷ []) ≡ rest)
        → without page ((first ∷ rest) ++ last ∷ []) ≡ first ∷ rest
    by true e rest_is = absurd (true≢false (sym (ap (λ c. c || has rest page) e) ∙ out))
    by false e rest_is =
        ap (λ b. if b then rest ++ last ∷ [] else first ∷ without page (rest ++ last ∷ [])) e
        ∙ ap (λ l. first ∷ l) (rest_is (sym (ap (λ c. c || has rest page) e) ∙ out))

-- taken out of a set that then lacks it, as off the list
pub newest_removed : (page : ℕ) (keys : List ℕ) → has (remove_key (nat_eq page) keys) page ≡ false
    → reverse (remove_key (nat_eq page) keys) ≡ without page (reverse keys)
newest_removed page [] out = refl
newest_removed page (first ∷ rest) out = by (nat_eq page first) refl out (newest_removed page rest)
  where
    by : (b : Bool) → nat_eq page first ≡ b → has (cond b rest (first ∷ remove_key (nat_eq page) rest)) page ≡ false
        → (has (remove_key (nat_eq page) rest) page ≡ false → reverse (remove_key (nat_eq page) rest) ≡ without page (reverse rest))
        → reverse (cond b rest (first ∷ remove_key (nat_eq page) rest)) ≡ without page (reverse (first ∷ rest))
    by true e out rest_is =
        sym (ap (without page) (reverse_cons first rest) ∙ without_last page first (reverse rest) e (has_reverse page rest ∙ out))
    by false e out rest_is =
        reverse_cons first (remove_key (nat_eq page) rest)
        ∙ ap (λ l. l ++ first ∷ []) (rest_is (sym (ap (λ c. c || has (remove_key (nat_eq page) rest) page) e) ∙ out))
        ∙ sym (ap (without page) (reverse_cons first rest) ∙ without_push page first (reverse rest) e)

-- the pages of a cache, with one page more at its end
pub keys_push : {V : Type 0} (entries : List (ℕ × V)) (last : ℕ × V) → keys_of (entries ++ last ∷ []) ≡ keys_of entries ++ last.0 ∷ []
keys_push [] last = refl
keys_push (first ∷ rest) last = ap (λ l. first.0 ∷ l) (keys_push rest last)

-- a page is found where it is among the pages of a cache
pub found : {V : Type 0} (page : ℕ) (entries : List (ℕ × V)) → is_some (lookup (nat_eq page) entries) ≡ has (keys_of entries) page
found page [] = refl
found page (first ∷ rest) = by (nat_eq page first.0) refl (found page rest)
  where
    by : (b : Bool) → nat_eq page first.0 ≡ b → is_some (lookup (nat_eq page) rest) ≡ has (keys_of rest) page
        → is_some (lookup (nat_eq page) (first ∷ rest)) ≡ has (keys_of (first ∷ rest)) page
    by true e rest_is = search (rules, e, rest_is)
    by false e rest_is = search (rules, e, rest_is)

-- a page that isn't there isn't found
pub not_found : {V : Type 0} (page : ℕ) (entries : List (ℕ × V)) → has (keys_of entries) page ≡ false → lookup_entry (nat_eq page) entries ≡ None
not_found page [] h = refl
not_found page (first ∷ rest) h = by (nat_eq page first.0) refl (not_found page rest)
  where
    by : (b : Bool) → nat_eq page first.0 ≡ b → (has (keys_of rest) page ≡ false → lookup_entry (nat_eq page) rest ≡ None) → lookup_entry (nat_eq page) (first ∷ rest) ≡ None
    by true t rest_is = absurd (true≢false (sym (ap (λ c. c || has (keys_of rest) page) t) ∙ h))
    by false t rest_is = ap (λ c. cond c (Some first) (lookup_entry (nat_eq page) rest)) t ∙ rest_is (sym (ap (λ c. c || has (keys_of rest) page) t) ∙ h)

-- a page put into a cache with room, where it isn't yet, goes first and pushes nothing out
pub put_new : (cache : LruCache ℕ (Unit {0})) (page : ℕ) (v : Unit {0}) → has (keys_of cache.entries) page ≡ false → length (keys_of cache.entries) < cache.cap
    → keys_of (put_entries nat_eq cache page v) ≡ page ∷ keys_of cache.entries
put_new cache page v out room =
    ap (λ o. keys_of (option_map_or (λ e. (e.0, v) ∷ remove_entry (nat_eq page) cache.entries) o ((page, v) ∷ take (cache.cap - 1) cache.entries))) (not_found page cache.entries out)
    ∙ ap (λ l. page ∷ keys_of l) (take_all (cache.cap - 1) cache.entries (let l = length-keys_of cache.entries in omega arith))

-- taken out of a cache, as off the list
pub cached_removed : {V : Type 0} (page : ℕ) (entries : List (ℕ × V)) → keys_of (remove_entry (nat_eq page) entries) ≡ without page (keys_of entries)
cached_removed page [] = refl
cached_removed page (first ∷ rest) = by (nat_eq page first.0) refl (cached_removed page rest)
  where
    by : (b : Bool) → nat_eq page first.0 ≡ b → keys_of (remove_entry (nat_eq page) rest) ≡ without page (keys_of rest)
        → keys_of (remove_entry (nat_eq page) (first ∷ rest)) ≡ without page (keys_of (first ∷ rest))
    by true e rest_is = search (rules, e, rest_is)
    by false e rest_is = search (rules, e, rest_is)

-- the entry of a page that is there
pub found_entry : (page : ℕ) (entries : List (ℕ × Unit {0})) → has (keys_of entries) page ≡ true → lookup_entry (nat_eq page) entries ≡ Some (page, tt)
found_entry page [] there = absurd (true≢false (sym there))
found_entry page (first ∷ rest) there = by (nat_eq page first.0) refl (found_entry page rest)
  where
    by : (b : Bool) → nat_eq page first.0 ≡ b → (has (keys_of rest) page ≡ true → lookup_entry (nat_eq page) rest ≡ Some (page, tt))
        → lookup_entry (nat_eq page) (first ∷ rest) ≡ Some (page, tt)
    by true e rest_is =
        let same : first.0 ≡ page = grind (arith, common_steps) in
        ap (λ c. cond c (Some first) (lookup_entry (nat_eq page) rest)) e ∙ ap (λ p. Some (p, first.1)) same
    by false e rest_is =
        ap (λ c. cond c (Some first) (lookup_entry (nat_eq page) rest)) e ∙ rest_is (sym (ap (λ c. c || has (keys_of rest) page) e) ∙ there)

-- a page of a cache moves to its head
pub cached_renewed : (page : ℕ) (entries : List (ℕ × Unit {0}))
    → keys_of (promoted (nat_eq page) entries) ≡ (if has (keys_of entries) page then page ∷ without page (keys_of entries) else keys_of entries)
cached_renewed page entries = by (has (keys_of entries) page) refl
  where
    by : (b : Bool) → has (keys_of entries) page ≡ b
        → keys_of (promoted (nat_eq page) entries) ≡ (if has (keys_of entries) page then page ∷ without page (keys_of entries) else keys_of entries)
    by true h =
        ap (λ o. keys_of (option_map_or (λ e. e ∷ remove_entry (nat_eq page) entries) o entries)) (found_entry page entries h)
        ∙ ap (λ l. page ∷ l) (cached_removed page entries)
        ∙ sym (ap (λ b. if b then page ∷ without page (keys_of entries) else keys_of entries) h)
    by false h =
        ap (λ o. keys_of (option_map_or (λ e. e ∷ remove_entry (nat_eq page) entries) o entries)) (not_found page entries h)
        ∙ sym (ap (λ b. if b then page ∷ without page (keys_of entries) else keys_of entries) h)

-- one page further from the front
pub first_unfixed_step : (fixed : List Bool) (pages : List ℕ) (i x : ℕ) → i < length pages → x ≡ get_or pages i x → oldest_unfixed fixed (reverse (drop i pages)) ≡ oldest_unfixed fixed (reverse pages)
    → oldest_unfixed fixed (reverse pages) ≡ (if flags.has fixed x then oldest_unfixed fixed (reverse (drop (i + 1) pages)) else Some x)
first_unfixed_step fixed pages i x lt at so =
    let next : suc i ≡ i + 1 = omega arith in
    sym so ∙ ap (λ l. oldest_unfixed fixed (reverse l)) (drop-cons pages i x lt)
    ∙ ap (oldest_unfixed fixed) (reverse_cons (get_or pages i x) (drop (suc i) pages))
    ∙ oldest_unfixed_push fixed (reverse (drop (suc i) pages)) (get_or pages i x)
    ∙ ap (λ y. if flags.has fixed y then oldest_unfixed fixed (reverse (drop (suc i) pages)) else Some y) (sym at)
    ∙ ap (λ k. if flags.has fixed x then oldest_unfixed fixed (reverse (drop k pages)) else Some x) next

-- one page further from the end
pub last_unfixed_step : {V : Type 0} (fixed : List Bool) (all old new : List (ℕ × V)) (last : ℕ × V) → old ≡ new ++ last ∷ [] → oldest_unfixed fixed (keys_of old) ≡ oldest_unfixed fixed (keys_of all)
    → oldest_unfixed fixed (keys_of all) ≡ (if flags.has fixed last.0 then oldest_unfixed fixed (keys_of new) else Some last.0)
last_unfixed_step fixed all old new last at so =
    sym so ∙ ap (λ l. oldest_unfixed fixed (keys_of l)) at ∙ ap (oldest_unfixed fixed) (keys_push new last) ∙ oldest_unfixed_push fixed (keys_of new) last.0

-- A store with a server's first commits written over it: as it is replayed, and as the protocol has it.
use Rattle.std.proofs.Common.{◌≡◌, ◌+◌, ◌-◌, ◌<◌, ◌≤◌, ◌∙◌, ℕ, Bool, true, false, List, [], ◌∷◌, ◌++◌, length, map, take, get_or, nat_le, if◌then◌else◌, refl, ap, sym, subst, suc, zero, arith, Result, Ok, Err, OnOk, true≢false}
use Rattle.std.specs.Result.{is_err}
use Rattle.std.specs.List.{All}
use mathlib.Core.List.{reverse-cons}
use Rattle.std.proofs.lemmas.List.{length-map, length-reverse, length-take-le, take_more}
use Rattle.cb_commit.proofs.Rewriting.{rewritten_length}
use Rattle.cb_commit.specs.History.{CommitsState, FitsInto, Numbered, applied, store_after, written}
use Rattle.cb_commit.specs.Stores.{StoreState, bytes_at, version_at}
use Rattle.cb_commit.specs.declared.commit.Commit.{Commit}
use Rattle.cb_protocol.proofs.LivesHistory.{bytes_append, version_append}
use Rattle.cb_protocol.specs.AnyMessages.{bytes_after, version_after}
use Rattle.cb_protocol.specs.Basics.{Bytes}
use Rattle.cb_protocol.specs.LivesWorld.{commits_up_to}
use Rattle.cb_protocol.specs.Messages.{write_of_page}
use Rattle.cb_protocol.specs.Server.{AppliedCommit}
use Rattle.cb_protocol.specs.Session.{new_bytes, new_version}
use Rattle.cb_server_state.proofs.Committed.{bytes_written, version_written}
use Rattle.cb_server_state.specs.Commits.{applied_commit}
use Rattle.cb_server_state.specs.States.{newest_first, opening_of}
use Rattle.cb_schedule.specs.NextLife.{FitsStore}

store_append : (cs ds : List Commit) (s : StoreState) → store_after s (cs ++ ds) ≡ store_after (store_after s cs) ds
store_append [] ds s = refl
store_append (c ∷ cs) ds s = store_append cs ds (written s c)

pub store_length : (cs : List Commit) (s : StoreState) → length (store_after s cs).pages ≡ length s.pages
store_length [] s = refl
store_length (c ∷ cs) s = store_length cs (written s c) ∙ rewritten_length c.writes c.number s.pages

pub store_size : (cs : List Commit) (s : StoreState) → (store_after s cs).page_size ≡ s.page_size
store_size [] s = refl
store_size (c ∷ cs) s = store_size cs (written s c)

pub store_number : (cs : List Commit) (s : StoreState) → Numbered s.number cs → (store_after s cs).number ≡ s.number + length cs
store_number [] s h = omega arith
store_number (c ∷ cs) s h =
    let e = store_number cs (written s c) (subst (λ (n : ℕ). Numbered n cs) (sym h.0) h.1) in
    let f = h.0 in omega (arith, e, f)

pub numbered_take : (n : ℕ) (cs : List Commit) (last : ℕ) → Numbered last cs → Numbered last (take n cs)
numbered_take zero cs last h = tt
numbered_take (suc n) [] last h = tt
numbered_take (suc n) (c ∷ cs) last h = (h.0, numbered_take n cs (last + 1) h.1)

numbered_at : (k : ℕ) (cs : List Commit) (last : ℕ) (d : Commit) → Numbered last cs → k < length cs → (get_or cs k d).number ≡ last + k + 1
numbered_at k [] last d h l = absurd (omega (arith, l))
numbered_at zero (c ∷ cs) last d h l = let e = h.0 in omega (arith, e)
numbered_at (suc k) (c ∷ cs) last d h l = let e = numbered_at k cs (last + 1) d h.1 (omega (arith, l)) in omega (arith, e)

-- the commits over a store, none of which is reported as on disk
abbrev pub replayed : StoreState → List Commit → CommitsState
replayed s cs = record { opening = s; store = store_after s cs; commits = cs; forgotten = 0; flushed = s.number }

-- what was refused isn't here
pub on_ok : {A E : Type 0} (r : Result A E) (X : Type 0) → is_err r ≡ false → OnOk r X → X
on_ok (Ok a) X e x = x
on_ok (Err b) X e x = absurd (true≢false e)

-- the number that the next one gets
next_number : (s : StoreState) (i : ℕ) (cs : List Commit) (c : Commit) → Numbered s.number cs → i < length cs → c ≡ get_or cs i c → (store_after s (take i cs)).number + 1 ≡ c.number
next_number s i cs c h l e =
    let a = store_number (take i cs) s (numbered_take i cs s.number h) in
    let b = length-take-le i cs (omega (arith, l)) in
    let n = numbered_at i cs s.number c h l in
    let m = ap (λ (x : Commit). x.number) e in
    omega (arith, a, b, n, m)

-- one more is applied
pub replayed_more : (s : StoreState) (i : ℕ) (cs : List Commit) (c : Commit) (old : CommitsState) → Numbered s.number cs → i < length cs → c ≡ get_or cs i c → old ≡ replayed s (take i cs)
    → applied old (record { client = c.client; incarnation = c.incarnation; txn = c.txn; number = old.store.number + 1; writes = c.writes }) ≡ replayed s (take (i + 1) cs)
replayed_more s i cs c old h l e was =
    let n = next_number s i cs c h l e in
    let same : record { client = c.client; incarnation = c.incarnation; txn = c.txn; number = (store_after s (take i cs)).number + 1; writes = c.writes } ≡ c =
    λ k. record { client = c.client; incarnation = c.incarnation; txn = c.txn; number = n k; writes = c.writes } in
    let one : take (i + 1) cs ≡ take i cs ++ c ∷ [] = take_more cs i c l ∙ ap (λ (x : Commit). take i cs ++ x ∷ []) (sym e) in
    ap (λ (o : CommitsState). applied o (record { client = c.client; incarnation = c.incarnation; txn = c.txn; number = o.store.number + 1; writes = c.writes })) was
    ∙ ap (applied (replayed s (take i cs))) same
    ∙ (λ k. record { opening = s; store = sym (store_append (take i cs) (c ∷ []) s) k; commits = take i cs ++ c ∷ []; forgotten = 0; flushed = s.number })
    ∙ ap (replayed s) (sym one)

-- there is a number for it
pub number_left : (s : StoreState) (i most : ℕ) (cs : List Commit) (old : CommitsState) → Numbered s.number cs → i < length cs → s.number + length cs ≤ most → old ≡ replayed s (take i cs) → old.store.number + 1 ≤ most
number_left s i most cs old h l m was =
    let a = store_number (take i cs) s (numbered_take i cs s.number h) in
    let b = length-take-le i cs (omega (arith, l)) in
    let e = ap (λ (o : CommitsState). o.store.number) was in
    omega (arith, a, b, m, e)

-- what fits into the store fits into it after commits
pub fits_then : (s : StoreState) (i : ℕ) (cs : List Commit) (c : Commit) (old : CommitsState) → All (FitsStore s) cs → i < length cs → c ≡ get_or cs i c → old ≡ replayed s (take i cs) → FitsInto old.store c.writes
fits_then s i cs c old all l e was =
    let f = subst (λ (x : Commit). FitsInto s x.writes) (sym e) (all i c l) in
    subst (λ (o : CommitsState). FitsInto o.store c.writes) (sym was) (record {
      pages = λ k d m. record {
        page = subst (λ (n : ℕ). (get_or c.writes k d).page < n) (sym (store_length (take i cs) s)) (f.pages k d m).page;
        bytes = (f.pages k d m).bytes ∙ sym (store_size (take i cs) s);
      };
      rising = f.rising;
    })

newest_cons : (c : Commit) (cs : List Commit) → newest_first (c ∷ cs) ≡ newest_first cs ++ applied_commit c ∷ []
newest_cons c cs = reverse-cons (applied_commit c) (map applied_commit cs)

bytes_along : (o p : ℕ → Bytes) (xs : List AppliedCommit) (q : ℕ) → ((r : ℕ) → o r ≡ p r) → bytes_after o xs q ≡ bytes_after p xs q
bytes_along o p [] q e = e q
bytes_along o p (x ∷ xs) q e = ap (new_bytes (write_of_page x.writes q)) (bytes_along o p xs q e)

versions_along : (o p : ℕ → ℕ) (xs : List AppliedCommit) (q : ℕ) → ((r : ℕ) → o r ≡ p r) → version_after o xs q ≡ version_after p xs q
versions_along o p [] q e = e q
versions_along o p (x ∷ xs) q e = ap (new_version (write_of_page x.writes q) x.number) (versions_along o p xs q e)

fits_written : (s : StoreState) (c : Commit) (cs : List Commit) → All (FitsStore s) cs → All (FitsStore (written s c)) cs
fits_written s c cs all k d l = let f = all k d l in record {
  pages = λ j w m. record {
    page = subst (λ (n : ℕ). (get_or (get_or cs k d).writes j w).page < n) (sym (rewritten_length c.writes c.number s.pages)) (f.pages j w m).page;
    bytes = (f.pages j w m).bytes;
  };
  rising = f.rising;
}

behind : (s : StoreState) (c : Commit) (cs : List Commit) → All (FitsStore s) (c ∷ cs) → All (FitsStore s) cs
behind s c cs all k d l = all (suc k) d (omega (arith, l))

-- the bytes that commits leave, as the protocol has them
pub bytes_left : (s : StoreState) (cs : List Commit) (p : ℕ) → All (FitsStore s) cs → bytes_at (store_after s cs) p ≡ bytes_after (bytes_at s) (newest_first cs) p
bytes_left s [] p all = refl
bytes_left s (c ∷ cs) p all =
    bytes_left (written s c) cs p (fits_written s c cs (behind s c cs all))
    ∙ bytes_along (bytes_at (written s c)) (bytes_after (bytes_at s) (applied_commit c ∷ [])) (newest_first cs) p (λ q. bytes_written s c.writes c.number q (all 0 c (omega arith)))
    ∙ sym (bytes_append (bytes_at s) (newest_first cs) (applied_commit c ∷ []) p)
    ∙ ap (λ (xs : List AppliedCommit). bytes_after (bytes_at s) xs p) (sym (newest_cons c cs))

pub versions_left : (s : StoreState) (cs : List Commit) (p : ℕ) → All (FitsStore s) cs → version_at (store_after s cs) p ≡ version_after (version_at s) (newest_first cs) p
versions_left s [] p all = refl
versions_left s (c ∷ cs) p all =
    versions_left (written s c) cs p (fits_written s c cs (behind s c cs all))
    ∙ versions_along (version_at (written s c)) (version_after (version_at s) (applied_commit c ∷ [])) (newest_first cs) p (λ q. version_written s c.writes c.number q (all 0 c (omega arith)))
    ∙ sym (version_append (version_at s) (newest_first cs) (applied_commit c ∷ []) p)
    ∙ ap (λ (xs : List AppliedCommit). version_after (version_at s) xs p) (sym (newest_cons c cs))

-- the oldest one is on disk, or none is
up_to_kept : (n : ℕ) (xs : List AppliedCommit) (x : AppliedCommit) → x.number ≤ n → commits_up_to n (xs ++ x ∷ []) ≡ commits_up_to n xs ++ x ∷ []
up_to_kept n [] x l = go (nat_le x.number n) refl
  where
    go : (r : Bool) → nat_le x.number n ≡ r → (if r then x ∷ [] else []) ≡ x ∷ []
    go true e = refl
    go false e = absurd (grind arith)
up_to_kept n (y ∷ xs) x l = go (nat_le y.number n) (up_to_kept n xs x l)
  where
    go : (r : Bool) → commits_up_to n (xs ++ x ∷ []) ≡ commits_up_to n xs ++ x ∷ [] → (if r then y ∷ (xs ++ x ∷ []) else commits_up_to n (xs ++ x ∷ [])) ≡ (if r then y ∷ xs else commits_up_to n xs) ++ x ∷ []
    go true e = refl
    go false e = e

up_to_none : (n : ℕ) (xs : List AppliedCommit) (x : AppliedCommit) → n < x.number → commits_up_to n xs ≡ [] → commits_up_to n (xs ++ x ∷ []) ≡ []
up_to_none n [] x l none = go (nat_le x.number n) refl
  where
    go : (r : Bool) → nat_le x.number n ≡ r → (if r then x ∷ [] else []) ≡ []
    go true e = absurd (grind arith)
    go false e = refl
up_to_none n (y ∷ xs) x l none = go (nat_le y.number n) (up_to_none n xs x l) none
  where
    go : (r : Bool) → (commits_up_to n xs ≡ [] → commits_up_to n (xs ++ x ∷ []) ≡ []) → (if r then y ∷ xs else commits_up_to n xs) ≡ [] → (if r then y ∷ (xs ++ x ∷ []) else commits_up_to n (xs ++ x ∷ [])) ≡ []
    go true f e = absurd cc
    go false f e = f e

none_up_to : (n last : ℕ) (cs : List Commit) → Numbered last cs → n ≤ last → commits_up_to n (newest_first cs) ≡ []
none_up_to n last [] h l = refl
none_up_to n last (c ∷ cs) h l = ap (commits_up_to n) (newest_cons c cs)
    ∙ up_to_none n (newest_first cs) (applied_commit c) (let e = h.0 in omega (arith, l, e)) (none_up_to n (last + 1) cs h.1 (omega (arith, l)))

-- the commits up to a number are the first ones, so many
pub first_up_to : (count last : ℕ) (cs : List Commit) → Numbered last cs → commits_up_to (last + count) (newest_first cs) ≡ newest_first (take count cs)
first_up_to zero last cs h = none_up_to (last + zero) last cs h (omega arith)
first_up_to (suc n) last [] h = refl
first_up_to (suc n) last (c ∷ cs) h =
    let same : last + suc n ≡ (last + 1) + n = omega arith in
    ap (commits_up_to (last + suc n)) (newest_cons c cs)
    ∙ up_to_kept (last + suc n) (newest_first cs) (applied_commit c) (let e = h.0 in omega (arith, e))
    ∙ ap (λ (m : ℕ). commits_up_to m (newest_first cs) ++ applied_commit c ∷ []) same
    ∙ ap (λ (xs : List AppliedCommit). xs ++ applied_commit c ∷ []) (first_up_to n (last + 1) cs h.1)
    ∙ sym (newest_cons c (take n cs))

pub newest_length : (cs : List Commit) → length (newest_first cs) ≡ length cs
newest_length cs = length-reverse (map applied_commit cs) ∙ length-map cs applied_commit

-- the store that a life leaves, as the protocol has it
pub disk_opening : (s : StoreState) (number : ℕ) (cs : List Commit) → Numbered s.number cs → All (FitsStore s) (take (number - s.number) cs) → s.number ≤ number → number ≤ s.number + length cs
    → record {
      bytes = bytes_after (opening_of s).bytes (commits_up_to number (newest_first cs));
      version = version_after (opening_of s).version (commits_up_to number (newest_first cs));
      number = number;
    } ≡ opening_of (store_after s (take (number - s.number) cs))
disk_opening s number cs h all l m =
    let count = number - s.number in
    let whole : number ≡ s.number + count = omega (arith, l) in
    let firsts : commits_up_to number (newest_first cs) ≡ newest_first (take count cs) = ap (λ (n : ℕ). commits_up_to n (newest_first cs)) whole ∙ first_up_to count s.number cs h in
    let last : number ≡ (store_after s (take count cs)).number =
    (let a = store_number (take count cs) s (numbered_take count cs s.number h) in let b = length-take-le count cs (omega (arith, m, l)) in omega (arith, a, b, whole)) in
    (λ k. record { bytes = bytes_after (bytes_at s) (firsts k); version = version_after (version_at s) (firsts k); number = last k })
    ∙ (λ k. record { bytes = λ p. sym (bytes_left s (take count cs) p all) k; version = λ p. sym (versions_left s (take count cs) p all) k; number = (store_after s (take count cs)).number })

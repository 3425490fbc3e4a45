-- What is known of the pages once one of them is changed.
use Rattle.std.proofs.Common.{◌≡◌, ◌≢◌, ◌<◌, ◌==◌, ℕ, Bool, true, false, List, length, replicate, zero, suc, slice_set, slice_index_or, Option, Some, None, IfSome, refl, sym, ◌∙◌, ap, arith}
use Rattle.std.proofs.Math.ListN.{length-set}
use Rattle.std.proofs.lemmas.List.{get_or-set_same, get_or-set_other}
use Rattle.std.proofs.lemmas.Bool.Decides.{nat_tests}
use Rattle.cb_page.specs.Flags.{has}
use Rattle.cb_pool.specs.PoolState.{let_go}
use Rattle.cb_protocol.specs.Basics.{update}
use Rattle.cb_cache.specs.Rows.{no_copy, row_at}
use Rattle.cb_cache.specs.declared.table.PageCopy.{PageCopy}

-- one entry of a list is replaced
pub put_entry : {A : Type 0} (default : A) (entries : List A) (page q : ℕ) (entry : A) → page < length entries
    → update (λ p. slice_index_or entries p default) page entry q ≡ slice_index_or (slice_set entries page entry) q default
put_entry default entries page q entry lt = by (q == page) refl
  where
    by : (b : Bool) → (q == page) ≡ b → update (λ p. slice_index_or entries p default) page entry q ≡ slice_index_or (slice_set entries page entry) q default
    by true e = let same : q ≡ page = grind (arith, nat_tests) in rw (e, same) (sym (get_or-set_same entries page entry default lt))
    by false e = let other : q ≢ page = grind (arith, nat_tests) in rw e (sym (get_or-set_other entries page q entry default other))

-- a field of each row, where one row is put
pub put_field : {A : Type 0} (f : PageCopy → A) (rows : List PageCopy) (page q : ℕ) (row : PageCopy) → page < length rows
    → update (λ p. f (row_at rows p)) page (f row) q ≡ f (row_at (slice_set rows page row) q)
put_field f rows page q row lt = by (q == page) refl
  where
    by : (b : Bool) → (q == page) ≡ b → update (λ p. f (row_at rows p)) page (f row) q ≡ f (row_at (slice_set rows page row) q)
    by true e = let same : q ≡ page = grind (arith, nat_tests) in rw (e, same) (ap f (sym (get_or-set_same rows page row no_copy lt)))
    by false e = let other : q ≢ page = grind (arith, nat_tests) in rw e (ap f (sym (get_or-set_other rows page q row no_copy other)))

-- a field that the row put has as before
pub put_same : {A : Type 0} (f : PageCopy → A) (rows : List PageCopy) (page q : ℕ) (row : PageCopy) → page < length rows → f (row_at rows page) ≡ f row
    → f (row_at rows q) ≡ f (row_at (slice_set rows page row) q)
put_same f rows page q row lt e = by (q == page) refl
  where
    by : (b : Bool) → (q == page) ≡ b → f (row_at rows q) ≡ f (row_at (slice_set rows page row) q)
    by true t = let same : q ≡ page = grind (arith, nat_tests) in rw same (e ∙ ap f (sym (get_or-set_same rows page row no_copy lt)))
    by false t = let other : q ≢ page = grind (arith, nat_tests) in ap f (sym (get_or-set_other rows page q row no_copy other))

-- the bytes of each page, where one is let go, or none, and one is put
abbrev pub without_bytes : (ℕ → Option (List ℕ)) → Option ℕ → ℕ → Option (List ℕ)
without_bytes content None = content
without_bytes content (Some gone) = update content gone None

pub pool_brings : (pages : List (Option (List ℕ))) (gone : Option ℕ) (page q : ℕ) (bytes : Option (List ℕ)) → page < length pages → IfSome gone (λ g. g < length pages)
    → update (without_bytes (λ p. slice_index_or pages p None) gone) page bytes q ≡ slice_index_or (slice_set (let_go gone pages) page bytes) q None
pool_brings pages None page q bytes lt within = put_entry None pages page q bytes lt
pool_brings pages (Some gone) page q bytes lt within =
    (λ i. update (λ p. put_entry None pages gone p None within i) page bytes q)
    ∙ put_entry None (slice_set pages gone None) page q bytes (let l = length-set pages gone None in omega arith)

-- no page is in an empty set
pub none_in : (n q : ℕ) → false ≡ has (replicate n false) q
none_in zero q = refl
none_in (suc n) zero = refl
none_in (suc n) (suc q) = none_in n q

-- one entry goes, another comes, and the first goes again
pub go_first : {A : Type 0} (entries : ℕ → Option A) (gone page : ℕ) (new : Option A) (q : ℕ) → gone ≢ page
    → update (update (update entries gone None) page new) gone None q ≡ update (update entries gone None) page new q
go_first entries gone page new q other = by (q == gone) refl (q == page) refl
  where
    by : (b : Bool) → (q == gone) ≡ b → (c : Bool) → (q == page) ≡ c
        → update (update (update entries gone None) page new) gone None q ≡ update (update entries gone None) page new q
    by true e true f = absurd (let a : q ≡ gone = grind (arith, nat_tests) in let b : q ≡ page = grind (arith, nat_tests) in other (sym a ∙ b))
    by true e false f = rw (e, f) refl
    by false e c f = rw e refl

-- one entry comes, and another goes
pub go_last : {A : Type 0} (entries : ℕ → Option A) (gone page : ℕ) (new : Option A) (q : ℕ) → gone ≢ page
    → update (update entries page new) gone None q ≡ update (update entries gone None) page new q
go_last entries gone page new q other = by (q == gone) refl (q == page) refl
  where
    by : (b : Bool) → (q == gone) ≡ b → (c : Bool) → (q == page) ≡ c → update (update entries page new) gone None q ≡ update (update entries gone None) page new q
    by true e true f = absurd (let a : q ≡ gone = grind (arith, nat_tests) in let b : q ≡ page = grind (arith, nat_tests) in other (sym a ∙ b))
    by true e false f = rw (e, f) refl
    by false e c f = rw e refl

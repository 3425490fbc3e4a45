-- The flags of the pages of which anything is known.
use Rattle.std.proofs.Common.{◌≡◌, true≢false, ℕ, suc, zero, Bool, false, nat_lt, ◌||◌, List, ◌∷◌, length, map, replicate, Option, Some, None, slice_set, refl, sym, ◌∙◌, ap, arith}
use Rattle.std.proofs.Math.ListN.{get_or-map}
use Rattle.std.proofs.lemmas.List.{length-map, map-set}
use Rattle.std.proofs.lemmas.Bool.Decides.{nat_tests}
use Rattle.std.specs.Option.{is_some}
use Rattle.cb_page.specs.Flags.{has}
use Rattle.cb_cache.specs.declared.table.PageCopy.{PageCopy}
use Rattle.cb_cache.specs.Rows.{is_known, no_copy, row_at}

-- of a page of which nothing is known no grant ever came
nothing : (row : PageCopy) → is_known row ≡ false → row ≡ no_copy
nothing row none = by row.seen row.held row.tag row.version none
  where
    by : (seen held tag : Option ℕ) (version : ℕ) → (is_some seen || is_some held || is_some tag || nat_lt 0 version) ≡ false
        → record { seen = seen; held = held; version = version; tag = tag } ≡ no_copy
    by None None None n none =
        let none_yet : n ≡ 0 = grind (arith, nat_tests) in
        λ i. record { seen = None; held = None; version = none_yet i; tag = None }
    by None None (Some tag) n none = absurd (true≢false none)
    by None (Some held) tag n none = absurd (true≢false none)
    by (Some seen) held tag n none = absurd (true≢false none)

-- of a page whose flag isn't set no grant ever came
pub not_known : (rows : List PageCopy) (known : List Bool) (page : ℕ) → known ≡ map is_known rows → has known page ≡ false → row_at rows page ≡ no_copy
not_known rows known page are none = nothing _ (sym (get_or-map is_known rows page no_copy) ∙ sym (ap (λ k. has k page) are) ∙ none)

-- each page has a flag
pub known_long : (rows : List PageCopy) (known : List Bool) → known ≡ map is_known rows → length known ≡ length rows
known_long rows known are = ap length are ∙ length-map rows is_known

-- one row is put
pub known_put : (rows : List PageCopy) (known : List Bool) (page : ℕ) (row : PageCopy) → known ≡ map is_known rows
    → slice_set known page (is_known row) ≡ map is_known (slice_set rows page row)
known_put rows known page row are = ap (λ k. slice_set k page (is_known row)) are ∙ sym (map-set is_known rows page row)

-- of no page a grant ever came
pub known_none : (n : ℕ) → replicate n false ≡ map is_known (replicate n no_copy)
known_none zero = refl
known_none (suc n) = ap (λ k. false ∷ k) (known_none n)

-- the rows and the flags are cleared
pub known_cleared : (rows cleared : List PageCopy) (known flags : List Bool) → known ≡ map is_known rows
    → cleared ≡ replicate (length rows) no_copy → flags ≡ replicate (length known) false → flags ≡ map is_known cleared
known_cleared rows cleared known flags are none unset = rw (unset, none, known_long rows known are) (known_none (length rows))

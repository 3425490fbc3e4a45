-- The store that tables answer is the one that their rows are.
use Rattle.std.proofs.Common.{◌≡◌, Bool, ℕ, zero, suc, ◌+◌, ◌*◌, ◌-◌, ◌/◌, ◌%◌, ◌<◌, ◌==◌, min, pos, cond, List, [], ◌∷◌, length, drop, get_or, refl, sym, ap, ◌∙◌, subst, arith}
use Rattle.std.proofs.Math.Dec.{eqb-suc-zero}
use Rattle.std.proofs.lemmas.List.{ext_get_or, get_or-take, get_or-drop}
use Rattle.sqlite_value.specs.declared.value.Value.TheVariants.{Int, Blob}
use Rattle.sqlite.specs.Effect.{Database}
use Rattle.cb_commit.specs.Stores.{StoreState, no_page, version_at, bytes_at}
use Rattle.cb_shelf.specs.Statements.{part_at, part_count}
use Rattle.cb_shelf.specs.Newer.{HoldsNewer}
use Rattle.cb_shelf.specs.Reading.{mark_values}
use Rattle.cb_shelf_laws.specs.Rows.{HasVersion, HasPart, HasStore, HasFullPages}
use Rattle.cb_shelf_laws.proofs.Holding.{holds_rows}

-- ---- the bytes of a page

-- each byte is in one of the parts
part_of_byte : (size byte : ℕ) → byte < size → byte / 4096 < part_count size
part_of_byte size byte low = go (size % 4096) refl
  where
    go : (rest : ℕ) → rest ≡ size % 4096 → byte / 4096 < size / 4096 + cond (rest == 0) 0 1
    go zero is = omega arith
    go (suc rest) is = rw (eqb-suc-zero rest) (omega arith)

-- and there it is
byte_in_part : (bytes : List ℕ) (byte : ℕ) → byte < length bytes → get_or (part_at bytes (byte / 4096)) (byte % 4096) 0 ≡ get_or bytes byte 0
byte_in_part bytes byte low =
    let from = byte / 4096 * 4096 in
    let within : byte % 4096 < min (from + 4096) (length bytes) - from = omega arith in
    get_or-take (min (from + 4096) (length bytes) - from) (drop from bytes) (byte % 4096) 0 within ∙ get_or-drop from bytes (byte % 4096) 0 ∙ ap (λ k. get_or bytes k 0) (omega arith)

-- bytes of one length with the same parts
same_bytes : (size : ℕ) (first second : List ℕ) → length first ≡ size → length second ≡ size → ((place : ℕ) → place < part_count size → part_at first place ≡ part_at second place) → first ≡ second
same_bytes size first second long also same = ext_get_or 0 first second (long ∙ sym also) (λ byte low.
    sym (byte_in_part first byte low)
    ∙ ap (λ (part : List ℕ). get_or part (byte % 4096) 0) (same (byte / 4096) (part_of_byte size byte (omega (arith, low, long))))
    ∙ byte_in_part second byte (omega (arith, low, long, also)))

module _ (older : Bool) where
  -- ---- what the rows of the tables say, they say of one value

  same_mark : (db : Database) (first second : StoreState) → HasStore older db first → HasStore older db second → (first.number ≡ second.number) × (first.page_size ≡ second.page_size) × (length first.pages ≡ length second.pages)
  same_mark db first second has also =
      let same : mark_values first.number first.page_size (length first.pages) ∷ [] ≡ mark_values second.number second.page_size (length second.pages) ∷ [] = sym has.mark ∙ also.mark in (cc, cc, cc)

  same_version : (db : Database) (page first second : ℕ) → HasVersion older db page first → HasVersion older db page second → first ≡ second
  same_version db page first second has also = let same : (Int (pos first) ∷ []) ≡ (Int (pos second) ∷ []) = sym has ∙ also in cc

  same_part : (db : Database) (page place : ℕ) (first second : List ℕ) → HasPart older db page place first → HasPart older db page place second → first ≡ second
  same_part db page place first second has also = let same : (Blob first ∷ []) ≡ (Blob second ∷ []) = sym has ∙ also in cc

  -- ---- the store

  -- a page that two stores have
  same_page : (db : Database) (first second : StoreState) (page : ℕ) → page < length first.pages → HasFullPages first → HasFullPages second → HasStore older db first → HasStore older db second
      → get_or first.pages page no_page ≡ get_or second.pages page no_page
  same_page db first second page low full also_full has also =
      let mark = same_mark db first second has also in
      let there : page < length second.pages = omega (arith, low, mark.2) in
      let version = same_version db page (version_at first page) (version_at second page) (has.versions page low) (also.versions page there) in
      let bytes = same_bytes first.page_size (bytes_at first page) (bytes_at second page) (full page no_page low) (also_full page no_page there ∙ sym mark.1) (λ place within.
      same_part db page place (part_at (bytes_at first page) place) (part_at (bytes_at second page) place) (has.parts page place low within) (also.parts page place there (subst (λ size. place < part_count size) mark.1 within))) in
      λ i. record { version = version i; bytes = bytes i }

  -- tables have the rows of one store
  same_store : (db : Database) (first second : StoreState) → HasFullPages first → HasFullPages second → HasStore older db first → HasStore older db second → first ≡ second
  same_store db first second full also_full has also =
      let mark = same_mark db first second has also in
      let pages = ext_get_or no_page first.pages second.pages mark.2 (λ page low. same_page db first second page low full also_full has also) in
      λ i. record { page_size = mark.1 i; pages = pages i; number = mark.0 i }

  -- the store that they answer is the one that their rows are
  pub answered_rows : (store answered : StoreState) (db : Database) → HasFullPages store → HasFullPages answered → HasStore older db store → HoldsNewer db answered → answered ≡ store
  answered_rows store answered db full also_full has holds = same_store db answered store also_full full (holds_rows older db answered has.shelf holds) has

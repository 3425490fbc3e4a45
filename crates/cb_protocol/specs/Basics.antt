-- Words that every other file uses. Where a definition of this crate names no source, it is this
-- project's rule.
use Rattle.std.specs.Prelude.{◌≡◌, ℕ, Bool, true, false, ◌&&◌, if◌then◌else◌, ◌==◌, ◌⊎◌, List, []}
use Rattle.std.specs.Prelude.{◌∷◌, Option, Some, None}
-- the greatest transaction, grant and commit number and incarnation, 2^62 - 1
pub use Rattle.cb_page.specs.Numbers.{max_number}

-- the bytes of a page
abbrev pub Bytes : Type 0
Bytes = List ℕ

-- What client, server and network agree on. Clients and pages are numbered from 0.
pub record Limits : Type 0 where
  pub clients : ℕ
  pub pages : ℕ
  pub page_size : ℕ
  pub slots : ℕ  -- the pages that a client's pool can hold
  -- a client keeps its write permissions after a commit (Callback-All), else they end with the
  -- transaction (Callback-Read) (TODS 1997)
  pub keep_write : Bool

-- a map with one entry replaced
abbrev pub update : {A : Type 0} → (ℕ → A) → ℕ → A → ℕ → A
update entries place value at = if at == place then value else entries at

-- it is an element of the list
abbrev pub IsIn : {A : Type 0} → A → List A → Type 0
IsIn element [] = ⊥
IsIn element (first ∷ rest) = (first ≡ element) ⊎ IsIn element rest

-- nothing is there
abbrev pub is_none : {A : Type 0} → Option A → Bool
is_none None = true
is_none (Some value) = false

-- exactly that number is there
abbrev pub is_exactly : Option ℕ → ℕ → Bool
is_exactly None number = false
is_exactly (Some there) number = there == number

-- the two name one transaction: by client, incarnation and transaction number
abbrev pub same_transaction : (client incarnation txn : ℕ)
    → (other_client other_incarnation other_txn : ℕ) → Bool
same_transaction client incarnation txn other_client other_incarnation other_txn =
    (client == other_client) && (incarnation == other_incarnation) && (txn == other_txn)

-- The directory's lines: what stands for one client, and for one page.
use Rattle.std.specs.Prelude.{ℕ, zero, suc, Bool, false, true, List, Option, None, Some, replicate}
use Rattle.std.specs.Prelude.{slice_index_or, ◌≡◌, ◌<◌, ◌≤◌, refl, MatchOption}

-- what stands for one client: the grant of its copy of each page, the pages of which it has a
-- copy, and those that it may write
pub record ClientState : Type 0 where
  pub grants : List (Option ℕ)
  pub copied : List Bool
  pub writable : List Bool

-- the grant of the client's copy of a page; none past the end
abbrev pub grant_of : ClientState → ℕ → Option ℕ
grant_of client page = slice_index_or client.grants page None

-- a client with no copies, and a place for each page
abbrev pub no_rows : ℕ → ClientState
no_rows pages = record {
  grants = replicate pages None;
  copied = replicate pages false;
  writable = replicate pages false;
}

-- the answer is the least page from a place on of which it holds; none: it holds of none from there
abbrev pub IsLeastFrom : (from pages : ℕ) → (holds : ℕ → Bool) → Option ℕ → Type 0
IsLeastFrom from pages holds answer = MatchOption answer
    ((page : ℕ) → from ≤ page → holds page ≡ false)
    (λ page. (from ≤ page) × (page < pages) × (holds page ≡ true)
    × ((other : ℕ) → from ≤ other → other < page → holds other ≡ false))

-- what a number stands for where no grant has the number 0 (this project's rule)
abbrev pub grant_at : ℕ → Option ℕ
grant_at zero = None
grant_at (suc less) = Some (suc less)

-- the number that stands for a grant or none
abbrev pub number_of : Option ℕ → ℕ
number_of None = 0
number_of (Some grant) = grant

-- a number is had back from what it stands for
pub number_of_grant_at : (number : ℕ) → number_of (grant_at number) ≡ number
number_of_grant_at zero = refl
number_of_grant_at (suc less) = refl

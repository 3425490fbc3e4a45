-- Which jobs of which clients are done: a flag for each job, by client.
use Rattle.std.specs.Prelude.{◌≡◌, ℕ, ◌<◌, ◌^◌, Bool, true, false, List, [], length}
use Rattle.std.specs.Prelude.{slice_index_or, slice_set}
use Rattle.std.specs.List.{All, count_by, sum_by}

-- the flags of a client's jobs; none where there is no such client
abbrev pub jobs_of : List (List Bool) → ℕ → List Bool
jobs_of tally client = slice_index_or tally client []

-- whether a client's job is done
abbrev pub is_done : List (List Bool) → ℕ → ℕ → Bool
is_done tally client job = slice_index_or (jobs_of tally client) job false

-- the same, and a client's job is done
abbrev pub with_done : List (List Bool) → ℕ → ℕ → List (List Bool)
with_done tally client job = slice_set tally client (slice_set (jobs_of tally client) job true)

-- how many flags are set
abbrev pub flags_set : List Bool → ℕ
flags_set flags = count_by (λ flag. flag) flags

-- how many jobs are done, of all clients
abbrev pub jobs_done : List (List Bool) → ℕ
jobs_done tally = sum_by flags_set tally

-- So many jobs are done, and there are too few to wrap (this project's rule).
pub record IsTally (committed : ℕ) (tally : List (List Bool)) : Type 0 where
  pub counted : committed ≡ jobs_done tally
  pub clients : length tally < 2 ^ 16
  pub jobs : All (λ flags. length flags < 2 ^ 32) tally

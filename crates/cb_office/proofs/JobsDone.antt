-- How many jobs are done once one more is.
use Rattle.std.proofs.Common.{◌≡◌, ℕ, ◌+◌, ◌*◌, ◌^◌, ◌<◌, ◌≤◌, Bool, true, false, List, [], length, arith}
use Rattle.std.specs.Prelude.{if◌then◌else◌, slice_index_or, slice_set}
use Rattle.std.proofs.Math.Nat.{mul-le-mul_right}
use Rattle.std.proofs.lemmas.List.{length-set}
use Rattle.std.proofs.lemmas.List.Elements.{All-set, All-weaker}
use Rattle.std.proofs.lemmas.List.Sums.{count_by-le-length, sum_by-le, sum_by-set}
use Rattle.cb_office.specs.Tallies.{IsTally, flags_set, is_done, jobs_done, jobs_of, with_done}

-- a flag that wasn't set counts one more
pub flag_counted : (flags : List Bool) (job : ℕ) → job < length flags → slice_index_or flags job false ≡ false → flags_set (slice_set flags job true) ≡ flags_set flags + 1
flag_counted flags job within unset =
    let changed = sum_by-set (λ (flag : Bool). if flag then 1 else 0) flags job true false within in
    grind (arith, changed, unset)

-- a job that wasn't done counts one more
pub job_counted : (tally : List (List Bool)) (client job : ℕ) → client < length tally → job < length (jobs_of tally client) → is_done tally client job ≡ false → jobs_done (with_done tally client job) ≡ jobs_done tally + 1
job_counted tally client job inside within undone =
    let row = flag_counted (jobs_of tally client) job within undone in
    let changed = sum_by-set flags_set tally client (slice_set (jobs_of tally client) job true) [] inside in
    omega (arith, row, changed)

-- the tally stays one
pub tally_more : (committed : ℕ) (tally : List (List Bool)) (client job : ℕ) → IsTally committed tally → client < length tally → job < length (jobs_of tally client) → is_done tally client job ≡ false → IsTally (committed + 1) (with_done tally client job)
tally_more committed tally client job is inside within undone =
    let row = length-set (jobs_of tally client) job true in
    let rows = length-set tally client (slice_set (jobs_of tally client) job true) in
    let one = job_counted tally client job inside within undone in
    let few : length (jobs_of tally client) < 2 ^ 32 = is.jobs client [] inside in
    record {
      counted = omega (arith, one, is.counted);
      clients = omega (arith, rows, is.clients);
      jobs = All-set (λ (flags : List Bool). length flags < 2 ^ 32) tally client (slice_set (jobs_of tally client) job true) (omega (arith, row, few)) is.jobs;
    }

-- there are too few to wrap
pub tally_fits : (committed : ℕ) (tally : List (List Bool)) → IsTally committed tally → committed + 1 < 2 ^ 64
tally_fits committed tally is =
    let few = All-weaker (λ (flags : List Bool). length flags < 2 ^ 32) (λ (flags : List Bool). flags_set flags ≤ 2 ^ 32) (λ flags short. let all = count_by-le-length (λ (flag : Bool). flag) flags in omega (arith, all, short)) tally is.jobs in
    let all = sum_by-le flags_set (2 ^ 32) tally few in
    let most : length tally * 2 ^ 32 ≤ 2 ^ 16 * 2 ^ 32 = mul-le-mul_right {n = 2 ^ 16} (2 ^ 32) (omega (arith, is.clients)) in
    omega (arith, all, most, is.counted)

-- The counters that the jobs count up.
use Rattle.std.specs.Prelude.{ℕ, ◌+◌, ◌%◌, ◌^◌, List, length, nat_lt, if◌then◌else◌}
use Rattle.byteorder.specs.Endian.{big_number}
use Rattle.cb_commit.specs.Stores.{StoreState, bytes_at}

-- the counter that bytes begin with: the first eight, the highest first; 0 where there are fewer
abbrev pub counter_of : List ℕ → ℕ
counter_of bytes = if nat_lt (length bytes) 8 then 0 else big_number 8 bytes

-- the sum of the counters of pages 0 and 1, modulo 2^64; a page that there isn't counts 0
abbrev pub sum_of_counters : StoreState → ℕ
sum_of_counters store = (counter_of (bytes_at store 0) + counter_of (bytes_at store 1)) % 2 ^ 64

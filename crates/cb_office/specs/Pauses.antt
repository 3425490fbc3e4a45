-- When a line of progress is shown. This project's rules.
use Rattle.std.specs.Prelude.{◌-◌, Bool, false, Option, Some, None, nat_lt}
use Rattle.std.specs.Time.{instant_nanos}
use Rattle.std.specs.declared.time.Instant.{Instant}

-- less than half a second lies between the last line and now
abbrev pub is_early : Option Instant → Instant → Bool
is_early None now = false
is_early (Some last) now = nat_lt (instant_nanos now - instant_nanos last) 500000000

-- An office as its callers see it.
use Rattle.std.specs.Prelude.{ℕ}

-- for how many calls of `work` it was made; no clause binds what lies under its lock to that
pub record OfficeState : Type 0 where
  pub expected : ℕ

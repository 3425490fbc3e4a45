-- Which client left which office. This project's.
use Rattle.std.specs.Prelude.{ℕ}

-- where a value lies that is lent; while it is lent no other one lies there
abbrev pub Place : Type 0
Place = ℕ × ℕ

-- where the office lies, and the client's number
pub record LeftState : Type 0 where
  pub office : Place
  pub client : ℕ

-- The row that tells of the lives of servers over a shelf.
use Rattle.std.specs.Prelude.{ℕ, pos, Bool, if◌then◌else◌, List, [], ◌∷◌, ◌++◌, codes}
use Rattle.sqlite.specs.declared.types.Value.TheVariants.{Int}
use Rattle.cb_shelf.specs.Statements.{Statement}

-- A life of a server: its floor, and a number above each incarnation that its server may know.
pub record LifeState : Type 0 where
  pub floor : ℕ
  pub below : ℕ

-- Above each incarnation that a server may know which kept no such row: 2^61 (this project's rule).
abbrev pub unkept_below : ℕ
unkept_below = 2305843009213693952

-- What tables tell which a shelf makes, before any life. Where it copied them, a server may have
-- served the older ones, and kept no row.
abbrev pub unserved : (copied : Bool) → LifeState
unserved copied = record { floor = 0; below = if copied then unkept_below else 1 }

abbrev pub life_table : List ℕ
life_table = codes "CREATE TABLE IF NOT EXISTS life(id INTEGER PRIMARY KEY, "
    ++ codes "floor INTEGER NOT NULL, below INTEGER NOT NULL) STRICT"

-- puts the one row in, or sets it
abbrev pub life_row : LifeState → Statement
life_row life = record {
  text = codes "INSERT OR REPLACE INTO life (id, floor, below) VALUES (1, ?1, ?2)";
  params = Int (pos life.floor) ∷ Int (pos life.below) ∷ [];
}

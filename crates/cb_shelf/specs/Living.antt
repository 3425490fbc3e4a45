-- The lives of a server over a shelf, and the row that tells the next life of them.
use Rattle.std.specs.Prelude.{◌≡◌, ◌⊎◌, ℕ, ◌+◌, ◌≤◌, nat_lt, if◌then◌else◌, true, false, List, []}
use Rattle.std.specs.Prelude.{◌∷◌, codes}
use Rattle.sqlite.specs.Store.{Ghosts}
use Rattle.sqlite.specs.Effect.{Database}
use Rattle.sqlite.specs.Tree.{Trees}
use Rattle.sqlite.specs.Held.{Held, state}
use Rattle.cb_page.specs.Numbers.{max_number}
use Rattle.cb_shelf.specs.Asking.{RepliesRow, RepliesElse}
use Rattle.cb_shelf.specs.Inside.{can_answer}
use Rattle.cb_shelf.specs.Statements.{Statement, MakesAll}
use Rattle.cb_shelf.specs.LifeRows.{LifeState, life_row, life_table, unkept_below}
use Rattle.cb_shelf.specs.Opening.{plain}
use Rattle.cb_shelf.specs.Reading.{question, number_values, IsNumber}

-- so many incarnations more may greet the server before the row is written again
abbrev pub life_range : ℕ
life_range = 1048576

-- From here on, 2^61 + 2^60, no incarnation is given room: so 2^40 lives are left, whoever greets.
abbrev pub raise_end : ℕ
raise_end = 3458764513820540928

-- In a life no Hello is taken of this incarnation or a greater one: it could be given no room.
abbrev pub life_end : LifeState → ℕ
life_end life = if nat_lt life.below raise_end then raise_end else life.below

-- what a life begins with
abbrev pub life_statements : LifeState → List Statement
life_statements life = plain life_table ∷ life_row life ∷ []

abbrev pub below_text : List ℕ
below_text = codes "SELECT below FROM life WHERE id = 1"

-- The tables tell this number, which is above each incarnation that a former life's server knew; or
-- they have no such table.
abbrev pub TellsBelow : Database → ℕ → Type 0
TellsBelow db below =
    ((can_answer db.schema below_text ≡ true)
    × RepliesRow db (question below_text) (number_values below))
    ⊎ ((can_answer db.schema below_text ≡ false) × (below ≡ unkept_below))

-- the table is there, and doesn't tell a number
abbrev pub TellsNone : Database → Type 0
TellsNone db = RepliesElse db (question below_text) IsNumber

-- the life after those whose servers knew no incarnation from this number on
abbrev pub life_from : ℕ → LifeState
life_from below = record { floor = below; below = below + life_range }

-- there is such a life
abbrev pub HasLifeFrom : ℕ → Type 0
HasLifeFrom below = (1 ≤ below) × (below + life_range ≤ max_number)

-- the tables tell no life that another can follow
abbrev pub EndsLives : Database → Type 0
EndsLives db = TellsNone db ⊎ ((below : ℕ) × TellsBelow db below × ¬ HasLifeFrom below)

-- The life after those that the tables tell of.
abbrev pub Follows : Database → LifeState → Type 0
Follows db life = (below : ℕ) × TellsBelow db below × (life ≡ life_from below)

-- the life once it has room for that incarnation
abbrev pub raised : LifeState → ℕ → LifeState
raised life incarnation = record life { below = incarnation + life_range }

-- a database that statements make of the one that a connection sees
abbrev pub MadeBy : {S : Type 0} → Ghosts S → List Statement → Held S → Trees → Type 0
MadeBy g statements old trees =
    (db : Database) × MakesAll g statements (state g old).now db × (trees ≡ db.trees)

-- a database that the begin of a life may make of it
abbrev pub Begun : {S : Type 0} → Ghosts S → Held S → Trees → Type 0
Begun g old trees = (life : LifeState) × Follows (state g old).now life
    × MadeBy g (life_statements life) old trees

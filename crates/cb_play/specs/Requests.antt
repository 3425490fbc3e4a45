-- Which request the matches of a command line make, what it names, and which file is opened for it.
-- This project's rules.
use Rattle.std.specs.Prelude.{◌≡◌, ◌⊎◌, ℕ, Bool, true, false, List, Option, Some, None, codes}
use Rattle.std.specs.Prelude.{IfSome, MatchOption}
use Rattle.std.specs.Str.Parse.{digits_value, without_leading_plus}
use Rattle.clap.specs.Words.{Row, Text, first_of, one_of}
use Rattle.cb_play.specs.declared.arguments.Request.{Request}
use Rattle.cb_play.specs.declared.arguments.Request.TheVariants as request
use Rattle.cb_play.specs.declared.store_file.StoreEnd.{StoreEnd}

-- The file of that path was opened as the store; or none was, for what is wrong with the
-- configuration or for want of memory, and nothing was put out.
abbrev pub IsOver : (path : List ℕ) → StoreEnd → (old_out new_out : Option (List ℕ)) → Type 0
IsOver path ended old_out new_out = MatchOption ended.file
    (((ended.status ≡ 2) ⊎ (ended.status ≡ 4)) × (new_out ≡ old_out))
    (λ file. file.path.now ≡ path)

-- the path of the store that a request names, if it names one
abbrev pub store_of : Request → Option (List ℕ)
store_of (request.Run workers) = Some workers.store.now
store_of (request.Serve config store announces) = Some store.now
store_of _ = None

-- a request over a store opens the file that it names
abbrev pub IsOverNamed : Request → StoreEnd → (old_out new_out : Option (List ℕ)) → Type 0
IsOverNamed asked ended old_out new_out =
    IfSome (store_of asked) (λ path. IsOver path ended old_out new_out)

-- a text is the value of an argument
abbrev pub IsText : List Row → (name text : List ℕ) → Type 0
IsText rows name text = first_of name rows ≡ Some text

-- a number is what an argument's value says in decimal digits
abbrev pub IsNumber : List Row → (name : List ℕ) → ℕ → Type 0
IsNumber rows name number = (text : List ℕ) × (one_of name rows ≡ Some text)
    × (number ≡ digits_value 10 (without_leading_plus text))

-- whether a flag is set: by its value, and not where it has none
abbrev pub IsFlag : List Row → (name : List ℕ) → Bool → Type 0
IsFlag rows name is_set = (one_of name rows ≡ None → is_set ≡ false)
    × (one_of name rows ≡ Some (codes "true") → is_set ≡ true)
    × (one_of name rows ≡ Some (codes "false") → is_set ≡ false)

-- a subcommand of that name, with the values of its arguments, makes this request
abbrev pub IsMadeBy : (name : List ℕ) → List Row → Request → Type 0
IsMadeBy name rows (request.Play config schedule) = (name ≡ codes "play")
    × IsText rows (codes "CONFIG") config.now × IsText rows (codes "SCHEDULE") schedule.now
IsMadeBy name rows (request.Chart config schedule) = (name ≡ codes "chart")
    × IsText rows (codes "CONFIG") config.now × IsText rows (codes "SCHEDULE") schedule.now
IsMadeBy name rows (request.Draw drawn) = (name ≡ codes "draw")
    × IsText rows (codes "CONFIG") drawn.config.now
    × IsNumber rows (codes "seed") drawn.seed × IsNumber rows (codes "events") drawn.count
IsMadeBy name rows (request.Run workers) = (name ≡ codes "run")
    × IsText rows (codes "CONFIG") workers.config.now
    × IsText rows (codes "STORE") workers.store.now
    × IsFlag rows (codes "progress") workers.progress
IsMadeBy name rows (request.Serve config store announces) = (name ≡ codes "serve")
    × IsText rows (codes "CONFIG") config.now × IsText rows (codes "STORE") store.now
    × IsFlag rows (codes "announce") announces
IsMadeBy name rows (request.Sides file) =
    (name ≡ codes "sides") × IsText rows (codes "FILE") file.now
IsMadeBy name rows (request.Script file) =
    (name ≡ codes "script") × IsText rows (codes "FILE") file.now

-- what was read of the words is such a subcommand
abbrev pub IsAsked : Option (Text × List Row) → Request → Type 0
IsAsked read asked = (name : List ℕ) × (rows : List Row)
    × (read ≡ Some (name, rows)) × IsMadeBy name rows asked

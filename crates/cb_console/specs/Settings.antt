-- Which texts are configurations, the settings that they mean, and the fault of any other text.
-- This project's rules.
use Rattle.std.specs.Prelude.{◌≡◌, ◌≢◌, ◌⊎◌, ℕ, ◌/◌, ◌==◌, max, pos, Bool, not, ◌&&◌, nat_le}
use Rattle.std.specs.Prelude.{nat_lt, List, [], ◌∷◌, ◌++◌, map, codes, Option, Some, None, is_some}
use Rattle.std.specs.Prelude.{is_none, unwrap_or, Result, Ok, Err, if◌then◌else◌}
use Rattle.std.specs.Prelude.{string_bytes}
use Rattle.std.specs.List.{list_any}
use Rattle.std.specs.Option.{option_and_then}
use Rattle.std.specs.Str.{bytes_eq, IsUtf8}
use Rattle.toml.specs.Data.{Data, integer, Members, no_members, member, get_member}
use Rattle.toml.specs.Parse.{parse_document}
use Rattle.cb_page.specs.Bounds.{Bounds}
use Rattle.cb_page.specs.FaultTexts.{limit_text}
use Rattle.cb_page.specs.Faults.{first_fault}
use Rattle.cb_page.specs.Limits.{limit_causes}
use Rattle.cb_page.specs.Numbers.{max_number}
use Rattle.cb_page.specs.declared.limits.LimitFault.{LimitFault}
use Rattle.cb_console.specs.Escaped.{escaped}
use Rattle.cb_console.specs.declared.config.Config.{Config}
use Rattle.cb_console.specs.declared.config.ConfigFault.{ConfigFault}
use Rattle.cb_console.specs.declared.config.ConfigFault.TheVariants as fault
use Rattle.cb_console.specs.declared.config.Key.{Key}
use Rattle.cb_console.specs.declared.config.Key.TheVariants as key
use Rattle.cb_console.specs.declared.config.RequiredNumbers.{RequiredNumbers}
use Rattle.cb_console.specs.declared.config.DefaultedNumbers.{DefaultedNumbers}

-- As the article on 2Q suggests (VLDB 1994): a quarter of the slots for A1in, and at least one
-- page.
abbrev pub default_kin : ℕ → ℕ
default_kin slots = max (slots / 4) 1

-- As the article on 2Q suggests (VLDB 1994): identifiers for half of the slots in A1out, and at
-- least one.
abbrev pub default_kout : ℕ → ℕ
default_kout slots = max (slots / 2) 1

-- a setting's key, as a configuration spells it
abbrev pub key_name : Key → List ℕ
key_name key.Clients = codes "clients"
key_name key.Pages = codes "pages"
key_name key.PageSize = codes "page_size"
key_name key.Slots = codes "slots"
key_name key.Kin = codes "kin"
key_name key.Kout = codes "kout"
key_name key.Jobs = codes "jobs"
key_name key.KeepWrite = codes "keep_write"
key_name key.Lives = codes "lives"

abbrev pub all_keys : List Key
all_keys =
    key.Clients ∷ key.Pages ∷ key.PageSize ∷ key.Slots
    ∷ key.Kin ∷ key.Kout ∷ key.Jobs ∷ key.KeepWrite ∷ key.Lives ∷ []

-- whether some setting has this key
unfoldable pub is_known : List ℕ → Bool
is_known name = list_any (λ known. bytes_eq (key_name known) name) all_keys

-- a whole number is one from 0 to 2^62 - 1
abbrev pub whole_number : Data → Option ℕ
whole_number (integer (pos n)) = if nat_le n max_number then Some n else None
whole_number other = None

-- what a table has at a key
unfoldable pub value_at : Members → Key → Option Data
value_at table key = get_member (key_name key) table

-- the number that it has there
unfoldable pub number_at : Members → Key → Option ℕ
number_at table key = option_and_then whole_number (value_at table key)

-- what is wrong, each behind the test of its cause: a key that no setting has, in the order of the
-- table, which is that of the keys' bytes
unfoldable pub unknown_causes : Members → List (Bool × List ℕ)
unknown_causes no_members = []
unknown_causes (member name value rest) =
    (not (is_known name), codes "unknown " ++ name) ∷ unknown_causes rest

-- a value that is no whole number
unfoldable pub optional_causes : Members → Key → List (Bool × List ℕ)
optional_causes table key = (
  is_some (value_at table key) && is_none (number_at table key),
  key_name key ++ codes " is not a whole number",
) ∷ []

-- a key that isn't there, or a value that is no whole number
unfoldable pub required_causes : Members → Key → List (Bool × List ℕ)
required_causes table key =
    (is_none (value_at table key), codes "missing " ++ key_name key) ∷ optional_causes table key

-- the number of a required setting
unfoldable pub required_number : Members → Key → ℕ
required_number table key = unwrap_or (number_at table key) 0

abbrev pub kin_of : Members → ℕ
kin_of table = unwrap_or (number_at table key.Kin) (default_kin (required_number table key.Slots))

abbrev pub kout_of : Members → ℕ
kout_of table =
    unwrap_or (number_at table key.Kout) (default_kout (required_number table key.Slots))

abbrev pub jobs_of : Members → ℕ
jobs_of table = unwrap_or (number_at table key.Jobs) 0

-- whether permissions to write are kept
abbrev pub keep_write_of : Members → ℕ
keep_write_of table = unwrap_or (number_at table key.KeepWrite) 0

-- whether a schedule is one over several lives of the server
abbrev pub lives_of : Members → ℕ
lives_of table = unwrap_or (number_at table key.Lives) 0

-- the numbers of the settings that must be there
abbrev pub required_of : Members → RequiredNumbers
required_of table = record {
  clients = required_number table key.Clients;
  pages = required_number table key.Pages;
  page_size = required_number table key.PageSize;
  slots = required_number table key.Slots;
}

-- the numbers of the others, with their defaults
abbrev pub defaulted_of : Members → DefaultedNumbers
defaulted_of table = record {
  kin = kin_of table;
  kout = kout_of table;
  jobs = jobs_of table;
  keep_write = keep_write_of table;
  lives = lives_of table;
}

-- the limits of these numbers
abbrev pub bounds_by : RequiredNumbers → DefaultedNumbers → Bounds
bounds_by required others = record {
  clients = required.clients;
  pages = required.pages;
  page_size = required.page_size;
  slots = required.slots;
  kin = others.kin;
  kout = others.kout;
  keep_write = others.keep_write == 1;
}

-- the settings of these numbers
abbrev pub config_by : RequiredNumbers → DefaultedNumbers → Config
config_by required others = record {
  limits = bounds_by required others;
  jobs = others.jobs;
  lives = others.lives == 1;
}

-- numbers that are no limits of a store
abbrev pub limit_cause : Bool × LimitFault → Bool × List ℕ
limit_cause cause = (cause.0, codes "limit " ++ limit_text cause.1)

unfoldable pub bounds_causes : Bounds → List (Bool × List ℕ)
bounds_causes bounds =
    map limit_cause
    (limit_causes bounds.clients bounds.pages bounds.page_size bounds.slots bounds.kin bounds.kout)

-- jobs, whether permissions are kept, and whether there are several lives, out of range
unfoldable pub others_causes : DefaultedNumbers → List (Bool × List ℕ)
others_causes others =
    (nat_lt 100000 others.jobs, codes "jobs")
    ∷ (nat_lt 1 others.keep_write, codes "keep_write")
    ∷ (nat_lt 1 others.lives, codes "lives") ∷ []

-- what is wrong with the values at the keys that must be there
unfoldable pub required_values : Members → List (Bool × List ℕ)
required_values table =
    required_causes table key.Clients
    ++ (required_causes table key.Pages
    ++ (required_causes table key.PageSize
    ++ required_causes table key.Slots))

-- what is wrong with the values at the others
unfoldable pub defaulted_values : Members → List (Bool × List ℕ)
defaulted_values table =
    optional_causes table key.Kin
    ++ (optional_causes table key.Kout
    ++ (optional_causes table key.Jobs
    ++ (optional_causes table key.KeepWrite
    ++ optional_causes table key.Lives)))

-- what is wrong with the ranges of these numbers
unfoldable pub range_causes : RequiredNumbers → DefaultedNumbers → List (Bool × List ℕ)
range_causes required others = bounds_causes (bounds_by required others) ++ others_causes others

-- what is wrong with a table, in the order of the checks
abbrev pub table_causes : Members → List (Bool × List ℕ)
table_causes table =
    unknown_causes table
    ++ (required_values table
    ++ (defaulted_values table
    ++ range_causes (required_of table) (defaulted_of table)))

-- what a fault says is wrong
abbrev pub config_text : ConfigFault → List ℕ
config_text fault.Text = codes "text"
config_text (fault.Unknown name) = codes "unknown " ++ string_bytes name
config_text (fault.Missing key) = codes "missing " ++ key_name key
config_text (fault.NotWhole key) = key_name key ++ codes " is not a whole number"
config_text (fault.Limit e) = codes "limit " ++ limit_text e
config_text fault.Jobs = codes "jobs"
config_text fault.KeepWrite = codes "keep_write"
config_text fault.Lives = codes "lives"
config_text fault.Memory = codes "memory"

-- the same as a line shows it, with an unknown key's control characters escaped
abbrev pub config_line : ConfigFault → List ℕ
config_line (fault.Unknown name) = codes "unknown " ++ escaped (string_bytes name)
config_line other = config_text other

-- The text is this table in TOML.
pub record IsTable (text : List ℕ) (table : Members) : Type 0 where
  pub utf8 : IsUtf8 text
  pub parsed : parse_document text ≡ Some table

-- The text is a configuration with these settings: a table with which nothing is wrong.
pub record IsConfig (text : List ℕ) (config : Config) : Type 0 where
  pub table : Members
  pub is_table : IsTable text table
  pub faultless : first_fault (table_causes table) ≡ None
  pub settings : config ≡ config_by (required_of table) (defaulted_of table)

-- The fault is the first that is wrong. Want of memory says nothing of it.
abbrev pub IsFirst : Option (List ℕ) → ConfigFault → Type 0
IsFirst first e = e ≢ fault.Memory → first ≡ Some (config_text e)

-- What is wrong with a text: it is no table in TOML, or else the first that is wrong with its
-- table.
abbrev pub IsWrong : List ℕ → List ℕ → Type 0
IsWrong text what =
    ((what ≡ codes "text") × (IsUtf8 text → parse_document text ≡ None))
    ⊎ ((table : Members) × IsTable text table × (first_fault (table_causes table) ≡ Some what))

-- The fault says what is wrong with the text. Want of memory says nothing of it.
abbrev pub RefusesConfig : List ℕ → ConfigFault → Type 0
RefusesConfig text e = e ≢ fault.Memory → IsWrong text (config_text e)

-- what a reader of a part of a table answers: its value where nothing is wrong with that part, else
-- the first that is
abbrev pub Gives : {X : Type 0} → Option (List ℕ) → X → Result X ConfigFault → Type 0
Gives first value (Ok x) = (first ≡ None) × (x ≡ value)
Gives first value (Err e) = IsFirst first e

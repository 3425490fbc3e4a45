-- What holds at each turn of the loops of `refuse_unknown`.
use Rattle.std.proofs.Common.{◌≡◌, map, string_bytes}
use Rattle.toml.specs.View.{table_view}
use Rattle.cb_page.specs.Faults.{first_fault}
use Rattle.cb_console.specs.Settings.{unknown_causes}
use Rattle.cb_console.proofs.ConfigLemmas.{name_causes}
use Rattle.cb_console.proofs.config.refuse_unknown.Given as goal

-- the first unknown key of those that are left is the table's
abbrev pub invariant-loop-name : goal.invariant-loop-name
invariant-loop-name l = first_fault (name_causes (map string_bytes l.name-iterator)) ≡ first_fault (unknown_causes (table_view l.table))

-- Goals of `value_at`.
use Rattle.std.proofs.Common.{ℕ, List, ap, ◌∙◌}
use Rattle.toml.proofs.Views.{table_get}
use Rattle.toml.specs.Data.{get_member}
use Rattle.toml.specs.View.{table_view}
use Rattle.cb_console.specs.Settings.{value_at}
use Rattle.cb_console.proofs.config.value_at.Goals as goal

pub returns : goal.returns
unfolding value_at
returns c =
    table_get c.get.result c.name.result.now c.args.table.now.entries c.get.ensures.value
    ∙ ap (λ (name : List ℕ). get_member name (table_view c.args.table.now)) c.name.ensures

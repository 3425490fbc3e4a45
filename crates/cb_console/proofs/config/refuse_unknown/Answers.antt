-- Goals of `refuse_unknown`.
use Rattle.std.proofs.Common.{List, String, Global, ap, map, string_bytes, sym, ◌∙◌}
use Rattle.cb_page.specs.Faults.{first_fault}
use Rattle.cb_console.proofs.ConfigLemmas.{name_causes, unknown-names}
use Rattle.cb_console.proofs.config.refuse_unknown.Goals as goal

pub loop-name-init : goal.loop-name-init
loop-name-init c =
    ap (λ (names : List (String Global)). first_fault (name_causes (map string_bytes names))) (c.into_iter-name-iterator.ensures.into_iter_gives ∙ c.keys-name-items.ensures.rest)
    ∙ ap first_fault (sym (unknown-names c.args.table.now.entries))

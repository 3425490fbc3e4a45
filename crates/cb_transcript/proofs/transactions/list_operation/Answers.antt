-- Goals of `list_operation`.
use Rattle.std.proofs.Common.{ap, length, option_map, rules, sym, ◌∙◌, ◌≡◌}
use Rattle.std.proofs.lemmas.Result.{on_ok_weaker}
use Rattle.cb_transcript.specs.Operations.{done_in, operation_in}
use Rattle.cb_transcript.proofs.Listed.{key_named, listed_more, performed_by}
use Rattle.cb_transcript.proofs.transactions.list_operation.Goals as goal

pub returns : goal.returns
returns c = on_ok_weaker c.add.result (λ added entries told at standings lists.
    let long : length c.args.standings.now ≡ 32 = search rules in
    let done = performed_by (operation_in c.args.entry.now.event c.args.entry.now.answer.word) c.in-Some.client (sym c.performer.ensures ∙ c.in-Some.is) in
    listed_more c.args.lists.now c.add.new.lists entries c.args.entry.now told c.in-Some.client c.args.place done.0 _ done.1 (ap done_in at ∙ ap (option_map (λ o. o.1)) done.1) (key_named c.args.standings.now told c.index.result c.in-Some.client c.get.result (record { incarnation = 0; begun = 0 }) long c.index.ensures.value c.index.ensures.greatest c.get.ensures.value standings) added lists) c.add.ensures

-- Goals of `transactions_of`.
use Rattle.std.proofs.Common.{ap, get_or, length, replicate, refl, rules, subst, sym, take, ◌+◌, ◌≤◌, ◌<◌, ◌∙◌, ◌∷◌, ◌≡◌, arith}
use Rattle.std.proofs.lemmas.List.{get_or-replicate}
use Rattle.std.proofs.lemmas.Option.{slice_get_read}
use Rattle.cb_transcript.specs.ProtocolEvents.{entry_of, transcript_of}
use Rattle.cb_transcript.specs.Operations.{AreStandings, HasOperations, first_standing}
use Rattle.cb_transcript.proofs.Followed.{few_incarnations, few_transactions, told_length, told_more}
use Rattle.cb_transcript.proofs.Listed.{listed_none}
use Rattle.cb_transcript.specs.declared.current_transaction.CurrentTransaction.{CurrentTransaction}
use Rattle.cb_transcript.proofs.transactions.transactions_of.Goals as goal

pub loop-place-init : goal.loop-place-init
loop-place-init c = record {
  lists = listed_none c.new-lists.result c.args.entries.now c.new-lists.ensures.empty;
  standings = λ client h. subst (λ (s : CurrentTransaction). get_or (replicate 32 s) client first_standing ≡ first_standing) (sym c.first-standings.ensures) (get_or-replicate 32 client first_standing first_standing h);
}

pub follow-requires-clause-incarnations : goal.follow-requires-clause-incarnations
follow-requires-clause-incarnations c = λ client h. let few = few_incarnations (transcript_of (take c.loop-place.place c.args.entries.now)) client in
    let told : length (transcript_of (take c.loop-place.place c.args.entries.now)) ≤ c.loop-place.place = told_length c.args.entries.now c.loop-place.place in
    let long : length c.args.entries.now < 9223372036854775808 = search rules in
    rw (c.loop-place.invariant.standings client h) (omega (arith, few, told, long, c.loop-place-test.true))

pub follow-requires-clause-transactions : goal.follow-requires-clause-transactions
follow-requires-clause-transactions c = λ client h. let few = few_transactions (transcript_of (take c.loop-place.place c.args.entries.now)) client in
    let told : length (transcript_of (take c.loop-place.place c.args.entries.now)) ≤ c.loop-place.place = told_length c.args.entries.now c.loop-place.place in
    let long : length c.args.entries.now < 9223372036854775808 = search rules in
    rw (c.loop-place.invariant.standings client h) (omega (arith, few, told, long, c.loop-place-test.true))

pub loop-place-preserved : goal.loop-place-preserved
loop-place-preserved c = let told = transcript_of (take c.loop-place.place c.args.entries.now) in
    let more : transcript_of (take (c.loop-place.place + 1) c.args.entries.now) ≡ entry_of c.index-entries-place.result ∷ told = told_more c.args.entries.now c.loop-place.place c.index-entries-place.result c.loop-place-test.true ∙ ap (λ e. entry_of e ∷ told) (sym c.index-entries-place.is) in
    let again : transcript_of (take (c.loop-place.place + 1) c.args.entries.now) ≡ entry_of c.index-entries-place-in-loop-place.result ∷ told = told_more c.args.entries.now c.loop-place.place c.index-entries-place-in-loop-place.result c.loop-place-test.true ∙ ap (λ e. entry_of e ∷ told) (sym c.index-entries-place-in-loop-place.is) in
    let there = slice_get_read c.args.entries.now (length c.args.entries.now) c.loop-place.place c.index-entries-place.result refl c.loop-place-test.true c.index-entries-place.is in
    record {
      lists = subst (HasOperations c.list_operation.new.lists c.args.entries.now) (sym more) (c.in_ok-list_operation.ensures c.args.entries.now told there c.loop-place.invariant.standings c.loop-place.invariant.lists);
      standings = subst (AreStandings c.follow.new.standings) (sym again) (c.follow.ensures told c.loop-place.invariant.standings);
    }

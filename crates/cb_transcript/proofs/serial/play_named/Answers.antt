-- Goals of `play_named`.
use Rattle.std.proofs.Common.{All, rules, subst, sym, ◌≡◌}
use Rattle.cb_transcript.specs.Operations.{listed}
use Rattle.cb_transcript.proofs.Listed.{IsDone}
use Rattle.cb_transcript.proofs.serial.play_named.Goals as goal

pub play-requires-clause-places : goal.play-requires-clause-places
play-requires-clause-places c =
    let same : c.as_slice.result.now ≡ listed c.args.transactions.now (record { client = c.args.name.client; incarnation = c.args.name.incarnation; txn = c.args.name.txn }) = search rules in
    subst (All (IsDone c.args.entries.now)) (sym same) (c.requires.places (record { client = c.args.name.client; incarnation = c.args.name.incarnation; txn = c.args.name.txn }))

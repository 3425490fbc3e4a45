-- Goals of `store_on_disk`.
use Rattle.std.proofs.Common.{◌≡◌, List, ap, subst, sym, ◌∙◌, ◌+◌}
use Rattle.cb_commit.specs.History.{FitsInto, applied}
use Rattle.cb_frame.specs.declared.writes.Write.{Write}
use Rattle.cb_page.specs.Numbers.{max_number}
use Rattle.cb_schedule.proofs.DiskStores.{fits_then, number_left, on_ok, replayed_more}
use Rattle.cb_schedule.proofs.life.store_on_disk.Goals as goal

pub apply-applied-requires-clause-number : goal.apply-applied-requires-clause-number
apply-applied-requires-clause-number c =
    number_left c.args.opening.now c.loop-commit.commit-index max_number c.args.commits.now c.loop-commit.written c.requires.numbered c.loop-commit-test.true c.requires.last c.loop-commit.invariant

pub apply-applied-requires-clause-fit : goal.apply-applied-requires-clause-fit
apply-applied-requires-clause-fit c =
    let copied : c.in_ok-writes.writes ≡ c.commit-item.result.writes = c.in_ok-writes.ensures ∙ c.as_slice.ensures in
    subst (λ (ws : List Write). FitsInto c.loop-commit.written.store ws) (sym copied)
    (fits_then c.args.opening.now c.loop-commit.commit-index c.args.commits.now c.commit-item.result c.loop-commit.written c.requires.fit c.loop-commit-test.true c.commit-item.is c.loop-commit.invariant)

pub loop-commit-preserved : goal.loop-commit-preserved
loop-commit-preserved c =
    let copied : c.in_ok-writes.writes ≡ c.commit-item.result.writes = c.in_ok-writes.ensures ∙ c.as_slice.ensures in
    let more = replayed_more c.args.opening.now c.loop-commit.commit-index c.args.commits.now c.commit-item.result c.loop-commit.written c.requires.numbered c.loop-commit-test.true c.commit-item.is c.loop-commit.invariant in
    let done : c.apply-applied.new.self ≡ applied c.loop-commit.written (record {
      client = c.commit-item.result.client;
      incarnation = c.commit-item.result.incarnation;
      txn = c.commit-item.result.txn;
      number = c.loop-commit.written.store.number + 1;
      writes = c.in_ok-writes.writes;
    }) = on_ok c.apply-applied.result _ (sym c.is_err.ensures.value ∙ c.if-is_err.false) c.apply-applied.ensures.ok in
    done ∙ ap (λ (ws : List Write). applied c.loop-commit.written (record {
      client = c.commit-item.result.client;
      incarnation = c.commit-item.result.incarnation;
      txn = c.commit-item.result.txn;
      number = c.loop-commit.written.store.number + 1;
      writes = ws;
    })) copied ∙ more

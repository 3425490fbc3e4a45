-- Goals of `Client::finish`.
use Rattle.std.proofs.Common.{◌≡◌, false, true, true≢false, sym, Err, rules}
use Rattle.cb_protocol.specs.ClientCalls.{CallFinish}
use Rattle.cb_client.proofs.CallSteps.{refused}
use Rattle.cb_client.proofs.Room.{not_memory}
use Rattle.cb_client.proofs.Writing.{refuses_finish}
use Rattle.cb_client.proofs.client.Client.finish.Goals as goal

pub returns-in_err-check_finish-clause-by_table : goal.returns-in_err-check_finish-clause-by_table
returns-in_err-check_finish-clause-by_table g c =
    let same : c.from_residual.result ≡ Err c.in_err-check_finish.field-0.0 = search rules in
    rw same (refuses_finish _ _ (refused _ _ _ c.in_err-check_finish.ensures.decided))

pub returns-in_err-check_finish-clause-nothing : goal.returns-in_err-check_finish-clause-nothing
returns-in_err-check_finish-clause-nothing g c = λ none.
    let same : c.from_residual.result ≡ Err c.in_err-check_finish.field-0.0 = search rules in
    rw same (not_memory c.args.self.now CallFinish _ (refused c.args.self.now CallFinish _ c.in_err-check_finish.ensures.decided))

pub returns-in_err-commit-clause-nothing : goal.returns-in_err-commit-clause-nothing
returns-in_err-commit-clause-nothing g c = λ none. let z : false ≡ true = c.in_err-commit.ensures.nothing none in absurd (true≢false (sym z))

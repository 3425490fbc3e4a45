-- Goals of `Client::check_finish`.
use Rattle.std.proofs.Common.{◌≡◌, true, false, Err, sym, rules}
use Rattle.cb_protocol.specs.Client.{is_asking}
use Rattle.cb_client_core.specs.ClientState.{ask_of}
use Rattle.cb_client.proofs.Refusals.{finish_free, finish_is, finish_shut, finish_waits}
use Rattle.cb_client.proofs.client.Client.check_finish.Goals as goal

pub returns-in_err-check_open-clause-decided : goal.returns-in_err-check_open-clause-decided
returns-in_err-check_open-clause-decided g c =
    let same : c.from_residual.result ≡ Err c.in_err-check_open.field-0.0 = search rules in
    rw same (finish_is c.args.self.now _ (finish_shut c.args.self.now _ c.in_err-check_open.ensures.causes))

pub returns-then-is_out-clause-decided : goal.returns-then-is_out-clause-decided
returns-then-is_out-clause-decided g c =
    let asks : is_asking (ask_of c.args.self.now.ask) ≡ true = rw (← c.self.view_is) (sym c.if-is_out.ensures) in
    finish_is c.args.self.now _ (finish_waits c.args.self.now c.in_ok-check_open.ensures.causes asks)

pub returns-clause-decided : goal.returns-clause-decided
returns-clause-decided g c =
    let asks : is_asking (ask_of c.args.self.now.ask) ≡ false = rw (← c.self.view_is) (sym c.if-is_out.ensures) in
    finish_is c.args.self.now _ (finish_free c.args.self.now c.in_ok-check_open.ensures.causes asks)

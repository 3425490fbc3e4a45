-- Goals of `Client::hello`.
use Rattle.std.proofs.Common.{[], ◌∷◌}
use Rattle.cb_outbox.specs.Messages.{message_of}
use Rattle.cb_protocol.specs.Answers.{AnsweredOk}
use Rattle.cb_protocol.specs.ClientCalls.{CallHello}
use Rattle.cb_client.specs.ByTable.{Calls, as_before}
use Rattle.cb_client_core.specs.ClientState.{IsClient}
use Rattle.cb_client.proofs.CallSteps.{greets}
use Rattle.cb_client.proofs.FramesFit.{call_frame_fits}
use Rattle.cb_client.proofs.client.Client.hello.Goals as goal

pub returns-clause-by_table : goal.returns-clause-by_table
returns-clause-by_table g c = rw (c.from.ensures, c.say.ensures, ← c.self.view_is) (greets _)

pub returns-clause-fits : goal.returns-clause-fits
returns-clause-fits g c =
    let said : Calls c.args.self.now CallHello AnsweredOk (message_of c.from.result ∷ []) as_before c.args.self.now = rw (c.from.ensures, c.say.ensures, ← c.self.view_is) (greets _) in
    let sound : IsClient c.args.self.now = rw (← c.self.view_is) c.self.invariant in
    call_frame_fits c.args.self.now c.args.self.now CallHello c.from.result sound said

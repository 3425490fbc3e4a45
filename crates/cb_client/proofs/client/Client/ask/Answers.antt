-- Goals of `Client::ask`.
use Rattle.std.proofs.Common.{◌≡◌, List, [], ◌∷◌, Some, refl, rules}
use Rattle.cb_protocol.specs.Client.{bodies_said}
use Rattle.cb_protocol.specs.ClientCalls.{say_ask}
use Rattle.cb_protocol.specs.Serial.{Operation}
use Rattle.cb_client.specs.ByTable.{messages_from}
use Rattle.cb_client.specs.CallAnswers.{short_message}
use Rattle.cb_client_core.specs.ClientState.{IsClient, client_of}
use Rattle.cb_client.proofs.FramesFit.{ask_frame_fits}
use Rattle.cb_client.proofs.Writing.{asking_open, asking_within}
use Rattle.cb_client.proofs.client.Client.ask.Goals as goal

pub present_txn-txn-requires : goal.present_txn-txn-requires
present_txn-txn-requires g c = rw (← c.self.view_is) (asking_open _ c.self.invariant (rw c.in-Read.is refl))

pub present_txn-txn-requires-in-Write : goal.present_txn-txn-requires-in-Write
present_txn-txn-requires-in-Write g c = rw (← c.self.view_is) (asking_open _ c.self.invariant (rw c.in-Write.is refl))

pub at-requires : goal.at-requires
at-requires g c = asking_within _ _ c.self.invariant c.in-Write.is

pub returns-in-Read-clause-by_table : goal.returns-in-Read-clause-by_table
returns-in-Read-clause-by_table g c = search rules

pub returns-in-Read-clause-fits : goal.returns-in-Read-clause-fits
returns-in-Read-clause-fits g c =
    let table : (ops : List Operation) → messages_from c.args.self.now (bodies_said (say_ask (client_of c.args.self.now ops) (client_of c.args.self.now ops).ask)) ≡ short_message c.say.result ∷ [] = search rules in
    let sound : IsClient c.args.self.now = rw (← c.self.view_is) c.self.invariant in
    ask_frame_fits c.args.self.now (Some c.say.result) sound table

-- Goals of `PolledClient::say_ask`.
use Rattle.cb_handle.proofs.Reading.{ask_said, ask_there}
use Rattle.cb_handle.proofs.polled_client.PolledClient.say_ask.Goals as goal

pub returns-in-Some-clause-said : goal.returns-in-Some-clause-said
returns-in-Some-clause-said c page out = ask_said c.args.self.now.client page c.in-Some.ask c.from.result _ out c.in-Some.ensures.by_table c.from.ensures c.keep.ensures

pub returns-in_default-clause-said : goal.returns-in_default-clause-said
returns-in_default-clause-said c page out = absurd (ask_there c.args.self.now.client page out c.in_default.ensures.by_table)

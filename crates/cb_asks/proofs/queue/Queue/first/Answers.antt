-- Goals of `Queue::first`.
use Rattle.std.proofs.Common.{ap, sym, ◌∙◌, ◌∷◌, ℕ, List}
use Rattle.cb_protocol.specs.Server.{WaitingAsk, after_first}
use Rattle.cb_asks.specs.Entries.{ask_of_entry}
use Rattle.cb_asks.specs.Maps.{asks_in}
use Rattle.cb_asks.proofs.Entries.{first_is}
use Rattle.cb_asks.proofs.Maps.{asks_read}
use Rattle.cb_asks.proofs.queue.Queue.first.Goals as goal

pub returns : goal.returns
returns c = rw (← c.self.view_is) (let read = asks_read _ _ _ c.in-Some.is c.deref.ensures in
    sym read ∙ first_is c.deref.result.now.entries c.in_ok-key.key.now c.in_ok-key.entry.now (sym c.in_ok-key.ensures.entry)
    ∙ ap (λ (asks : List WaitingAsk). ask_of_entry (c.in_ok-key.key.now, c.in_ok-key.entry.now) ∷ after_first asks) read
    ∙ ap (λ (ask : WaitingAsk). ask ∷ after_first (asks_in c.self.inside.entries)) (ap (λ (key : ℕ). ask_of_entry (key, c.in_ok-key.entry.now)) (sym c.client.ensures) ∙ sym c.of.ensures))

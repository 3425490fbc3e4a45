-- Goals of `Queue::enter`.
use Rattle.std.proofs.Common.{◌≡◌, ℕ, List, [], ◌∷◌, ◌++◌, ap, ◌∙◌, arith, nat_eq, false, None, Some, refl}
use Rattle.indexmap.specs.IndexMap.{insert_entry}
use Rattle.cb_protocol.specs.Deadlock.{ask_count}
use Rattle.cb_protocol.specs.Server.{WaitingAsk}
use Rattle.cb_protocol.specs.ServerMessages.{new_ask}
use Rattle.cb_asks.specs.Entries.{asks_of}
use Rattle.cb_asks.specs.Maps.{used}
use Rattle.cb_asks.specs.declared.queue.Entry.{Entry}
use Rattle.cb_asks.proofs.Entries.{entered}
use Rattle.cb_asks.proofs.Maps.{asks_read, used_some, some_entered}
use Rattle.cb_asks.proofs.queue.Queue.enter.Goals as goal

pub returns-clause-asks : goal.returns-clause-asks
returns-clause-asks c =
    ap asks_of c.in-Ok.ensures.entries
    ∙ ap (λ (key : ℕ). asks_of (insert_entry nat_eq c.deref_mut.result.now.entries key (record { write_grant = c.args.write_grant; called_back = false; downgrade_sent = None }))) c.of.ensures
    ∙ entered c.args.client (record { write_grant = c.args.write_grant; called_back = false; downgrade_sent = None }) c.deref_mut.result.now.entries (ap (ask_count c.args.client) read ∙ c.requires.new)
    ∙ ap (λ (asks : List WaitingAsk). asks ++ new_ask c.args.client c.args.write_grant ∷ []) read
  where
    read : asks_of c.deref_mut.result.now.entries ≡ c.args.self.now.asks
    read = asks_read (Some c.take_map-entries.result) c.take_map-entries.result c.deref_mut.result.now refl c.deref_mut.ensures.value ∙ c.take_map-entries.ensures.asks

pub returns-clause-maps : goal.returns-clause-maps
returns-clause-maps c =
    let one : used (asks_of c.insert.new.self.entries) ≡ 1 = ap (λ (entries : List (ℕ × Entry)). used (asks_of entries)) c.in-Ok.ensures.entries ∙ used_some _ (some_entered c.deref_mut.result.now.entries c.of.result _) in
    let maps = c.take_map-entries.ensures.maps in
    omega (arith, one, maps)

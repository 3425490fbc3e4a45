-- Goals of `Queue::remove`.
use Rattle.std.proofs.Common.{arith, rules, ◌≡◌, ◌≤◌, ℕ, List, None, Some, nat_eq, ap, sym, subst, ◌∙◌}
use Rattle.std.proofs.lemmas.Grind.{common_steps}
use Rattle.std.specs.Map.{lookup, remove_entry}
use Rattle.std.specs.Option.{option_map}
use Rattle.cb_protocol.specs.Deadlock.{ask_count}
use Rattle.cb_protocol.specs.Server.{WaitingAsk, without_client}
use Rattle.cb_asks.specs.Entries.{ask_of_entry, asks_of}
use Rattle.cb_asks.specs.Maps.{asks_in}
use Rattle.cb_asks.specs.Queues.{ask_by, waiting_ask}
use Rattle.cb_asks.specs.declared.queue.Entry.{Entry}
use Rattle.cb_asks.proofs.Entries.{looked_up, removed}
use Rattle.cb_asks.proofs.Maps.{asks_read}
use Rattle.cb_asks.proofs.queue.Queue.remove.Goals as goal

pub returns-in_err-entry-clause-ask : goal.returns-in_err-entry-clause-ask
returns-in_err-entry-clause-ask c = rw (← c.self.view_is) (ap (option_map waiting_ask) c.from_residual-in_err-entry.ensures
    ∙ ap (option_map (λ (entry : Entry). ask_of_entry (c.args.client, entry))) none ∙ looked_up c.args.client c.deref_mut.result.now.entries
    ∙ ap (ask_by c.args.client) (asks_read _ _ _ c.in-Some.is c.deref_mut.ensures.value))
  where
    none : None ≡ lookup (nat_eq c.args.client) c.deref_mut.result.now.entries
    none = sym c.in_err-entry.was ∙ c.shift_remove.ensures.value ∙ ap (λ (key : ℕ). lookup (nat_eq key) c.deref_mut.result.now.entries) c.of.ensures

pub returns-in_err-entry-clause-asks : goal.returns-in_err-entry-clause-asks
returns-in_err-entry-clause-asks c = rw (← c.self.view_is) (λ one. ap asks_of c.shift_remove.ensures.entries
    ∙ ap (λ (key : ℕ). asks_of (remove_entry (nat_eq key) c.deref_mut.result.now.entries)) c.of.ensures
    ∙ removed c.args.client c.deref_mut.result.now.entries (subst (λ (asks : List WaitingAsk). ask_count c.args.client asks ≤ 1) (sym read) one)
    ∙ ap (without_client c.args.client) read)
  where
    read : asks_of c.deref_mut.result.now.entries ≡ asks_in c.self.inside.entries
    read = asks_read _ _ _ c.in-Some.is c.deref_mut.ensures.value

pub returns-clause-ask : goal.returns-clause-ask
returns-clause-ask c = rw (← c.self.view_is) (ap Some c.of-2.ensures
    ∙ ap (option_map (λ (entry : Entry). ask_of_entry (c.args.client, entry))) some ∙ looked_up c.args.client c.deref_mut.result.now.entries
    ∙ ap (ask_by c.args.client) (asks_read _ _ _ c.in-Some.is c.deref_mut.ensures.value))
  where
    some : Some c.in_ok-entry.entry ≡ lookup (nat_eq c.args.client) c.deref_mut.result.now.entries
    some = sym c.in_ok-entry.was ∙ c.shift_remove.ensures.value ∙ ap (λ (key : ℕ). lookup (nat_eq key) c.deref_mut.result.now.entries) c.of.ensures

pub returns-clause-asks : goal.returns-clause-asks
returns-clause-asks c = rw (← c.self.view_is) (λ one. ap asks_of c.shift_remove.ensures.entries
    ∙ ap (λ (key : ℕ). asks_of (remove_entry (nat_eq key) c.deref_mut.result.now.entries)) c.of.ensures
    ∙ removed c.args.client c.deref_mut.result.now.entries (subst (λ (asks : List WaitingAsk). ask_count c.args.client asks ≤ 1) (sym read) one)
    ∙ ap (without_client c.args.client) read)
  where
    read : asks_of c.deref_mut.result.now.entries ≡ asks_in c.self.inside.entries
    read = asks_read _ _ _ c.in-Some.is c.deref_mut.ensures.value

pub returns-in_err-ask-clause-ask : goal.returns-in_err-ask-clause-ask
returns-in_err-ask-clause-ask c = search rules

pub returns-in_err-ask-clause-asks : goal.returns-in_err-ask-clause-asks
returns-in_err-ask-clause-asks c = grind (arith, common_steps)

pub close-requires-clause-some : goal.close-requires-clause-some
close-requires-clause-some c = search rules

pub close-requires-clause-few : goal.close-requires-clause-few
close-requires-clause-few c = search rules

pub returns-then-len-eq1-clause-ask : goal.returns-then-len-eq1-clause-ask
returns-then-len-eq1-clause-ask c = search rules

pub returns-then-len-eq1-clause-asks : goal.returns-then-len-eq1-clause-asks
returns-then-len-eq1-clause-asks c = grind (arith, common_steps)

pub returns-then-len-eq1-clause-maps : goal.returns-then-len-eq1-clause-maps
returns-then-len-eq1-clause-maps c = search rules

pub returns-in_default-clause-ask : goal.returns-in_default-clause-ask
returns-in_default-clause-ask c = search rules

pub returns-in_default-clause-asks : goal.returns-in_default-clause-asks
returns-in_default-clause-asks c = search rules

pub invariant_of-self-in_err-entry : goal.invariant_of-self-in_err-entry
invariant_of-self-in_err-entry c = search rules

pub returns-in_err-entry-clause-room : goal.returns-in_err-entry-clause-room
returns-in_err-entry-clause-room c = search rules

pub returns-in_err-entry-clause-maps : goal.returns-in_err-entry-clause-maps
returns-in_err-entry-clause-maps c = search rules

pub invariant_of-self-2 : goal.invariant_of-self-2
invariant_of-self-2 c = grind (arith, common_steps)

pub returns-clause-room : goal.returns-clause-room
returns-clause-room c = search rules

pub returns-clause-maps : goal.returns-clause-maps
returns-clause-maps c = grind (arith, common_steps)

-- Goals of `Queue::ask_of`.
use Rattle.std.proofs.Common.{◌≡◌, ℕ, None, Some, nat_eq, ap, sym, ◌∙◌}
use Rattle.std.specs.Map.{lookup}
use Rattle.std.specs.Option.{option_copied, option_map}
use Rattle.cb_asks.specs.Entries.{ask_of_entry}
use Rattle.cb_asks.specs.Queues.{ask_by, waiting_ask}
use Rattle.cb_asks.specs.declared.queue.Entry.{Entry}
use Rattle.cb_asks.proofs.Entries.{looked_up}
use Rattle.cb_asks.proofs.Maps.{asks_read}
use Rattle.cb_asks.proofs.queue.Queue.ask_of.Goals as goal

pub returns-in_err-entry : goal.returns-in_err-entry
returns-in_err-entry c = rw (← c.self.view_is) (ap (option_map waiting_ask) c.from_residual.ensures
    ∙ ap (option_map (λ (entry : Entry). ask_of_entry (c.args.client, entry))) none ∙ looked_up c.args.client c.deref.result.now.entries
    ∙ ap (ask_by c.args.client) (asks_read _ _ _ c.in-Some.is c.deref.ensures))
  where
    none : None ≡ lookup (nat_eq c.args.client) c.deref.result.now.entries
    none = sym (ap option_copied c.in_err-entry.was) ∙ c.get.ensures.value ∙ ap (λ (key : ℕ). lookup (nat_eq key) c.deref.result.now.entries) c.of.ensures

pub returns : goal.returns
returns c = rw (← c.self.view_is) (ap Some c.of-2.ensures
    ∙ ap (option_map (λ (entry : Entry). ask_of_entry (c.args.client, entry))) some ∙ looked_up c.args.client c.deref.result.now.entries
    ∙ ap (ask_by c.args.client) (asks_read _ _ _ c.in-Some.is c.deref.ensures))
  where
    some : Some c.in_ok-entry.entry.now ≡ lookup (nat_eq c.args.client) c.deref.result.now.entries
    some = sym (ap option_copied c.in_ok-entry.was) ∙ c.get.ensures.value ∙ ap (λ (key : ℕ). lookup (nat_eq key) c.deref.result.now.entries) c.of.ensures

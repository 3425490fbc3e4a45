-- By which word an ask that left its queue was spent.
use Rattle.std.proofs.Common.{◌≡◌, ◌≢◌, ◌∙◌, ℕ, List, Option, Some, None, refl, ap, arith}
use Rattle.std.specs.Option.{option_map}
use Rattle.cb_asks.proofs.Queues.{found_client, found_counted}
use Rattle.cb_asks.specs.Asks.{AsksState, IsSpent, queue_at}
use Rattle.cb_asks.specs.Queues.{Asked, ask_by, asked, granted}
use Rattle.cb_asks.specs.declared.ask.Fate.{Fate}
use Rattle.cb_asks.specs.declared.ask.Fate.TheVariants as fate
use Rattle.cb_protocol.specs.Deadlock.{ask_count}
use Rattle.cb_protocol.specs.Server.{WaitingAsk}

-- a first ask that left is granted as it was asked
pub granted_first : (first : Option WaitingAsk) (ask : Asked) (said : Fate) → option_map asked first ≡ Some ask
    → said ≡ fate.Granted ask.client ask.write_grant → option_map granted first ≡ Some said
granted_first None ask said is e = absurd cc
granted_first (Some first) ask said is e = grind (arith, is, e)

-- a client's ask, wherever it waited, was spent by a word about its client
pub spent : (before : AsksState) (client : ℕ) (word : ℕ → Fate) (removed : Option Asked) (said : Option Fate)
    → said ≡ option_map (λ (ask : Asked). word ask.client) removed
    → ((page : ℕ) → ask_count client (queue_at before page) ≢ 0 → removed ≡ option_map asked (ask_by client (queue_at before page)))
    → (((page : ℕ) → ask_count client (queue_at before page) ≡ 0) → removed ≡ None)
    → IsSpent before client (word client) said
spent before client word removed said e is none = record {
  some = λ page some. e ∙ ap spoken (is page some) ∙ found page some (ask_by client (queue_at before page)) refl;
  none = λ nowhere. e ∙ ap spoken (none nowhere);
}
  where
    spoken : Option Asked → Option Fate
    spoken = option_map (λ (ask : Asked). word ask.client)

    found : (page : ℕ) → ask_count client (queue_at before page) ≢ 0 → (x : Option WaitingAsk) → ask_by client (queue_at before page) ≡ x
        → spoken (option_map asked x) ≡ Some (word client)
    found page some None e = absurd (some (found_counted client (queue_at before page) e))
    found page some (Some ask) e = ap (λ (c : ℕ). Some (word c)) (found_client client (queue_at before page) ask e)

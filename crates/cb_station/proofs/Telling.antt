-- A station stays one whoever is told, and whatever threads tell each other.
use Rattle.std.proofs.Common.{◌≡◌, ◌∙◌, ℕ, List, Option, true, ap, subst, sym}
use Rattle.cb_hands.specs.Hands.{HandState}
use Rattle.cb_hands.specs.declared.entry.Entry.{Entry}
use Rattle.cb_mailboxes.specs.Dispatching as dispatching
use Rattle.cb_mailboxes.specs.Dispatching.{DispatcherState}
use Rattle.cb_page.specs.Clients.{Clients}
use Rattle.cb_server.specs.ServerValue.{commits_of}
use Rattle.cb_station.specs.Flags.{AreFlags}
use Rattle.cb_station.specs.Stations.{IsStation}
use Rattle.cb_station.specs.declared.station.flags.Flags.{Flags}

module _ (d : DispatcherState) (hands : List (Option HandState)) (history : List Entry) (flags : Flags) (is : IsStation (record { dispatcher = d; hands = hands; history = history; flags = flags })) where
  -- by other flags
  pub with_flags : (next : Flags) → AreFlags next → IsStation (record { dispatcher = d; hands = hands; history = history; flags = next })
  with_flags next are =
      record { arisen = is.arisen; plain = is.plain; clients = is.clients; legal = is.legal; replays = is.replays; hand = is.hand; flags = are }

  -- with others who are to be told
  pub with_others : (e : DispatcherState) (clients : Clients) (next : Flags) → e ≡ dispatching.with_untold d clients → AreFlags next → IsStation (record { dispatcher = e; hands = hands; history = history; flags = next })
  with_others e clients next same are =
      subst (λ (x : DispatcherState). IsStation (record { dispatcher = x; hands = hands; history = history; flags = next })) (sym same)
      (record { arisen = is.arisen; plain = is.plain; clients = is.clients; legal = is.legal; replays = is.replays; hand = is.hand; flags = are })

-- as many are forgotten
pub as_forgotten : (d e : DispatcherState) (clients : Clients) (n : ℕ) → e ≡ dispatching.with_untold d clients → n ≡ (commits_of d.server).forgotten → n ≡ (commits_of e.server).forgotten
as_forgotten d e clients n same forgotten = forgotten ∙ ap (λ (x : DispatcherState). (commits_of x.server).forgotten) (sym same)

-- a closed one may be halted
pub closed_flags : (flags : Flags) → flags.closed ≡ true → AreFlags flags
closed_flags flags closed = record { halting = λ h. closed; ended = λ e. closed }

pub noted_flags : (flags : Flags) → AreFlags flags → AreFlags (record flags { news = true })
noted_flags flags are = record { halting = are.halting; ended = are.ended }

-- What a station's calls do as a client joins, begins another incarnation, and leaves.
use Rattle.std.specs.Prelude.{◌≡◌, ◌≢◌, ◌↔◌, ◌⊎◌, ◌+◌, ◌<◌, ◌≤◌, ℕ, [], None, Some, true, ⊤}
use Rattle.std.specs.Prelude.{Result, Err, IfErr, IfOk, OnErr, OnOk, slice_set}
use Rattle.std.specs.Option.{is_some}
use Rattle.cb_hands.specs.Hands.{HandState, empty_hand}
use Rattle.cb_hands.specs.Joined.{Follow, IsHeld, stored_at}
use Rattle.cb_mailboxes.specs.Dispatching.{Everybody, Others, Posts, emptied}
use Rattle.cb_page.specs.Numbers.{max_number}
use Rattle.cb_protocol.specs.AnyMessages.{MessageComes}
use Rattle.cb_protocol.specs.Messages.{Hello}
use Rattle.cb_station.specs.Stations.{IsUnchanged, StationState, mailbox_of, server_of}
use Rattle.cb_station.specs.declared.office_fault.OfficeFault.{OfficeFault}
use Rattle.cb_station.specs.declared.office_fault.OfficeFault.TheVariants as office

-- The client joined: with which hand, what that made of the station, and why it was refused.
pub record Joined (before : StationState) (client : ℕ) (result : Result HandState OfficeFault)
    (after : StationState) : Type 0 where
  pub foreign : (result ≡ Err office.Foreign)
      ↔ (before.dispatcher.server.limits.clients ≤ client)
  pub joined : (result ≡ Err office.Joined) ↔ (is_some (stored_at before.hands client) ≡ true)
  pub exhausted : (result ≡ Err office.Exhausted)
      ↔ ((client < before.dispatcher.server.limits.clients)
      × (stored_at before.hands client ≡ None)
      × (max_number ≤ ((server_of before).session client).current))
  pub others : (result ≢ Err office.NotHeld) × (result ≢ Err office.NotLive)
      × (result ≢ Err office.Old)
  pub err : OnErr result (IsUnchanged before after)
  pub hand : IfOk result (λ hand. hand ≡ empty_hand client
      (((server_of before).session client).current + 1) before.dispatcher.server.limits.pages)
  pub posts : OnOk result (Posts before.dispatcher
      (MessageComes client (((server_of before).session client).current + 1) Hello)
      (emptied (mailbox_of before) client) Everybody after.dispatcher)
  pub hands : IfOk result (λ hand. after.hands ≡ slice_set before.hands client (Some hand))
  pub history : after.history ≡ before.history
  pub flags : after.flags ≡ before.flags

-- A client with that hand began another incarnation: what that made of both, and why it was
-- refused.
pub record Restarted (before : StationState) (hand : HandState) (incarnation : ℕ)
    (result : Result HandState (OfficeFault × HandState)) (after : StationState) : Type 0 where
  pub refused : IfErr result (λ refused. (refused.1 ≡ hand) × IsUnchanged before after)
  pub foreign : IfErr result (λ refused.
      (refused.0 ≡ office.Foreign) ↔ (IsHeld before.hands hand → ⊥))
  pub old : IfErr result (λ refused.
      (refused.0 ≡ office.Old) ↔ (IsHeld before.hands hand × (incarnation ≤ hand.incarnation)))
  pub faults : IfErr result (λ refused.
      (refused.0 ≡ office.Foreign) ⊎ (refused.0 ≡ office.Old) ⊎ (refused.0 ≡ office.Memory))
  pub ok : OnOk result (IsHeld before.hands hand × (hand.incarnation < incarnation))
  pub next : IfOk result (λ next. next
      ≡ empty_hand hand.client incarnation before.dispatcher.server.limits.pages)
  pub posts : OnOk result (Posts before.dispatcher (MessageComes hand.client incarnation Hello)
      (emptied (mailbox_of before) hand.client) Everybody after.dispatcher)
  pub stored : IfOk result (λ next. Follow before.hands after.hands hand next)
  pub history : after.history ≡ before.history
  pub flags : after.flags ≡ before.flags

-- The client with that hand left: what that made of the station, and why it was refused.
pub record Left (before : StationState) (hand : HandState)
    (result : Result ⊤ (OfficeFault × HandState)) (after : StationState) : Type 0 where
  pub refused : IfErr result (λ refused. (refused.1 ≡ hand) × IsUnchanged before after)
  pub foreign : IfErr result (λ refused.
      (refused.0 ≡ office.Foreign) ↔ (IsHeld before.hands hand → ⊥))
  pub exhausted : IfErr result (λ refused.
      (refused.0 ≡ office.Exhausted) ↔ (IsHeld before.hands hand × (max_number ≤ hand.incarnation)))
  pub faults : IfErr result (λ refused.
      (refused.0 ≡ office.Foreign) ⊎ (refused.0 ≡ office.Exhausted) ⊎ (refused.0 ≡ office.Memory))
  pub ok : OnOk result (IsHeld before.hands hand × (hand.incarnation < max_number))
  pub posts : OnOk result (Posts before.dispatcher
      (MessageComes hand.client (hand.incarnation + 1) Hello)
      (mailbox_of before) (Others hand.client) after.dispatcher)
  pub silent : OnOk result (mailbox_of after hand.client ≡ [])
  pub hands : OnOk result (after.hands ≡ slice_set before.hands hand.client None)
  pub history : after.history ≡ before.history
  pub flags : after.flags ≡ before.flags

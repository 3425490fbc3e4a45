-- What a station's calls do with a hand: its frames are taken, its mail is collected, it commits.
use Rattle.std.specs.Prelude.{◌≡◌, ◌↔◌, ◌⊎◌, ◌++◌, ◌∷◌, ℕ, Bool, true, false, List, [], ⊤}
use Rattle.std.specs.Prelude.{Option, Result, Err, IfErr, IfOk, IfSome, OnErr, OnOk, slice_get}
use Rattle.cb_mailboxes.specs.Dispatching.{Everybody, Posts, without_oldest}
use Rattle.cb_mailboxes.specs.Mail.{IsMailFor}
use Rattle.cb_frame.specs.declared.frame.Frame.{Frame}
use Rattle.cb_hands.specs.Hands.{HandState}
use Rattle.cb_hands.specs.declared.entry.Entry.{Entry}
use Rattle.cb_hands.specs.Joined.{Follow, IsHeld}
use Rattle.cb_station.specs.Commits.{AllowsCommit, RefusesCommit, txn_of, writes_of}
use Rattle.cb_station.specs.Copies.{BringsCopy}
use Rattle.cb_station.specs.Moves.{IsEntryOf, IsOwn, collected, committed, ended_if_over}
use Rattle.cb_station.specs.Moves.{given_back, is_plain, is_stray}
use Rattle.cb_station.specs.Stations.{IsUnchanged, StationState, mailbox_of, server_of}
use Rattle.cb_station.specs.Telling.{untold_in}
use Rattle.cb_station.specs.declared.office_fault.OfficeFault.{OfficeFault}
use Rattle.cb_station.specs.declared.office_fault.OfficeFault.TheVariants as office
use Rattle.cb_outbox.specs.Messages.{page_writes}
use Rattle.cb_protocol.specs.CommitLaws.{IsApplied}
use Rattle.cb_server.specs.Taking.{input_of, lacks_number_for}

-- A frame was handed in with the hand: what that made of both, and why it was refused.
pub record Took (before : StationState) (frame : Frame) (hand : HandState)
    (result : Result ⊤ OfficeFault) (after : StationState) (next : HandState) : Type 0 where
  pub foreign : (result ≡ Err office.Foreign)
      ↔ (IsOwn before frame hand × (is_plain frame.body ≡ true) → ⊥)
  pub exhausted : (result ≡ Err office.Exhausted)
      ↔ (IsOwn before frame hand × (is_plain frame.body ≡ true)
      × (lacks_number_for before.dispatcher.server frame ≡ true))
  pub faults : IfErr result (λ fault. (fault ≡ office.Foreign)
      ⊎ (fault ≡ office.Exhausted) ⊎ (fault ≡ office.Memory))
  pub err : OnErr result (IsUnchanged before after × (next ≡ hand))
  pub stray : OnOk result (is_stray hand frame.body ≡ true
      → IsUnchanged before after × (next ≡ hand))
  pub posts : OnOk result (is_stray hand frame.body ≡ false
      → Posts before.dispatcher (input_of frame) (mailbox_of before) Everybody after.dispatcher)
  pub taken : OnOk result (lacks_number_for before.dispatcher.server frame ≡ false)
  pub moved : OnOk result (is_stray hand frame.body ≡ false
      → next ≡ ended_if_over (server_of after) (given_back hand frame.body))
  pub stored : OnOk result (Follow before.hands after.hands hand next)
  pub history : after.history ≡ before.history
  pub flags : after.flags ≡ before.flags

-- The oldest frame of the mailbox was collected into the hand: what that made of both.
pub record Collected (before : StationState) (hand : HandState)
    (result : Result (Option Frame) OfficeFault) (after : StationState) (next : HandState)
    : Type 0 where
  pub foreign : (result ≡ Err office.Foreign) ↔ (IsHeld before.hands hand → ⊥)
  pub faults : IfErr result (λ fault. (fault ≡ office.Foreign) ⊎ (fault ≡ office.Memory))
  pub err : OnErr result (IsUnchanged before after × (next ≡ hand))
  pub oldest : IfOk result (λ frame. frame ≡ slice_get (mailbox_of before hand.client) 0)
  pub sent : IfOk result (λ frame. IfSome frame (IsMailFor (server_of before) hand.client))
  pub brings : IfOk result (λ frame. IfSome frame (BringsCopy (server_of before) hand next))
  pub rest : OnOk result ((client : ℕ)
      → mailbox_of after client ≡ without_oldest (mailbox_of before) hand.client client)
  pub server : after.dispatcher.server ≡ before.dispatcher.server
  pub untold : untold_in after ≡ untold_in before
  pub moved : IfOk result (λ frame. next ≡ collected (server_of before) hand frame)
  pub stored : OnOk result (Follow before.hands after.hands hand next)
  pub history : after.history ≡ before.history
  pub flags : after.flags ≡ before.flags

-- A commit was handed in with these reads: one entry more, of that frame and these reads, what that
-- made of both, and why it was refused: the first reason that stands, else want of memory.
pub record Committed (before : StationState) (frame : Frame) (reads : List Bool)
    (hand : HandState) (result : Result ℕ OfficeFault) (after : StationState) (next : HandState)
    : Type 0 where
  pub refused : IfErr result (λ fault. RefusesCommit before frame hand reads fault
      ⊎ ((fault ≡ office.Memory) × (number : ℕ) × AllowsCommit before frame hand reads number))
  pub err : OnErr result (IsUnchanged before after × (next ≡ hand))
  pub allowed : IfOk result (AllowsCommit before frame hand reads)
  pub entry : OnOk result ((entry : Entry) × (after.history ≡ before.history ++ entry ∷ [])
      × IsEntryOf hand (txn_of frame) (writes_of frame) reads entry)
  pub posts : OnOk result (Posts before.dispatcher (input_of frame) (mailbox_of before) Everybody
      after.dispatcher)
  pub applied : OnOk result (IsApplied (server_of before) (server_of after) hand.client
      hand.incarnation (txn_of frame) (page_writes (writes_of frame)))
  pub taken : OnOk result (lacks_number_for before.dispatcher.server frame ≡ false)
  pub moved : IfOk result (λ number. next ≡ committed hand (writes_of frame) number)
  pub stored : OnOk result (Follow before.hands after.hands hand next)
  pub flags : OnOk result (after.flags ≡ record before.flags { news = true })

-- What a commit that was taken, and noted, leaves.
use Rattle.std.proofs.Common.{◌≡◌, ◌<◌, ◌≤◌, ℕ, Bool, true, false, Ok, List, [], ◌∷◌, ◌++◌, length, map, refl, sym, ◌∙◌, ap, subst, true≢false}
use Rattle.std.specs.List.{All, AllByRecursion}
use Rattle.std.proofs.lemmas.List.Elements.{All-from_recursion}
use Rattle.cb_frame.specs.Grammar.{BodyFits, page_of}
use Rattle.cb_frame.specs.declared.frame.Body.{Body}
use Rattle.cb_frame.specs.declared.frame.Body.TheVariants as body
use Rattle.cb_frame.specs.declared.frame.Frame.{Frame}
use Rattle.cb_frame.specs.declared.writes.Write.{Write}
use Rattle.cb_hands.specs.Hands.{HandState, without_permissions}
use Rattle.cb_hands.specs.Joined.{Follow}
use Rattle.cb_hands.specs.OwnHand.{all_restamped, pages_written}
use Rattle.cb_hands.specs.declared.entry.Entry.{Entry}
use Rattle.cb_mailboxes.specs.Dispatching.{Everybody, Posts}
use Rattle.cb_outbox.specs.Messages.{body_of, messages_of, page_writes}
use Rattle.cb_page.specs.Bounds.{Bounds}
use Rattle.cb_protocol.specs.AnyMessages.{MessageComes}
use Rattle.cb_protocol.specs.CommitLaws.{IsApplied}
use Rattle.cb_protocol.specs.Messages as protocol
use Rattle.cb_server.specs.ServerValue.{IsServer}
use Rattle.cb_server.specs.Taking.{Does, input_of, lacks_number_for}
use Rattle.cb_station.proofs.Calls.{commits_by, writes_within}
use Rattle.cb_station.proofs.Holding.{holds_committed}
use Rattle.cb_station.specs.Calls.{Committed}
use Rattle.cb_station.specs.Commits.{AllowsCommit, is_live, txn_in, txn_of, writes_in, writes_of}
use Rattle.cb_station.specs.Moves.{IsEntryOf, IsOwn, committed, is_commit}
use Rattle.cb_station.specs.Stations.{IsStation, StationState, mailbox_of, server_of}
use Rattle.cb_station.specs.Written.{HoldsWritten}

-- a Commit says its transaction and its writes
commit_says : (x : Body) → is_commit x ≡ true → body_of x ≡ protocol.Commit (txn_in x) (page_writes (writes_in x))
commit_says (body.Commit txn writes) e = refl
commit_says (body.Short said) e = absurd (true≢false (sym e))
commit_says (body.Granted page grant version bytes) e = absurd (true≢false (sym e))

-- of a number that is at least 1
commit_numbered : (limits : Bounds) (x : Body) → is_commit x ≡ true → BodyFits limits x → 1 ≤ txn_in x
commit_numbered limits (body.Commit txn writes) e fits = fits.0.0
commit_numbered limits (body.Short said) e fits = absurd (true≢false (sym e))
commit_numbered limits (body.Granted page grant version bytes) e fits = absurd (true≢false (sym e))

-- the pages of the writes
pages_alike : (writes : List Write) → map page_of writes ≡ pages_written (page_writes writes)
pages_alike [] = refl
pages_alike (write ∷ writes) = ap (λ (pages : List ℕ). write.page ∷ pages) (pages_alike writes)

within : (size : ℕ) (writes : List Write) → AllByRecursion (λ (write : Write). write.page < size) writes → AllByRecursion (λ page. page < size) (map page_of writes)
within size [] all = tt
within size (write ∷ writes) all = (all.0, within size writes all.1)

module _ (old : StationState) (frame : Frame) (hand : HandState) (reads : List Bool) (number : ℕ) (allowed : AllowsCommit old frame hand reads number) (entry : Entry)
    (entered : IsEntryOf hand (txn_of frame) (writes_of frame) reads entry) where
  -- the entry's pages are the hand's
  pub entry_within : All (λ page. page < length hand.held) entry.writes.items
  entry_within = subst (λ (pages : List ℕ). All (λ page. page < length hand.held) pages) (sym entered.writes)
      (All-from_recursion _ _ (within (length hand.held) (writes_of frame) (writes_within hand (txn_of frame) (writes_of frame) allowed.permitted.1)))

  -- the hand is as the commit leaves it
  pub noted_hand : (other : HandState) → other ≡ without_permissions (all_restamped hand entry.writes.items number) → other ≡ committed hand (writes_of frame) number
  noted_hand other is = is ∙ ap (λ (pages : List ℕ). without_permissions (all_restamped hand pages number)) (entered.writes ∙ pages_alike (writes_of frame))

  -- what holds of every station holds, and the commit is applied
  pub noted_commit : (new : StationState) (other : HandState) → IsStation old → IsServer new.dispatcher.server → Posts old.dispatcher (input_of frame) (mailbox_of old) Everybody new.dispatcher
      → new.history ≡ old.history ++ entry ∷ [] → other ≡ without_permissions (all_restamped hand entry.writes.items number) → Follow old.hands new.hands hand other → new.flags ≡ old.flags
      → IsStation new × IsApplied (server_of old) (server_of new) hand.client hand.incarnation (txn_of frame) (page_writes (writes_of frame))
  noted_commit new other is arises posts history becomes follow flags =
      commits_by old new is arises frame (txn_of frame) (writes_of frame) (messages_of posts.said) hand other reads entry does own.held own.client own.incarnation
      (commit_numbered old.dispatcher.server.limits frame.body allowed.own.1 own.fits.body) (subst (λ (k : ℕ). is_live (server_of old) k (txn_of frame) ≡ true) own.client allowed.live) allowed.permitted.1
      (noted_hand other becomes ∙ ap (λ (n : ℕ). committed hand (writes_of frame) n) allowed.is_next) follow entered history flags
    where
      own : IsOwn old frame hand
      own = allowed.own.0

      does : Does old.dispatcher.server (MessageComes frame.client frame.incarnation (protocol.Commit (txn_of frame) (page_writes (writes_of frame)))) (messages_of posts.said) new.dispatcher.server
      does = subst (λ (b : protocol.Body). Does old.dispatcher.server (MessageComes frame.client frame.incarnation b) (messages_of posts.said) new.dispatcher.server) (commit_says frame.body allowed.own.1) posts.does

  -- what a client wrote it still holds
  pub noted_holds : (new : StationState) (other : HandState) → IsStation old → Posts old.dispatcher (input_of frame) (mailbox_of old) Everybody new.dispatcher
      → other ≡ without_permissions (all_restamped hand entry.writes.items number) → Follow old.hands new.hands hand other → HoldsWritten (server_of old) old.hands → HoldsWritten (server_of new) new.hands
  noted_holds new other is posts becomes follow h =
      holds_committed old.dispatcher.server new.dispatcher.server is.arisen old.dispatcher.server.limits.pages frame (txn_of frame) (writes_of frame) hand other number (messages_of posts.said) does old.hands new.hands is.clients
      own.held (is.hand hand.client hand own.held) own.client allowed.permitted.1 (noted_hand other becomes) follow h
    where
      own : IsOwn old frame hand
      own = allowed.own.0

      does : Does old.dispatcher.server (MessageComes frame.client frame.incarnation (protocol.Commit (txn_of frame) (page_writes (writes_of frame)))) (messages_of posts.said) new.dispatcher.server
      does = subst (λ (b : protocol.Body). Does old.dispatcher.server (MessageComes frame.client frame.incarnation b) (messages_of posts.said) new.dispatcher.server) (commit_says frame.body allowed.own.1) posts.does

  -- so it is a commit that was taken
  pub noted_committed : (new : StationState) (other : HandState) → IsStation old → IsServer new.dispatcher.server → Posts old.dispatcher (input_of frame) (mailbox_of old) Everybody new.dispatcher → lacks_number_for old.dispatcher.server frame ≡ false
      → new.history ≡ old.history ++ entry ∷ [] → other ≡ without_permissions (all_restamped hand entry.writes.items number) → Follow old.hands new.hands hand other → new.flags ≡ old.flags
      → Committed old frame reads hand (Ok number) (record new { flags = record old.flags { news = true } }) other
  noted_committed new other is arises posts taken history becomes follow flags = record {
    refused = tt;
    err = tt;
    allowed = allowed;
    entry = (entry, history, entered);
    posts = posts;
    applied = (noted_commit new other is arises posts history becomes follow flags).1;
    taken = taken;
    moved = noted_hand other becomes;
    stored = follow;
    flags = refl;
  }

-- What holds of every station holds after each call, by what the call did.
use Rattle.std.proofs.Common.{◌≡◌, ◌≢◌, true≢false, ◌<◌, ◌≤◌, ◌+◌, ℕ, Bool, true, false, not, List, [], ◌∷◌, ◌++◌, length, replicate, refl, sym, ◌∙◌, ap, subst, arith, Option, Some, None, inl, inr, ◌⊎◌, slice_set, Result, Ok, Err, OnOk, OnErr, is_err}
use Rattle.std.proofs.lemmas.Bool.{cases_eq, cases_lt}
use Rattle.std.proofs.lemmas.List.{get_or_past, get_or-replicate, get_or-set_other, get_or-set_same, length-replicate, length-set}
use Rattle.std.specs.List.{AllByRecursion}
use Rattle.cb_hands.proofs.Agreeing.{hands_meet}
use Rattle.cb_hands.specs.Agreement.{Meet}
use Rattle.cb_commit.specs.History.{CommitsState}
use Rattle.cb_commit.specs.Stores.{StoreState}
use Rattle.cb_frame.specs.declared.frame.Body.{Body}
use Rattle.cb_frame.specs.declared.frame.Body.TheVariants as body
use Rattle.cb_frame.specs.declared.frame.Frame.{Frame}
use Rattle.cb_frame.specs.declared.frame.ShortBody.TheVariants as short
use Rattle.cb_frame.specs.declared.writes.Write.{Write}
use Rattle.cb_hands.specs.Hands.{HandState, empty_hand, held_at}
use Rattle.cb_hands.specs.declared.grant.Held.{Held}
use Rattle.cb_hands.proofs.Noting.{new_server_is_noted}
use Rattle.cb_hands.specs.Running.{Replays}
use Rattle.cb_hands.specs.declared.entry.Entry.{Entry}
use Rattle.cb_server_state.specs.States.{limits_of, opening_of as opening_in, server_of as state_in}
use Rattle.cb_server_state.specs.declared.server_state.ServerState.{ServerState}
use Rattle.cb_hands.specs.Joined.{Follow, IsHeld, stored_at}
use Rattle.cb_station.proofs.Following.{follow_length, has_place}
use Rattle.cb_station.proofs.Keeping.{Step, commit_others_stored, commit_stored, follow_stored, goes_stored, new_stored, others_stored, own_stored_by, received_stored, told_stored}
use Rattle.cb_server.proofs.LawsKept.{rules_kept}
use Rattle.cb_station.proofs.Stations.{Steps, all_permitted, commits_station, keeps_station, may_be_applied}
use Rattle.cb_station.specs.Commits.{is_live}
use Rattle.cb_station.specs.Flags.{AreFlags}
use Rattle.cb_station.specs.Moves.{IsEntryOf, MayWriteAll, collected, committed, ended_if_over, given_back, is_by, is_plain, is_stray, received_of}
use Rattle.cb_station.specs.Stations.{IsStation, IsStored, StationState, server_of}
use Rattle.cb_outbox.specs.Messages.{body_of, page_writes}
use Rattle.cb_page.specs.Bounds.{Bounds}
use Rattle.cb_protocol.proofs.CommitsApplied.{applied_where_it_may}
use Rattle.cb_protocol.proofs.HelloStarts.{greater_hello}
use Rattle.cb_protocol.proofs.OthersKeep.{others_keep_rows_and_permissions}
use Rattle.cb_protocol.proofs.ServedSteps.{no_other_applies}
use Rattle.cb_protocol.specs.AnyMessages.{MessageComes, ReachesDisk}
use Rattle.cb_protocol.specs.Basics.{IsIn, Limits}
use Rattle.cb_protocol.specs.CommitLaws.{IsApplied}
use Rattle.cb_protocol.specs.LivesWorld.{server_of_life}
use Rattle.cb_protocol.specs.Messages as protocol
use Rattle.cb_protocol.specs.Messages.{Commit, GiveBack, Hello, Message, PageWrite}
use Rattle.cb_protocol.specs.Server.{Server}
use Rattle.cb_protocol.specs.StepsKeep.{KeepsClient}
use Rattle.cb_protocol.specs.WaitsFor.{on_cycle}
use Rattle.cb_protocol.specs.World.{Opening}
use Rattle.cb_server.specs.ServerValue.{IsNew, IsResumed, IsServer, ServerValue, commits_of, server_of as server_in}
use Rattle.cb_server.specs.Taking.{Does}

-- a station that has just opened
opened_station : (limits : Bounds) (store : StoreState) (station : StationState) → station.dispatcher.server.limits ≡ limits → (commits_of station.dispatcher.server).opening ≡ store
    → Replays (opening_in store) [] (server_of station) → IsServer station.dispatcher.server → limits.keep_write ≡ false
    → station.hands ≡ replicate limits.clients None → station.history ≡ [] → AreFlags station.flags → IsStation station
opened_station limits store station same opening noted arisen plain hands history flags = record {
  arisen = arisen;
  plain = ap (λ (b : Bounds). b.keep_write) same ∙ plain;
  clients = ap length hands ∙ length-replicate limits.clients None ∙ sym (ap (λ (b : Bounds). b.clients) same);
  legal = rw history tt;
  replays = rw history (subst (λ (o : StoreState). Replays (opening_in o) [] (server_of station)) (sym opening) noted);
  flags = flags;
  hand = λ client hand e. absurd (nobody client hand (ap (λ (l : List (Option HandState)). stored_at l client) (sym hands) ∙ e) (cases_lt client limits.clients));
}
  where
    nobody : (client : ℕ) (hand : HandState) → stored_at (replicate limits.clients None) client ≡ Some hand → (client < limits.clients) ⊎ (limits.clients ≤ client) → ⊥
    nobody client hand e (inl lt) = let z : None ≡ Some hand = sym (get_or-replicate limits.clients client None None lt) ∙ e in cc
    nobody client hand e (inr le) = let n : Option HandState = None in let l = length-replicate limits.clients n in
        let z : None ≡ Some hand = sym (get_or_past (replicate limits.clients n) client n (omega (arith, l, le))) ∙ e in cc

-- a new one
pub new_station : (limits : Bounds) (store : StoreState) (station : StationState) → IsNew limits store station.dispatcher.server → IsServer station.dispatcher.server → limits.keep_write ≡ false
    → station.hands ≡ replicate limits.clients None → station.history ≡ [] → AreFlags station.flags → IsStation station
new_station limits store station new =
    opened_station limits store station new.limits (ap (λ (k : CommitsState). k.opening) new.commits)
    (subst (λ (s : Server). Replays (opening_in store) [] s) (sym new.server) (new_server_is_noted (limits_of limits) (opening_in store)))

-- no entries replay to the server of a life, as it begins
resumed_is_noted : (limits : Limits) (opening : Opening) (floor : ℕ) → Replays opening [] (server_of_life limits opening floor)
resumed_is_noted limits opening floor = record { commits = refl; version = λ page. refl; bytes = λ page. refl }

-- a resumed one
pub resumed_station : (limits : Bounds) (store : StoreState) (floor : ℕ) (station : StationState) → IsResumed limits store floor station.dispatcher.server → IsServer station.dispatcher.server
    → limits.keep_write ≡ false → station.hands ≡ replicate limits.clients None → station.history ≡ [] → AreFlags station.flags → IsStation station
resumed_station limits store floor station is =
    opened_station limits store station is.limits is.opening
    (subst (λ (s : Server). Replays (opening_in store) [] s) (sym is.server) (resumed_is_noted (limits_of limits) (opening_in store) floor))

-- two stored hands
pub meets : (station : StationState) (one other : HandState) → IsStation station → IsHeld station.hands one → IsHeld station.hands other → one.client ≢ other.client → Meet one other
meets station one other is first second apart =
    hands_meet (server_of station) one other (rules_kept station.dispatcher.server is.arisen).0 (is.hand one.client one first).agrees (is.hand other.client other second).agrees apart

-- what is stored of each client once one entry was set
set_stored : (P : ℕ → HandState → Type 0) (old new : List (Option HandState)) (client : ℕ) (entry : Option HandState) → new ≡ slice_set old client entry → client < length old
    → ((hand : HandState) → entry ≡ Some hand → P client hand) → ((d : ℕ) (hand : HandState) → d ≢ client → stored_at old d ≡ Some hand → P d hand) → (d : ℕ) (hand : HandState) → stored_at new d ≡ Some hand → P d hand
set_stored P old new client entry set lt own rest d hand e = by (cases_eq d client)
  where
    by : (d ≡ client) ⊎ (d ≢ client) → P d hand
    by (inl here) = subst (λ (k : ℕ). P k hand) (sym here)
        (own hand (sym (get_or-set_same old client entry None lt) ∙ sym (ap (λ (l : List (Option HandState)). stored_at l client) set) ∙ ap (λ (k : ℕ). stored_at new k) (sym here) ∙ e))
    by (inr apart) = rest d hand apart (sym (get_or-set_other old client d entry None apart) ∙ sym (ap (λ (l : List (Option HandState)). stored_at l d) set) ∙ e)

-- a frame that `take` takes is no Hello and no Commit
pub not_hello : (x : Body) → is_plain x ≡ true → body_of x ≢ Hello
not_hello (body.Short short.Hello) p e = true≢false (sym p)
not_hello (body.Short (short.AskRead t p)) q e = let z : protocol.AskRead t p ≡ Hello = e in cc
not_hello (body.Short (short.AskWrite t p g)) q e = let z : protocol.AskWrite t p g ≡ Hello = e in cc
not_hello (body.Short (short.GiveBack p g)) q e = let z : GiveBack p g ≡ Hello = e in cc
not_hello (body.Short (short.InUse t p g)) q e = let z : protocol.InUse t p g ≡ Hello = e in cc
not_hello (body.Short (short.Drop t)) q e = let z : protocol.Drop t ≡ Hello = e in cc
not_hello (body.Short short.Welcome) q e = let z : protocol.Welcome ≡ Hello = e in cc
not_hello (body.Short (short.MayWrite t p g)) q e = let z : protocol.MayWrite t p g ≡ Hello = e in cc
not_hello (body.Short (short.Callback p g)) q e = let z : protocol.Callback p g ≡ Hello = e in cc
not_hello (body.Short (short.Done t n)) q e = let z : protocol.Done t n ≡ Hello = e in cc
not_hello (body.Short (short.AbortNow t)) q e = let z : protocol.AbortNow t ≡ Hello = e in cc
not_hello (body.Short (short.Downgraded p g t)) q e = let z : protocol.Downgraded p g t ≡ Hello = e in cc
not_hello (body.Short (short.Downgrade p g t)) q e = let z : protocol.Downgrade p g t ≡ Hello = e in cc
not_hello (body.Commit t ws) p e = true≢false (sym p)
not_hello (body.Granted p g v bs) q e = let z : protocol.Granted p g v bs ≡ Hello = e in cc

pub not_that : (x : Body) → is_plain x ≡ true → (n : ℕ) (ws : List PageWrite) → body_of x ≢ Commit n ws
not_that (body.Short short.Hello) p n ws e = true≢false (sym p)
not_that (body.Short (short.AskRead t p)) q n ws e = let z : protocol.AskRead t p ≡ Commit n ws = e in cc
not_that (body.Short (short.AskWrite t p g)) q n ws e = let z : protocol.AskWrite t p g ≡ Commit n ws = e in cc
not_that (body.Short (short.GiveBack p g)) q n ws e = let z : GiveBack p g ≡ Commit n ws = e in cc
not_that (body.Short (short.InUse t p g)) q n ws e = let z : protocol.InUse t p g ≡ Commit n ws = e in cc
not_that (body.Short (short.Drop t)) q n ws e = let z : protocol.Drop t ≡ Commit n ws = e in cc
not_that (body.Short short.Welcome) q n ws e = let z : protocol.Welcome ≡ Commit n ws = e in cc
not_that (body.Short (short.MayWrite t p g)) q n ws e = let z : protocol.MayWrite t p g ≡ Commit n ws = e in cc
not_that (body.Short (short.Callback p g)) q n ws e = let z : protocol.Callback p g ≡ Commit n ws = e in cc
not_that (body.Short (short.Done t m)) q n ws e = let z : protocol.Done t m ≡ Commit n ws = e in cc
not_that (body.Short (short.AbortNow t)) q n ws e = let z : protocol.AbortNow t ≡ Commit n ws = e in cc
not_that (body.Short (short.Downgraded p g t)) q n ws e = let z : protocol.Downgraded p g t ≡ Commit n ws = e in cc
not_that (body.Short (short.Downgrade p g t)) q n ws e = let z : protocol.Downgrade p g t ≡ Commit n ws = e in cc
not_that (body.Commit t xs) p n ws e = true≢false (sym p)
not_that (body.Granted p g v bs) q n ws e = let z : protocol.Granted p g v bs ≡ Commit n ws = e in cc

-- once the copy is gone, nothing that is held is given back
returns_none : (hand : HandState) (x : Body) (page : ℕ) (held : Held) → held_at (given_back hand x).held page ≡ Some held → body_of x ≢ GiveBack page held.grant
returns_none hand (body.Short (short.GiveBack p g)) page held e f =
    let at : p ≡ page = (let z : GiveBack p g ≡ GiveBack page held.grant = f in cc) in
    let none : held_at (slice_set hand.held p None) p ≡ None = gone (cases_lt p (length hand.held)) in
    let z : None ≡ Some held = sym none ∙ ap (λ (k : ℕ). held_at (slice_set hand.held p None) k) at ∙ e in cc
  where
    gone : (p < length hand.held) ⊎ (length hand.held ≤ p) → held_at (slice_set hand.held p None) p ≡ None
    gone (inl lt) = get_or-set_same hand.held p None None lt
    gone (inr le) = let o : Option Held = None in let l = length-set hand.held p o in get_or_past (slice_set hand.held p None) p None (omega (arith, l, le))
returns_none hand (body.Short short.Hello) page held e f = let z : Hello ≡ GiveBack page held.grant = f in cc
returns_none hand (body.Short (short.AskRead t p)) page held e f = let z : protocol.AskRead t p ≡ GiveBack page held.grant = f in cc
returns_none hand (body.Short (short.AskWrite t p g)) page held e f = let z : protocol.AskWrite t p g ≡ GiveBack page held.grant = f in cc
returns_none hand (body.Short (short.InUse t p g)) page held e f = let z : protocol.InUse t p g ≡ GiveBack page held.grant = f in cc
returns_none hand (body.Short (short.Drop t)) page held e f = let z : protocol.Drop t ≡ GiveBack page held.grant = f in cc
returns_none hand (body.Short short.Welcome) page held e f = let z : protocol.Welcome ≡ GiveBack page held.grant = f in cc
returns_none hand (body.Short (short.MayWrite t p g)) page held e f = let z : protocol.MayWrite t p g ≡ GiveBack page held.grant = f in cc
returns_none hand (body.Short (short.Callback p g)) page held e f = let z : protocol.Callback p g ≡ GiveBack page held.grant = f in cc
returns_none hand (body.Short (short.Done t n)) page held e f = let z : protocol.Done t n ≡ GiveBack page held.grant = f in cc
returns_none hand (body.Short (short.AbortNow t)) page held e f = let z : protocol.AbortNow t ≡ GiveBack page held.grant = f in cc
returns_none hand (body.Short (short.Downgraded p g t)) page held e f = let z : protocol.Downgraded p g t ≡ GiveBack page held.grant = f in cc
returns_none hand (body.Short (short.Downgrade p g t)) page held e f = let z : protocol.Downgrade p g t ≡ GiveBack page held.grant = f in cc
returns_none hand (body.Commit t ws) page held e f = let z : Commit t (page_writes ws) ≡ GiveBack page held.grant = f in cc
returns_none hand (body.Granted p g v bs) page held e f = let z : protocol.Granted p g v bs ≡ GiveBack page held.grant = f in cc

-- what goes was held
pub given_there : (hand : HandState) (p g : ℕ) → not (is_by (held_at hand.held p) g) ≡ false → p < length hand.held
given_there hand p g e = elim (cases_lt p (length hand.held)) [
  | inl lt ↦ lt
  | inr le ↦ absurd (true≢false (sym (ap (λ (o : Option Held). not (is_by o g)) (get_or_past hand.held p None le)) ∙ e))
]

back_stored : (s : Server) (pages c : ℕ) (hand : HandState) (x : Body) → is_stray hand x ≡ false → IsStored s pages c hand → IsStored s pages c (given_back hand x)
back_stored s pages c hand (body.Short (short.GiveBack p g)) there is = goes_stored s pages c p hand (given_there hand p g there) is
back_stored s pages c hand (body.Short short.Hello) there is = is
back_stored s pages c hand (body.Short (short.AskRead t p)) there is = is
back_stored s pages c hand (body.Short (short.AskWrite t p g)) there is = is
back_stored s pages c hand (body.Short (short.InUse t p g)) there is = is
back_stored s pages c hand (body.Short (short.Drop t)) there is = is
back_stored s pages c hand (body.Short short.Welcome) there is = is
back_stored s pages c hand (body.Short (short.MayWrite t p g)) there is = is
back_stored s pages c hand (body.Short (short.Callback p g)) there is = is
back_stored s pages c hand (body.Short (short.Done t n)) there is = is
back_stored s pages c hand (body.Short (short.AbortNow t)) there is = is
back_stored s pages c hand (body.Short (short.Downgraded p g t)) there is = is
back_stored s pages c hand (body.Short (short.Downgrade p g t)) there is = is
back_stored s pages c hand (body.Commit t ws) there is = is
back_stored s pages c hand (body.Granted p g v bs) there is = is

-- a step of the server
module _ (old new : StationState) (is : IsStation old) (arises : IsServer new.dispatcher.server) where
  abbrev s : Server
  s = server_of old

  abbrev t : Server
  t = server_of new

  abbrev P : ℕ → HandState → Type 0
  P d hand = IsStored t new.dispatcher.server.limits.pages d hand

  step_of : (commits_of new.dispatcher.server).opening ≡ (commits_of old.dispatcher.server).opening → Step old.dispatcher.server new.dispatcher.server
  step_of opening = record { arose = is.arisen; arises = arises; opening = opening }

  pages_same : new.dispatcher.server.limits ≡ old.dispatcher.server.limits → (d : ℕ) (hand : HandState) → IsStored t old.dispatcher.server.limits.pages d hand → P d hand
  pages_same e d hand x = subst (λ (b : Bounds). IsStored t b.pages d hand) (sym e) x

  -- by a message of one client, by which no commit is applied
  module _ (c i : ℕ) (b : protocol.Body) (messages : List Message) (does : Does old.dispatcher.server (MessageComes c i b) messages new.dispatcher.server) (no_commit : (n : ℕ) (ws : List PageWrite) → b ≢ Commit n ws) where
    same_commits : t.commits ≡ s.commits
    same_commits = ap (λ (k : Server). k.commits) does.becomes ∙ no_other_applies on_cycle s (MessageComes c i b) (λ d j n ws e. no_commit n ws (let z : MessageComes c i b ≡ MessageComes d j (Commit n ws) = e in cc))

    keeps : (d : ℕ) → d ≢ c → KeepsClient s t d
    keeps d n = subst (λ (k : Server). KeepsClient s k d) (sym does.becomes) ((others_keep_rows_and_permissions on_cycle s).0 c i b d n)

    rest : (d : ℕ) (hand : HandState) → d ≢ c → stored_at old.hands d ≡ Some hand → P d hand
    rest d hand n e = pages_same does.limits d hand (others_stored old.dispatcher.server new.dispatcher.server old.dispatcher.server.limits.pages d hand (step_of does.opening) same_commits (keeps d n) (is.hand d hand e))

    steps : length new.hands ≡ length old.hands → new.flags ≡ old.flags → Steps old new
    steps e flags = record { step = step_of does.opening; limits = does.limits; hands = e; flags = flags }

    after_message : (entry : Option HandState) → new.hands ≡ slice_set old.hands c entry → c < length old.hands → new.history ≡ old.history → new.flags ≡ old.flags → ((hand : HandState) → entry ≡ Some hand → P c hand) → IsStation new
    after_message entry set lt history flags own = keeps_station old new is (steps (ap length set ∙ length-set old.hands c entry) flags) same_commits history (set_stored P old.hands new.hands c entry set lt own rest)

  -- a greater Hello, with which the client's hand holds nothing
  pub enters_station : (c i : ℕ) (messages : List Message) (hand : HandState) → Does old.dispatcher.server (MessageComes c i Hello) messages new.dispatcher.server → (s.session c).current < i
      → hand ≡ empty_hand c i old.dispatcher.server.limits.pages → new.hands ≡ slice_set old.hands c (Some hand) → c < length old.hands → new.history ≡ old.history → new.flags ≡ old.flags → IsStation new
  enters_station c i messages hand does greater empty set lt history flags =
      after_message c i Hello messages does (λ n ws e. let z : Hello ≡ Commit n ws = e in cc) (Some hand) set lt history flags
      (λ other e. let same : hand ≡ other = (let z : Some hand ≡ Some other = e in cc) in
      subst (λ (h : HandState). P c h) (sym empty ∙ same)
      (pages_same does.limits c _ (new_stored t c i old.dispatcher.server.limits.pages (ap (λ (k : Server). (k.session c).current) does.becomes ∙ (greater_hello on_cycle s c i greater).0.current))))

  -- or it has none
  pub leaves_station : (c i : ℕ) (messages : List Message) → Does old.dispatcher.server (MessageComes c i Hello) messages new.dispatcher.server
      → new.hands ≡ slice_set old.hands c None → c < length old.hands → new.history ≡ old.history → new.flags ≡ old.flags → IsStation new
  leaves_station c i messages does set lt history flags =
      after_message c i Hello messages does (λ n ws e. let z : Hello ≡ Commit n ws = e in cc) None set lt history flags (λ other e. absurd (let z : None ≡ Some other = e in cc))

  -- commits reach the disk
  pub flushed_station : (number : ℕ) (messages : List Message) → Does old.dispatcher.server (ReachesDisk number) messages new.dispatcher.server → new.hands ≡ old.hands → new.history ≡ old.history → new.flags ≡ old.flags → IsStation new
  flushed_station number messages does hands history flags = keeps_station old new is (record { step = step_of does.opening; limits = does.limits; hands = ap length hands; flags = flags }) commits history
      (λ d hand e. pages_same does.limits d hand (others_stored old.dispatcher.server new.dispatcher.server old.dispatcher.server.limits.pages d hand (step_of does.opening) commits
      (subst (λ (k : Server). KeepsClient s k d) (sym does.becomes) ((others_keep_rows_and_permissions on_cycle s).2 number d))
      (is.hand d hand (ap (λ (l : List (Option HandState)). stored_at l d) (sym hands) ∙ e))))
    where
      commits : t.commits ≡ s.commits
      commits = ap (λ (k : Server). k.commits) does.becomes ∙ no_other_applies on_cycle s (ReachesDisk number) (λ d j n ws e. let z : ReachesDisk number ≡ MessageComes d j (Commit n ws) = e in cc)

  -- a frame that `take` takes
  pub takes_station : (frame : Frame) (messages : List Message) (hand other : HandState) → Does old.dispatcher.server (MessageComes frame.client frame.incarnation (body_of frame.body)) messages new.dispatcher.server
      → IsHeld old.hands hand → frame.client ≡ hand.client → is_plain frame.body ≡ true → is_stray hand frame.body ≡ false
      → other ≡ ended_if_over t (given_back hand frame.body) → Follow old.hands new.hands hand other → new.history ≡ old.history → new.flags ≡ old.flags → IsStation new
  takes_station frame messages hand other does held name plain there becomes follow history flags =
      after_message frame.client frame.incarnation b messages does (not_commit frame.body plain) (Some other)
      (subst (λ (k : ℕ). new.hands ≡ slice_set old.hands k (Some other)) (sym name) follow.hands) (subst (λ (k : ℕ). k < length old.hands) (sym name) (has_place old.hands hand.client hand held)) history flags
      (λ h e. let same : other ≡ h = (let z : Some other ≡ Some h = e in cc) in subst (λ (k : HandState). P frame.client k) (sym becomes ∙ same) (pages_same does.limits frame.client _ own))
    where
      b : protocol.Body
      b = body_of frame.body

      not_commit : (x : Body) → is_plain x ≡ true → (n : ℕ) (ws : List PageWrite) → body_of x ≢ Commit n ws
      not_commit x p n ws = not_that x p n ws

      own : IsStored t old.dispatcher.server.limits.pages frame.client (ended_if_over t (given_back hand frame.body))
      own = own_stored_by old.dispatcher.server new.dispatcher.server old.dispatcher.server.limits.pages frame.client frame.incarnation b (given_back hand frame.body) (step_of does.opening) is.plain (not_hello frame.body plain)
          does.becomes (same_commits frame.client frame.incarnation b messages does (not_commit frame.body plain)) (returns_none hand frame.body)
          (back_stored s old.dispatcher.server.limits.pages frame.client hand frame.body there (subst (λ (k : ℕ). IsStored s old.dispatcher.server.limits.pages k hand) (sym name) (is.hand hand.client hand held)))

  -- a commit that is taken
  pub commits_by : (frame : Frame) (txn : ℕ) (writes : List Write) (messages : List Message) (hand other : HandState) (flags : List Bool) (entry : Entry)
      → Does old.dispatcher.server (MessageComes frame.client frame.incarnation (Commit txn (page_writes writes))) messages new.dispatcher.server
      → IsHeld old.hands hand → frame.client ≡ hand.client → frame.incarnation ≡ hand.incarnation → 1 ≤ txn → is_live s hand.client txn ≡ true → MayWriteAll hand txn writes
      → other ≡ committed hand writes (s.store.last_commit + 1) → Follow old.hands new.hands hand other → IsEntryOf hand txn writes flags entry → new.history ≡ old.history ++ entry ∷ []
      → new.flags ≡ old.flags → IsStation new × IsApplied s t hand.client hand.incarnation txn (page_writes writes)
  commits_by frame txn writes messages hand other flags entry does held name incarnation least live may becomes follow entered history as_it_was = (
    commits_station old new hand txn writes flags entry is (record { step = step; limits = does.limits; hands = follow_length old.hands new.hands hand other follow; flags = as_it_was }) stored.agrees.rows applied entered history
        (follow_stored P old.hands new.hands hand other follow (has_place old.hands hand.client hand held) (subst (λ (h : HandState). P hand.client h) (sym becomes) (pages_same does.limits hand.client _ own)) others),
    applied,
  )
    where
      step : Step old.dispatcher.server new.dispatcher.server
      step = step_of does.opening

      stored : IsStored s old.dispatcher.server.limits.pages hand.client hand
      stored = is.hand hand.client hand held

      does_own : Does old.dispatcher.server (MessageComes hand.client hand.incarnation (Commit txn (page_writes writes))) messages new.dispatcher.server
      does_own = subst (λ (k : ℕ). Does old.dispatcher.server (MessageComes hand.client k (Commit txn (page_writes writes))) messages new.dispatcher.server) incarnation
          (subst (λ (k : ℕ). Does old.dispatcher.server (MessageComes k frame.incarnation (Commit txn (page_writes writes))) messages new.dispatcher.server) name does)

      permitted : (write : PageWrite) → IsIn write (page_writes writes) → (s.store.holder write.page ≡ Some hand.client) × ((s.session hand.client).row write.page ≡ Some write.grant) × (write.page < length hand.held)
      permitted write i = all_permitted s old.dispatcher.server.limits.pages hand.client txn hand stored writes may write i

      applied : IsApplied s t hand.client hand.incarnation txn (page_writes writes)
      applied = subst (λ (k : Server). IsApplied s k hand.client hand.incarnation txn (page_writes writes)) (sym does_own.becomes)
          ((applied_where_it_may on_cycle s hand.client hand.incarnation txn (page_writes writes)).0
          (may_be_applied s old.dispatcher.server.limits.pages hand.client txn hand stored hand.incarnation writes refl least live may))

      own : IsStored t old.dispatcher.server.limits.pages hand.client (committed hand writes (s.store.last_commit + 1))
      own = commit_stored old.dispatcher.server new.dispatcher.server old.dispatcher.server.limits.pages hand.client hand.incarnation txn writes hand step is.plain does_own.becomes applied
          (λ w i. (permitted w i).2) stored

      others : (d : ℕ) (h : HandState) → d ≢ hand.client → stored_at old.hands d ≡ Some h → P d h
      others d h n e = pages_same does.limits d h (commit_others_stored old.dispatcher.server new.dispatcher.server old.dispatcher.server.limits.pages d hand.client hand.incarnation txn (page_writes writes) h step applied
          (λ w i. (permitted w i).0) n (subst (λ (k : Server). KeepsClient s k d) (sym does_own.becomes) ((others_keep_rows_and_permissions on_cycle s).0 hand.client hand.incarnation (Commit txn (page_writes writes)) d n))
          (is.hand d h e))

-- the server is the same, and a hand has become another that is as the server has it
pub hand_station : (old new : StationState) (hand other : HandState) → IsStation old → new.dispatcher.server ≡ old.dispatcher.server → new.history ≡ old.history → new.flags ≡ old.flags → IsHeld old.hands hand → Follow old.hands new.hands hand other
    → IsStored (server_of old) old.dispatcher.server.limits.pages hand.client other → IsStation new
hand_station old new hand other is same history flags held follow stored = keeps_station old new is
    (record {
      step = record { arose = is.arisen; arises = subst IsServer (sym same) is.arisen; opening = ap (λ (x : ServerValue). (commits_of x).opening) same };
      limits = ap (λ (x : ServerValue). x.limits) same;
      hands = follow_length old.hands new.hands hand other follow;
      flags = flags;
    })
    (ap (λ (x : ServerValue). (server_in x).commits) same) history
    (subst (λ (x : ServerValue). (d : ℕ) (h : HandState) → stored_at new.hands d ≡ Some h → IsStored (server_in x) x.limits.pages d h) (sym same)
    (follow_stored (IsStored (server_of old) old.dispatcher.server.limits.pages) old.hands new.hands hand other follow (has_place old.hands hand.client hand held) stored (λ d h n e. is.hand d h e)))

pub collected_stored : (server : Server) (pages client : ℕ) (hand : HandState) (frame : Option Frame) → IsStored server pages client hand → IsStored server pages client (collected server hand frame)
collected_stored server pages client hand None is = is
collected_stored server pages client hand (Some frame) is = by frame.body
  where
    by : (x : Body) → IsStored server pages client (collected server hand (Some (record { client = frame.client; incarnation = frame.incarnation; body = x })))
    by (body.Granted p g v bs) = received_stored server pages client p g hand is
    by (body.Short (short.MayWrite t p g)) = told_stored server pages client t p g hand is
    by (body.Short short.Hello) = is
    by (body.Short (short.AskRead t p)) = is
    by (body.Short (short.AskWrite t p g)) = is
    by (body.Short (short.GiveBack p g)) = is
    by (body.Short (short.InUse t p g)) = is
    by (body.Short (short.Drop t)) = is
    by (body.Short short.Welcome) = is
    by (body.Short (short.Callback p g)) = is
    by (body.Short (short.Done t n)) = is
    by (body.Short (short.AbortNow t)) = is
    by (body.Short (short.Downgraded p g t)) = is
    by (body.Short (short.Downgrade p g t)) = is
    by (body.Commit t ws) = is

-- what a call answered
pub err_fact : {T E : Type 0} (r : Result T E) (P : Type 0) → is_err r ≡ true → OnErr r P → P
err_fact (Ok x) P e p = absurd (true≢false (sym e))
err_fact (Err x) P e p = p

pub ok_fact : {T E : Type 0} (r : Result T E) (P : Type 0) → is_err r ≡ false → OnOk r P → P
ok_fact (Ok x) P e p = p
ok_fact (Err x) P e p = absurd (true≢false e)

-- the pages of a stored hand are the store's
pub store_pages : (station : StationState) (hand : HandState) (h : ServerState) → IsStation station → IsHeld station.hands hand → h ≡ station.dispatcher.server.state → (k : ℕ) → k < length hand.held → k < length h.commits.store.pages
store_pages station hand h is held e k lt =
    let a = (is.hand hand.client hand held).size in let b = is.arisen.of.store.count in
    let c = ap (λ (x : ServerState). length x.commits.store.pages) e in omega (arith, a, b, c, lt)

-- the hand as the state has it is as the server has it
pub received_by : (x : ServerValue) (h : ServerState) (hand : HandState) (b : Body) → h ≡ x.state → received_of (state_in h) hand b ≡ received_of (server_in x) hand b
received_by x h hand b e = ap (λ (k : ServerState). received_of (state_in k) hand b) e

pub ended_by : (x : ServerValue) (h : ServerState) (hand : HandState) → h ≡ x.state → ended_if_over (state_in h) hand ≡ ended_if_over (server_in x) hand
ended_by x h hand e = ap (λ (k : ServerState). ended_if_over (state_in k) hand) e

-- a hand stays its client's
pub same_client : (hand : HandState) (x : Body) → (given_back hand x).client ≡ hand.client
same_client hand (body.Short (short.GiveBack p g)) = refl
same_client hand (body.Short short.Hello) = refl
same_client hand (body.Short (short.AskRead t p)) = refl
same_client hand (body.Short (short.AskWrite t p g)) = refl
same_client hand (body.Short (short.InUse t p g)) = refl
same_client hand (body.Short (short.Drop t)) = refl
same_client hand (body.Short short.Welcome) = refl
same_client hand (body.Short (short.MayWrite t p g)) = refl
same_client hand (body.Short (short.Callback p g)) = refl
same_client hand (body.Short (short.Done t n)) = refl
same_client hand (body.Short (short.AbortNow t)) = refl
same_client hand (body.Short (short.Downgraded p g t)) = refl
same_client hand (body.Short (short.Downgrade p g t)) = refl
same_client hand (body.Commit t ws) = refl
same_client hand (body.Granted p g v bs) = refl

-- the pages that may be written are held
pub writes_within : (hand : HandState) (txn : ℕ) (writes : List Write) → MayWriteAll hand txn writes → AllByRecursion (λ (write : Write). write.page < length hand.held) writes
writes_within hand txn [] may = tt
writes_within hand txn (write ∷ writes) may = (given_there hand write.page write.grant (ap not may.0.grant), writes_within hand txn writes may.1)

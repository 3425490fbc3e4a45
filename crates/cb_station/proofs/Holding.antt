-- What a client wrote it still holds, after each call, by what the call did.
use Rattle.std.proofs.Common.{◌≡◌, ◌≢◌, true≢false, ◌<◌, ◌==◌, ℕ, Bool, true, false, not, [], ◌∷◌}
use Rattle.std.proofs.Common.{nat_lt, ◌&&◌, if◌then◌else◌, List, length, replicate, refl, sym, ◌∙◌, ap}
use Rattle.std.proofs.Common.{subst, arith, Option, Some, None, IsSome, inl, inr, ◌⊎◌, slice_set}
use Rattle.std.proofs.lemmas.Bool.{cases_eq}
use Rattle.std.proofs.lemmas.List.{get_or-set_other, get_or-set_same}
use Rattle.cb_commit.specs.Stores.{StoreState}
use Rattle.cb_frame.specs.declared.frame.Body.{Body}
use Rattle.cb_frame.specs.declared.frame.Body.TheVariants as body
use Rattle.cb_frame.specs.declared.frame.Frame.{Frame}
use Rattle.cb_frame.specs.declared.frame.ShortBody.TheVariants as short
use Rattle.cb_frame.specs.declared.writes.Write.{Write}
use Rattle.cb_hands.specs.Hands.{HandState, empty_hand, held_at, permitted, with_copy}
use Rattle.cb_hands.specs.Hands.{without_permissions}
use Rattle.cb_hands.specs.Joined.{Follow, IsHeld, stored_at}
use Rattle.cb_hands.specs.OwnHand.{pages_written}
use Rattle.cb_hands.specs.declared.grant.Held.{Held}
use Rattle.cb_laws.specs.RowVersions.{HasRow, WroteByGrant}
use Rattle.cb_mailboxes.specs.Dispatching as dispatching
use Rattle.cb_mailboxes.specs.Dispatching.{DispatcherState}
use Rattle.cb_outbox.specs.Messages.{body_of, page_write, page_writes}
use Rattle.cb_page.specs.Bounds.{Bounds}
use Rattle.cb_page.specs.Clients.{Clients}
use Rattle.cb_protocol.specs.AnyMessages.{MessageComes, ReachesDisk}
use Rattle.cb_protocol.specs.Basics.{is_none}
use Rattle.cb_protocol.specs.Messages as protocol
use Rattle.cb_protocol.specs.Messages.{Commit, GiveBack, Hello, Message, PageWrite, write_of_page}
use Rattle.cb_protocol.specs.Server.{Server, has_row, is_write_holder, server_after}
use Rattle.cb_protocol.specs.ServerMessages.{server_take}
use Rattle.cb_protocol.specs.WaitsFor.{on_cycle}
use Rattle.cb_server.specs.ServerValue.{IsNew, IsResumed, IsServer, ServerValue, server_of}
use Rattle.cb_server.specs.Taking.{Does}
use Rattle.cb_station.proofs.Calls.{not_that}
use Rattle.cb_station.proofs.Following.{has_place}
use Rattle.cb_station.proofs.Reached.{in_order}
use Rattle.cb_station.proofs.Returning.{given_back_goes}
use Rattle.cb_station.proofs.Writing.{Commits, OfGrant, Written, written_flush, written_less}
use Rattle.cb_station.proofs.Writing.{written_message}
use Rattle.cb_station.proofs.Written.{Holds, all_held, of_written, some_set, written_new}
use Rattle.cb_station.proofs.Written.{written_of, written_same, written_set}
use Rattle.cb_station.specs.Moves.{MayWriteAll, collected, committed, ended_if_over, given_back}
use Rattle.cb_station.specs.Moves.{is_by, is_lasting, is_over, is_plain, is_stray, received, told}
use Rattle.cb_station.specs.Stations.{IsStored}
use Rattle.cb_station.specs.Written.{HoldsWritten}

none_some : {A : Type 0} (x : A) → None ≡ Some x → ⊥
none_some x e = cc

-- a station that has just opened
pub holds_new : (limits : Bounds) (store : StoreState) (x : ServerValue)
    (hands : List (Option HandState)) (count : ℕ) → IsNew limits store x
    → hands ≡ replicate count None → HoldsWritten (server_of x) hands
holds_new limits store x hands count new empty = written_new (server_of x) hands count
    (ap (λ (s : Server). s.commits) new.server)
    (λ c p g row. none_some g (ap (λ (s : Server). (s.session c).row p) (sym new.server) ∙ row)) empty

pub holds_resumed : (limits : Bounds) (store : StoreState) (floor : ℕ) (x : ServerValue)
    (hands : List (Option HandState)) (count : ℕ) → IsResumed limits store floor x
    → hands ≡ replicate count None → HoldsWritten (server_of x) hands
holds_resumed limits store floor x hands count is empty = written_new (server_of x) hands count
    (ap (λ (s : Server). s.commits) is.server)
    (λ c p g row. none_some g (ap (λ (s : Server). (s.session c).row p) (sym is.server) ∙ row)) empty

-- where nothing changes but room
pub holds_unchanged : (before after : DispatcherState) (old new : List (Option HandState))
    → dispatching.IsUnchanged before after → new ≡ old → HoldsWritten (server_of before.server) old
    → HoldsWritten (server_of after.server) new
holds_unchanged before after old new same e =
    written_same (server_of before.server) (server_of after.server) old new same.server.server e

-- whoever is told
pub holds_told : (before after : DispatcherState) (clients : Clients)
    (hands : List (Option HandState)) → after ≡ dispatching.with_untold before clients
    → HoldsWritten (server_of before.server) hands → HoldsWritten (server_of after.server) hands
holds_told before after clients hands e = written_same (server_of before.server)
    (server_of after.server) hands hands (ap (λ (d : DispatcherState). server_of d.server) e) refl

-- commits reach the disk
pub holds_flushed : (before after : ServerValue) (hands : List (Option HandState)) (number : ℕ)
    (messages : List Message) → IsServer before → Does before (ReachesDisk number) messages after
    → HoldsWritten (server_of before) hands → HoldsWritten (server_of after) hands
holds_flushed before after hands number messages arose does h =
    of_written (server_of after) hands
    (subst (λ (s : Server). Written (Holds hands) s) (sym does.becomes)
    (written_flush (Holds hands) (server_of before) number (in_order before arose)
    (written_of (server_of before) hands h)))

-- a message of one client
module _ (before after : ServerValue) (arose : IsServer before) (c i : ℕ) (b : protocol.Body)
    (messages : List Message) (does : Does before (MessageComes c i b) messages after)
    (lt : c < before.limits.clients) where
  by_message : (P : OfGrant) → Commits P c i b → Written P (server_of before)
      → Written P (server_of after)
  by_message P commits w = subst (λ (s : Server). Written P s) (sym does.becomes)
      (written_message P on_cycle (server_of before) c i b (in_order before arose)
      (let n = arose.of.clients in omega (arith, n, lt)) commits w)

  pub holds_message : (hands : List (Option HandState)) → Commits (Holds hands) c i b
      → HoldsWritten (server_of before) hands → HoldsWritten (server_of after) hands
  holds_message hands commits h = of_written (server_of after) hands
      (by_message (Holds hands) commits (written_of (server_of before) hands h))

-- a greater Hello, with which the client's hand holds nothing, or it has none
module _ (before after : ServerValue) (arose : IsServer before) (c i : ℕ) (messages : List Message)
    (does : Does before (MessageComes c i Hello) messages after)
    (old new : List (Option HandState)) (clients : length old ≡ before.limits.clients)
    (lt : c < length old) (h : HoldsWritten (server_of before) old) where
  no_commit : Commits (Holds new) c i Hello
  no_commit x ws e = absurd (let z : Hello ≡ Commit x ws = e in cc)

  pub holds_entered : (hand : HandState) → ((server_of before).session c).current < i
      → hand ≡ empty_hand c i before.limits.pages → new ≡ slice_set old c (Some hand)
      → HoldsWritten (server_of after) new
  holds_entered hand greater empty set = holds_message before after arose c i Hello messages does
      (omega (arith, clients, lt)) new no_commit
      (written_set (server_of before) old new c (Some hand) set lt
      (λ other e is p g n row w. absurd (let same : hand ≡ other = (let z : Some hand ≡ Some other = e in cc) in
      let j : hand.incarnation ≡ i = ap (λ (k : HandState). k.incarnation) empty in
      let k : hand.incarnation ≡ other.incarnation = ap (λ (k : HandState). k.incarnation) same in
      omega (arith, greater, j, k, is))) h)

  pub holds_left : new ≡ slice_set old c None → HoldsWritten (server_of after) new
  holds_left set = holds_message before after arose c i Hello messages does
      (omega (arith, clients, lt)) new no_commit
      (written_set (server_of before) old new c None set lt
      (λ other e is p g n row w. absurd (none_some other e)) h)

-- an ended transaction takes no copy
over_held : (t : Server) (hand : HandState) → (ended_if_over t hand).held ≡ hand.held
over_held t hand = go (is_over t hand.client hand.txn)
  where
    go : (r : Bool) → (if r then without_permissions hand else hand).held ≡ hand.held
    go true = refl
    go false = refl

-- what a body gives back
abbrev gives : (page grant : ℕ) → Body
gives page grant = body.Short (short.GiveBack page grant)

-- what was held stays held, but what is given back
kept_or_given : (hand : HandState) (x : Body) (p : ℕ)
    → (held_at (given_back hand x).held p ≡ held_at hand.held p)
    ⊎ ((g : ℕ) × (x ≡ gives p g))
kept_or_given hand (body.Short (short.GiveBack q g)) p = elim (cases_eq p q) [
  | inl e ↦ inr (g, ap (λ (k : ℕ). gives k g) (sym e))
  | inr n ↦ inl (get_or-set_other hand.held q p None None n)
]
kept_or_given hand (body.Short short.Hello) p = inl refl
kept_or_given hand (body.Short (short.AskRead t q)) p = inl refl
kept_or_given hand (body.Short (short.AskWrite t q g)) p = inl refl
kept_or_given hand (body.Short (short.InUse t q g)) p = inl refl
kept_or_given hand (body.Short (short.Drop t)) p = inl refl
kept_or_given hand (body.Short short.Welcome) p = inl refl
kept_or_given hand (body.Short (short.MayWrite t q g)) p = inl refl
kept_or_given hand (body.Short (short.Callback q g)) p = inl refl
kept_or_given hand (body.Short (short.Done t n)) p = inl refl
kept_or_given hand (body.Short (short.AbortNow t)) p = inl refl
kept_or_given hand (body.Short (short.Downgraded q g t)) p = inl refl
kept_or_given hand (body.Short (short.Downgrade q g t)) p = inl refl
kept_or_given hand (body.Commit t ws) p = inl refl
kept_or_given hand (body.Granted q g v bs) p = inl refl

-- a frame that `take` takes
module _ (before after : ServerValue) (arose : IsServer before) (pages : ℕ) (frame : Frame)
    (hand other : HandState) (messages : List Message)
    (does : Does before (MessageComes frame.client frame.incarnation (body_of frame.body)) messages after)
    (old new : List (Option HandState)) (clients : length old ≡ before.limits.clients)
    (held : IsHeld old hand) (stored : IsStored (server_of before) pages hand.client hand)
    (name : frame.client ≡ hand.client) (incarnation : frame.incarnation ≡ hand.incarnation)
    (plain : is_plain frame.body ≡ true) (there : is_stray hand frame.body ≡ false)
    (becomes : other ≡ ended_if_over (server_of after) (given_back hand frame.body))
    (follow : Follow old new hand other) (h : HoldsWritten (server_of before) old) where
  abbrev s : Server
  s = server_of before

  abbrev t : Server
  t = server_of after

  lt : hand.client < length old
  lt = has_place old hand.client hand held

  -- a page is held, or given back now
  abbrev Returns : OfGrant
  Returns c i p g = Holds new c i p g ⊎ ((c ≡ hand.client) × (frame.body ≡ gives p g))

  -- what is stored now
  stored_own : (k : HandState) → stored_at new hand.client ≡ Some k → other ≡ k
  stored_own k e = let z : Some other ≡ Some k = sym (get_or-set_same old hand.client (Some other) None lt)
      ∙ sym (ap (λ (l : List (Option HandState)). stored_at l hand.client) follow.hands) ∙ e in cc

  stored_apart : (c : ℕ) → c ≢ hand.client → stored_at new c ≡ stored_at old c
  stored_apart c apart = ap (λ (l : List (Option HandState)). stored_at l c) follow.hands
      ∙ get_or-set_other old hand.client c (Some other) None apart

  other_held : (p : ℕ) → held_at other.held p ≡ held_at (given_back hand frame.body).held p
  other_held p = ap (λ (l : List (Option Held)). held_at l p)
      (ap (λ (k : HandState). k.held) becomes ∙ over_held t (given_back hand frame.body))

  -- the row of what is given back
  row_of : (p g : ℕ) → frame.body ≡ gives p g → HasRow s hand.client p g
  row_of p g e = by (held_at hand.held p) refl
      (subst (λ (y : Body). is_stray hand y ≡ false) e there)
    where
      by : (o : Option Held) → held_at hand.held p ≡ o → not (is_by o g) ≡ false
          → HasRow s hand.client p g
      by None f n = absurd (true≢false n)
      by (Some copy) f n = (stored.agrees.rows p copy f).grant
          ∙ ap (λ (k : ℕ). Some k) (let z : copy.grant ≡ g = grind arith in z)

  returned : (c p g : ℕ) → c ≡ hand.client → HasRow s c p g → IsSome (held_at hand.held p)
      → (held_at (given_back hand frame.body).held p ≡ held_at hand.held p)
      ⊎ ((k : ℕ) × (frame.body ≡ gives p k)) → Returns c (s.session c).current p g
  returned c p g at row some (inl kept) = inl (λ k e j.
      subst (λ (y : HandState). IsSome (held_at y.held p))
      (stored_own k (ap (λ (d : ℕ). stored_at new d) (sym at) ∙ e))
      (subst (λ (o : Option Held). IsSome o) (sym (other_held p ∙ kept)) some))
  returned c p g at row some (inr gone) = inr (at, gone.1 ∙ ap (λ (k : ℕ). gives p k) same)
    where
      same : gone.0 ≡ g
      same = let z : Some gone.0 ≡ Some g = sym (row_of p gone.0 gone.1) ∙ ap (λ (d : ℕ). (s.session d).row p) (sym at) ∙ row in cc

  before_it : Written Returns s
  before_it = written_less (Holds old) Returns s
      (λ c p g n row w holds. by c p g row holds (cases_eq c hand.client)) (written_of s old h)
    where
      by : (c p g : ℕ) → HasRow s c p g → Holds old c (s.session c).current p g
          → (c ≡ hand.client) ⊎ (c ≢ hand.client) → Returns c (s.session c).current p g
      by c p g row holds (inl at) = returned c p g at row
          (holds hand (ap (λ (d : ℕ). stored_at old d) at ∙ held)
          (sym stored.current ∙ ap (λ (d : ℕ). (s.session d).current) (sym at)))
          (kept_or_given hand frame.body p)
      by c p g row holds (inr apart) = inl (λ k e j. holds k (sym (stored_apart c apart) ∙ e) j)

  after_it : Written Returns t
  after_it = by_message before after arose frame.client frame.incarnation (body_of frame.body)
      messages does (omega (arith, clients, lt, name)) Returns
      (λ x ws e. absurd (not_that frame.body plain x ws e)) before_it

  -- once it is given back, no such row stands
  gone_after : (p g : ℕ) → frame.body ≡ gives p g → HasRow t hand.client p g → ⊥
  gone_after p g e row = given_back_goes on_cycle s hand.client hand.incarnation p g
      (sym stored.current) (row_of p g e) (h.rows hand.client p g (row_of p g e))
      (ap (λ (x : Server). (x.session hand.client).row p) (sym took) ∙ row)
    where
      took : t ≡ server_after s (server_take on_cycle s hand.client hand.incarnation (GiveBack p g))
      took = does.becomes
          ∙ ap (λ (k : ℕ). server_after s (server_take on_cycle s k frame.incarnation (body_of frame.body))) name
          ∙ ap (λ (k : ℕ). server_after s (server_take on_cycle s hand.client k (body_of frame.body))) incarnation
          ∙ ap (λ (x : Body). server_after s (server_take on_cycle s hand.client hand.incarnation (body_of x))) e

  pub holds_taken : HoldsWritten t new
  holds_taken = of_written t new (written_less Returns (Holds new) t
      (λ c p g n row w returns. elim returns [
        | inl holds ↦ holds
        | inr gone ↦ absurd (gone_after p g gone.1 (ap (λ (d : ℕ). (t.session d).row p) (sym gone.0) ∙ row))
      ]) after_it)

-- what a commit may write is held
writes_held : (hand : HandState) (txn : ℕ) (writes : List Write) → MayWriteAll hand txn writes
    → (p : ℕ) (w : PageWrite) → write_of_page (page_writes writes) p ≡ Some w
    → IsSome (held_at hand.held p)
writes_held hand txn [] may p w e = absurd (none_some w e)
writes_held hand txn (first ∷ rest) may p w e =
    go (λ f. writes_held hand txn rest may.1 p w f) (first.page == p) refl e
  where
    is_held : (o : Option Held) → is_by o first.grant ≡ true → IsSome o
    is_held None f = absurd (true≢false (sym f))
    is_held (Some copy) f = refl

    go : (write_of_page (page_writes rest) p ≡ Some w → IsSome (held_at hand.held p)) → (r : Bool)
        → (first.page == p) ≡ r
        → (if r then Some (page_write first) else write_of_page (page_writes rest) p) ≡ Some w
        → IsSome (held_at hand.held p)
    go later true f g = let at : first.page ≡ p = grind arith in
        subst (λ (k : ℕ). IsSome (held_at hand.held k)) at
        (is_held (held_at hand.held first.page) may.0.grant)
    go later false f g = later g

-- a commit that is taken
pub holds_committed : (before after : ServerValue) (arose : IsServer before) (pages : ℕ)
    (frame : Frame) (txn : ℕ) (writes : List Write) (hand other : HandState) (number : ℕ)
    (messages : List Message)
    → Does before (MessageComes frame.client frame.incarnation (Commit txn (page_writes writes)))
    messages after
    → (old new : List (Option HandState)) → length old ≡ before.limits.clients
    → IsHeld old hand → IsStored (server_of before) pages hand.client hand
    → frame.client ≡ hand.client → MayWriteAll hand txn writes
    → other ≡ committed hand writes number → Follow old new hand other
    → HoldsWritten (server_of before) old → HoldsWritten (server_of after) new
holds_committed before after arose pages frame txn writes hand other number messages does old new
    clients held stored name may becomes follow h =
    holds_message before after arose frame.client frame.incarnation
    (Commit txn (page_writes writes)) messages does
    (let lt = has_place old hand.client hand held in omega (arith, clients, lt, name)) new commits
    (written_set s old new hand.client (Some other) follow.hands
    (has_place old hand.client hand held) own h)
  where
    s : Server
    s = server_of before

    still : (p : ℕ) → IsSome (held_at hand.held p) → IsSome (held_at other.held p)
    still p is = subst (λ (k : HandState). IsSome (held_at k.held p)) (sym becomes)
        (all_held hand (pages_written (page_writes writes)) number p is)

    same : (k : HandState) → Some other ≡ Some k → other ≡ k
    same k e = cc

    own : (k : HandState) → Some other ≡ Some k
        → k.incarnation ≡ ((server_of before).session hand.client).current → (p g n : ℕ)
        → HasRow (server_of before) hand.client p g
        → WroteByGrant (server_of before).commits hand.client ((server_of before).session hand.client).current p g n
        → IsSome (held_at k.held p)
    own k e i p g n row w = subst (λ (x : HandState). IsSome (held_at x.held p)) (same k e)
        (still p (h.held hand.client p g n hand held (sym stored.current) row w))

    commits : Commits (Holds new) frame.client frame.incarnation (Commit txn (page_writes writes))
    commits x ws e p w g k f i =
        subst (λ (y : HandState). IsSome (held_at y.held p))
        (same k (sym (get_or-set_same old hand.client (Some other) None (has_place old hand.client hand held))
        ∙ sym (ap (λ (l : List (Option HandState)). stored_at l hand.client) follow.hands)
        ∙ ap (λ (d : ℕ). stored_at new d) (sym name) ∙ f))
        (still p (writes_held hand txn writes may p w
        (ap (λ (l : List PageWrite). write_of_page l p) (let z : page_writes writes ≡ ws = (let y : Commit txn (page_writes writes) ≡ Commit x ws = e in cc) in z) ∙ g)))

-- what is collected takes nothing from the hand
collected_held : (s : Server) (hand : HandState) (p : ℕ) (frame : Option Frame)
    → IsSome (held_at hand.held p) → IsSome (held_at (collected s hand frame).held p)
collected_held s hand p None is = is
collected_held s hand p (Some frame) is = by frame.body
  where
    receives : (q g : ℕ) → IsSome (held_at (received s hand q g).held p)
    receives q g = go (nat_lt q (length hand.held) && (is_none (held_at hand.held q) && has_row s hand.client q g))
      where
        go : (r : Bool) → IsSome (held_at (if r then with_copy hand q (record { grant = g; version = s.store.version q }) else hand).held p)
        go false = is
        go true = some_set hand.held q p (Some (record { grant = g; version = s.store.version q })) refl is

    tells : (t q g : ℕ) → IsSome (held_at (told s hand t q g).held p)
    tells t q g = go (is_by (held_at hand.held q) g && (is_lasting s hand.client t && is_write_holder s hand.client q))
      where
        go : (r : Bool) → IsSome (held_at (if r then permitted hand q t else hand).held p)
        go false = is
        go true = is

    by : (x : Body) → IsSome (held_at (collected s hand (Some (record { client = frame.client; incarnation = frame.incarnation; body = x }))).held p)
    by (body.Granted q g v bs) = receives q g
    by (body.Short (short.MayWrite t q g)) = tells t q g
    by (body.Short short.Hello) = is
    by (body.Short (short.AskRead t q)) = is
    by (body.Short (short.AskWrite t q g)) = is
    by (body.Short (short.GiveBack q g)) = is
    by (body.Short (short.InUse t q g)) = is
    by (body.Short (short.Drop t)) = is
    by (body.Short short.Welcome) = is
    by (body.Short (short.Callback q g)) = is
    by (body.Short (short.Done t n)) = is
    by (body.Short (short.AbortNow t)) = is
    by (body.Short (short.Downgraded q g t)) = is
    by (body.Short (short.Downgrade q g t)) = is
    by (body.Commit t ws) = is

-- a frame is collected
pub holds_collected : (before after : ServerValue) (pages : ℕ) (frame : Option Frame)
    (hand other : HandState) (old new : List (Option HandState)) → after ≡ before
    → IsHeld old hand → IsStored (server_of before) pages hand.client hand
    → other ≡ collected (server_of before) hand frame → Follow old new hand other
    → HoldsWritten (server_of before) old → HoldsWritten (server_of after) new
holds_collected before after pages frame hand other old new same held stored becomes follow h =
    written_same (server_of before) (server_of after) new new (ap server_of same) refl
    (written_set (server_of before) old new hand.client (Some other) follow.hands
    (has_place old hand.client hand held) own h)
  where
    own : (k : HandState) → Some other ≡ Some k
        → k.incarnation ≡ ((server_of before).session hand.client).current → (p g n : ℕ)
        → HasRow (server_of before) hand.client p g
        → WroteByGrant (server_of before).commits hand.client ((server_of before).session hand.client).current p g n
        → IsSome (held_at k.held p)
    own k e i p g n row w = subst (λ (x : HandState). IsSome (held_at x.held p))
        (let z : other ≡ k = (let y : Some other ≡ Some k = e in cc) in z)
        (subst (λ (x : HandState). IsSome (held_at x.held p)) (sym becomes)
        (collected_held (server_of before) hand p frame
        (h.held hand.client p g n hand held (sym stored.current) row w)))

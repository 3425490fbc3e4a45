-- What holds of every station holds after each call.
use Rattle.std.proofs.Common.{◌≡◌, true≢false, ◌<◌, ◌≤◌, ◌&&◌, ◌||◌, ◌++◌, ℕ, zero, suc, Bool, true, false, not, nat_lt, if◌then◌else◌, List, [], ◌∷◌, length, map, reverse, refl, sym, ◌∙◌, ap, subst, arith, Option, Some, None, inl, inr, ◌⊎◌}
use Rattle.std.proofs.lemmas.Bool.{cases_lt}
use Rattle.std.proofs.lemmas.Bool.Decides.{nat_tests}
use Rattle.std.proofs.lemmas.List.{get_or_past, reverse-append}
use Rattle.cb_hands.specs.Agreement.{HasRows}
use Rattle.cb_commit.specs.Stores.{StoreState}
use Rattle.cb_frame.specs.Grammar.{page_of}
use Rattle.cb_frame.specs.declared.writes.Write.{Write}
use Rattle.cb_hands.specs.Hands.{HandState, held_at}
use Rattle.cb_hands.specs.declared.grant.Held.{Held}
use Rattle.cb_hands.proofs.Noting.{no_other_changes, noted_commit_follows}
use Rattle.cb_hands.specs.Running.{IsLegal, Replays, noted, pages_of}
use Rattle.cb_hands.specs.declared.entry.Entry.{Entry}
use Rattle.cb_hands.specs.declared.entry.Read.{Read}
use Rattle.cb_server_state.specs.States.{AreOf, limits_of, opening_of as opening_in}
use Rattle.cb_server_state.specs.declared.server_state.ServerState.{ServerState}
use Rattle.cb_hands.specs.Joined.{stored_at}
use Rattle.cb_server.proofs.Arising.{of_left}
use Rattle.cb_station.proofs.Keeping.{Step, ledgers}
use Rattle.cb_station.specs.Commits.{is_live}
use Rattle.cb_station.specs.Flags.{AreFlags}
use Rattle.cb_station.specs.Moves.{IsEntryOf, MayWrite, MayWriteAll, is_by, read_of, reads_below}
use Rattle.cb_station.specs.Stations.{IsStation, IsStored, IsUnchanged, StationState, opening_of, server_of}
use Rattle.cb_outbox.specs.Messages.{page_writes}
use Rattle.cb_page.specs.Bounds.{Bounds}
use Rattle.cb_page.specs.Flags.{has}
use Rattle.cb_protocol.specs.AnyMessages.{ReachedBy}
use Rattle.cb_protocol.specs.Basics.{IsIn}
use Rattle.cb_protocol.specs.CommitLaws.{IsApplied, MayBeApplied, WritesPermitted, server_with}
use Rattle.cb_protocol.specs.Messages.{PageWrite}
use Rattle.cb_protocol.specs.Ranges.{InputTaken, StoreFits}
use Rattle.cb_protocol.specs.Server.{ChangeSession, ForgetTransaction, Server, has_not_ended, server_after}
use Rattle.cb_protocol.specs.Session.{BeginTransaction}
use Rattle.cb_protocol.specs.WaitsFor.{on_cycle}
use Rattle.cb_server.specs.ServerValue as server
use Rattle.cb_server.specs.ServerValue.{IsServer, ServerValue, commits_of, opening_at}

-- a step of the server between two stations
pub record Steps (old new : StationState) : Type 0 where
  pub step : Step old.dispatcher.server new.dispatcher.server
  pub limits : new.dispatcher.server.limits ≡ old.dispatcher.server.limits
  pub hands : length new.hands ≡ length old.hands
  pub flags : new.flags ≡ old.flags

-- all hands that are stored are as the server has it
abbrev pub AreStored : StationState → Type 0
AreStored station = (client : ℕ) (hand : HandState) → stored_at station.hands client ≡ Some hand
    → IsStored (server_of station) station.dispatcher.server.limits.pages client hand

pub keeps_station : (old new : StationState) → IsStation old → Steps old new → (server_of new).commits ≡ (server_of old).commits → new.history ≡ old.history → AreStored new → IsStation new
keeps_station old new is steps commits history stored = record {
  arisen = steps.step.arises;
  plain = ap (λ (b : Bounds). b.keep_write) steps.limits ∙ is.plain;
  clients = steps.hands ∙ is.clients ∙ sym (ap (λ (b : Bounds). b.clients) steps.limits);
  legal = subst (λ (o : StoreState). IsLegal (opening_in o) (reverse new.history)) (sym steps.step.opening)
      (subst (λ (h : List Entry). IsLegal (opening_of old) (reverse h)) (sym history) is.legal);
  replays = subst (λ (o : StoreState). Replays (opening_in o) (reverse new.history) (server_of new)) (sym steps.step.opening)
      (subst (λ (h : List Entry). Replays (opening_of old) (reverse h) (server_of new)) (sym history)
      (let l = ledgers old.dispatcher.server new.dispatcher.server steps.step in no_other_changes (opening_of old) (server_of old) (server_of new) (reverse old.history) l.0 l.1 commits is.replays));
  hand = stored;
  flags = subst AreFlags (sym steps.flags) is.flags;
}

-- where nothing changes but room
pub arises_unchanged : (before after : ServerValue) → IsServer before → server.IsUnchanged before after → IsServer after
arises_unchanged before after is same = record {
  opening = subst (λ (o : StoreState). StoreFits (limits_of after.limits) (opening_in o)) (sym opening)
      (subst (λ (l : Bounds). StoreFits (limits_of l) (opening_at before)) (sym same.limits) is.opening);
  reached = subst (λ (o : StoreState). ReachedBy (limits_of after.limits) on_cycle (opening_in o) (InputTaken (limits_of after.limits)) (server.server_of after)) (sym opening)
      (subst (λ (l : Bounds). ReachedBy (limits_of l) on_cycle (opening_at before) (InputTaken (limits_of l)) (server.server_of after)) (sym same.limits)
      (subst (λ (s : Server). ReachedBy (limits_of before.limits) on_cycle (opening_at before) (InputTaken (limits_of before.limits)) s) (sym same.server) is.reached));
  of = of_left after.limits before.state after.state same.rest (subst (λ (l : Bounds). AreOf l before.state) (sym same.limits) is.of);
}
  where
    opening : after.state.commits.opening ≡ before.state.commits.opening
    opening = ap (λ (h : ServerState). h.commits.opening) same.rest

pub unchanged_station : (old new : StationState) → IsStation old → IsUnchanged old new → IsStation new
unchanged_station old new is same = keeps_station old new is
    (record {
      step = record { arose = is.arisen; arises = arises_unchanged old.dispatcher.server new.dispatcher.server is.arisen same.dispatcher.server; opening = ap (λ (h : ServerState). h.commits.opening) same.dispatcher.server.rest };
      limits = same.dispatcher.server.limits;
      hands = ap length same.hands;
      flags = same.flags;
    })
    (ap (λ (s : Server). s.commits) same.dispatcher.server.server) same.history
    (λ client hand e. subst (λ (l : Bounds). IsStored (server_of new) l.pages client hand) (sym same.dispatcher.server.limits)
    (subst (λ (s : Server). IsStored s old.dispatcher.server.limits.pages client hand) (sym same.dispatcher.server.server)
    (is.hand client hand (ap (λ (l : List (Option HandState)). stored_at l client) (sym same.hands) ∙ e))))

in_append : {A : Type 0} (x : A) (xs ys : List A) → IsIn x (xs ++ ys) → IsIn x xs ⊎ IsIn x ys
in_append x [] ys i = inr i
in_append x (y ∷ xs) ys (inl e) = inl (inl e)
in_append x (y ∷ xs) ys (inr i) = elim (in_append x xs ys i) [ inl j ↦ inl (inr j) | inr j ↦ inr j ]

-- each read is at the store's version
read_at : (server : Server) (hand : HandState) (page : ℕ) (read : Read) → HasRows server hand → (o : Option Held) → held_at hand.held page ≡ o
    → IsIn read (elim o as (λ _. List Read) [ None ↦ [] | Some held ↦ record { page = page; version = held.version } ∷ [] ]) → read.version ≡ server.store.version read.page
read_at server hand page read rows None e i = absurd i
read_at server hand page read rows (Some held) e (inl f) = subst (λ (r : Read). r.version ≡ server.store.version r.page) f (sym (rows page held e).version)
read_at server hand page read rows (Some held) e (inr i) = absurd i

pub reads_at : (server : Server) (hand : HandState) (flags : List Bool) (end : ℕ) (read : Read) → HasRows server hand → IsIn read (reads_below hand flags end) → read.version ≡ server.store.version read.page
reads_at server hand flags zero read rows i = absurd i
reads_at server hand flags (suc page) read rows i = elim (in_append read (reads_below hand flags page) _ i) [
  | inl j ↦ reads_at server hand flags page read rows j
  | inr j ↦ go (has flags page) j
]
  where
    go : (b : Bool) → IsIn read (if b then read_of hand page else []) → read.version ≡ server.store.version read.page
    go true j = read_at server hand page read rows (held_at hand.held page) refl j
    go false j = absurd j

same_pages : (writes : List Write) → pages_of (page_writes writes) ≡ map page_of writes
same_pages [] = refl
same_pages (write ∷ writes) = ap (λ (l : List ℕ). write.page ∷ l) (same_pages writes)

noted_as : (hand : HandState) (txn : ℕ) (writes : List Write) (flags : List Bool) (entry : Entry) → IsEntryOf hand txn writes flags entry
    → noted entry ≡ record { client = hand.client; incarnation = hand.incarnation; txn = txn; writes = pages_of (page_writes writes) }
noted_as hand txn writes flags entry is = λ i. record {
  client = is.client i;
  incarnation = is.incarnation i;
  txn = is.txn i;
  writes = (is.writes ∙ sym (same_pages writes)) i;
}

-- a commit, with its entry
pub commits_station : (old new : StationState) (hand : HandState) (txn : ℕ) (writes : List Write) (flags : List Bool) (entry : Entry) → IsStation old → Steps old new → HasRows (server_of old) hand
    → IsApplied (server_of old) (server_of new) hand.client hand.incarnation txn (page_writes writes) → IsEntryOf hand txn writes flags entry → new.history ≡ old.history ++ entry ∷ [] → AreStored new → IsStation new
commits_station old new hand txn writes flags entry is steps rows applied entered history stored = record {
  arisen = steps.step.arises;
  plain = ap (λ (b : Bounds). b.keep_write) steps.limits ∙ is.plain;
  clients = steps.hands ∙ is.clients ∙ sym (ap (λ (b : Bounds). b.clients) steps.limits);
  legal = subst (λ (o : StoreState). IsLegal (opening_in o) (reverse new.history)) (sym steps.step.opening) (subst (λ (h : List Entry). IsLegal (opening_of old) h) (sym newest) follows.1);
  replays = subst (λ (o : StoreState). Replays (opening_in o) (reverse new.history) (server_of new)) (sym steps.step.opening)
      (subst (λ (h : List Entry). Replays (opening_of old) h (server_of new)) (sym newest) follows.0);
  hand = stored;
  flags = subst AreFlags (sym steps.flags) is.flags;
}
  where
    newest : reverse new.history ≡ entry ∷ reverse old.history
    newest = ap (λ (h : List Entry). reverse h) history ∙ reverse-append old.history (entry ∷ [])

    follows : Replays (opening_of old) (entry ∷ reverse old.history) (server_of new) × IsLegal (opening_of old) (entry ∷ reverse old.history)
    follows = let l = ledgers old.dispatcher.server new.dispatcher.server steps.step in
        noted_commit_follows (opening_of old) (server_of old) (server_of new) hand.client hand.incarnation txn (page_writes writes) entry (reverse old.history) l.0 l.1 applied (noted_as hand txn writes flags entry entered)
        is.replays is.legal (λ read i. reads_at (server_of old) hand flags (length flags) read rows (subst (λ (l : List Read). IsIn read l) entered.reads i))

-- a commit of what the hand shows may be applied
module _ (s : Server) (pages c txn : ℕ) (hand : HandState) (is : IsStored s pages c hand) where
  grant_of : (o : Option Held) (grant : ℕ) → is_by o grant ≡ true → (held : Held) × (o ≡ Some held) × (held.grant ≡ grant)
  grant_of None grant e = absurd (true≢false (sym e))
  grant_of (Some held) grant e = (held, refl, grind (arith, nat_tests))

  one_permitted : (write : Write) → MayWrite hand txn write → (s.store.holder write.page ≡ Some c) × ((s.session c).row write.page ≡ Some write.grant) × (write.page < length hand.held)
  one_permitted write may = let g = grant_of (held_at hand.held write.page) write.grant may.grant in (
    is.agrees.permission write.page g.0 g.1 may.told ∙ ap (λ (n : ℕ). Some n) is.name,
    subst (λ (n : ℕ). (s.session n).row write.page ≡ Some write.grant) is.name ((is.agrees.rows write.page g.0 g.1).grant ∙ ap (λ (n : ℕ). Some n) g.2),
    elim (cases_lt write.page (length hand.held)) [ inl lt ↦ lt | inr le ↦ absurd (let z : None ≡ Some g.0 = sym (get_or_past hand.held write.page None le) ∙ g.1 in cc) ],
  )

  pub all_permitted : (writes : List Write) → MayWriteAll hand txn writes → (write : PageWrite) → IsIn write (page_writes writes)
      → (s.store.holder write.page ≡ Some c) × ((s.session c).row write.page ≡ Some write.grant) × (write.page < length hand.held)
  all_permitted [] may write i = absurd i
  all_permitted (first ∷ writes) may write (inl e) =
      subst (λ (w : PageWrite). (s.store.holder w.page ≡ Some c) × ((s.session c).row w.page ≡ Some w.grant) × (w.page < length hand.held)) e (one_permitted first may.0)
  all_permitted (first ∷ writes) may write (inr i) = all_permitted writes may.1 write i

  none_later : (writes : List Write) → MayWriteAll hand txn writes → (s.session c).txn < txn → (write : PageWrite) → IsIn write (page_writes writes) → ⊥
  none_later [] may later write i = i
  none_later (first ∷ writes) may later write i = let l = (is.lasts txn may.0.of_txn).0 in omega (arith, l, later)

  pub may_be_applied : (i : ℕ) (writes : List Write) → i ≡ hand.incarnation → 1 ≤ txn → is_live s c txn ≡ true → MayWriteAll hand txn writes → MayBeApplied s c i txn (page_writes writes)
  may_be_applied i writes e least live may = go (nat_lt (s.session c).txn txn) refl live
    where
      MayBe : Server → Type 0
      MayBe m = ((m.session c).ended < txn) × (m.doomed c ≡ false) × WritesPermitted m c (page_writes writes)

      begun : Server
      begun = server_after s (ForgetTransaction c ∷ ChangeSession c (BeginTransaction txn) ∷ [])

      later : (s.session c).txn < txn → MayBe begun
      later l = (grind arith, grind arith, λ w j. absurd (none_later writes may l w j))

      present : has_not_ended s c txn ≡ true → not (s.doomed c) ≡ true → MayBe s
      present f g = (grind (arith, nat_tests), awake (s.doomed c) g, λ w j. let p = all_permitted writes may w j in (p.0, p.1))
        where
          awake : (b : Bool) → not b ≡ true → b ≡ false
          awake true h = absurd (true≢false (sym h))
          awake false h = refl

      parts : (a b : Bool) → (a && b) ≡ true → (a ≡ true) × (b ≡ true)
      parts true b f = (refl, f)
      parts false b f = absurd (true≢false (sym f))

      with_ : MayBe (server_with s c txn) → MayBeApplied s c i txn (page_writes writes)
      with_ m = record { current = e ∙ sym is.current; lives = m.0; not_doomed = m.1; permitted = m.2 }

      go : (r : Bool) → nat_lt (s.session c).txn txn ≡ r → (r || (has_not_ended s c txn && not (s.doomed c))) ≡ true → MayBeApplied s c i txn (page_writes writes)
      go true f l = with_ (rw f (later (grind (arith, nat_tests))))
      go false f l = let p = parts _ _ l in with_ (rw f (present p.0 p.1))

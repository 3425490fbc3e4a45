-- What is stored of a hand stays as the server has it, by each step and each change.
use Rattle.std.proofs.Common.{◌≡◌, ◌≢◌, true≢false, ◌<◌, ◌+◌, ◌&&◌, ◌==◌, ℕ, Bool, true, false, not, nat_lt, if◌then◌else◌, List, [], ◌∷◌, length, replicate, refl, sym, ◌∙◌, ap, subst, arith, Option, Some, None, IsSome, inl, inr, ◌⊎◌, slice_set}
use Rattle.std.proofs.lemmas.Bool.{cases_eq, cases_lt}
use Rattle.std.proofs.lemmas.Bool.Decides.{nat_tests}
use Rattle.std.proofs.lemmas.List.{get_or_past, get_or-replicate, length-replicate, length-set, get_or-set_other, get_or-set_same}
use Rattle.cb_hands.proofs.Agreeing.{commit_leaves_others, copy_comes, copy_goes, empty_hand as empty_agrees, others_stay, permission_comes, permissions_end}
use Rattle.cb_hands.proofs.Own.{own_stays}
use Rattle.cb_hands.proofs.OwnHand.{own_commit, own_message}
use Rattle.cb_hands.specs.Agreement.{Agrees, HasRows, IsRow}
use Rattle.cb_hands.specs.OwnHand.{all_restamped, pages_written}
use Rattle.cb_hands.specs.OwnStays.{KeepsOwn}
use Rattle.cb_commit.specs.Stores.{StoreState}
use Rattle.cb_frame.specs.declared.writes.Write.{Write}
use Rattle.cb_hands.specs.Hands.{HandState, IsHand, at_version, empty_hand, held_at, permitted, restamped, with_copy, without_copy, without_permissions}
use Rattle.cb_hands.specs.declared.grant.Held.{Held}
use Rattle.cb_server_state.specs.States.{opening_of}
use Rattle.cb_hands.specs.Joined.{Follow, stored_at}
use Rattle.cb_server.proofs.Onward.{Onward, goes_on}
use Rattle.cb_station.proofs.Reached.{in_order, keeps_none}
use Rattle.cb_server.proofs.LawsKept.{rules_kept}
use Rattle.cb_station.specs.Moves.{committed, ended_if_over, is_by, is_lasting, is_over, received, told}
use Rattle.cb_station.specs.Stations.{IsStored}
use Rattle.cb_outbox.specs.Messages.{page_writes}
use Rattle.cb_page.specs.Flags.{has}
use Rattle.cb_protocol.specs.AnyMessages.{Ledger}
use Rattle.cb_protocol.specs.Basics.{IsIn, is_exactly, is_none}
use Rattle.cb_protocol.specs.CommitLaws.{IsApplied}
use Rattle.cb_protocol.specs.Messages.{Body, Commit, GiveBack, Hello, PageWrite}
use Rattle.cb_protocol.specs.Server.{Server, has_row, is_write_holder, server_after}
use Rattle.cb_protocol.specs.ServerMessages.{server_take}
use Rattle.cb_protocol.specs.StepsKeep.{KeepsClient}
use Rattle.cb_protocol.specs.WaitsFor.{on_cycle}
use Rattle.cb_server.specs.ServerValue.{IsServer, ServerValue, commits_of, opening_at, server_of}

none_some : {A : Type 0} (x : A) → None ≡ Some x → ⊥
none_some x e = cc

no_flag : (pages page : ℕ) → has (replicate pages false) page ≡ true → ⊥
no_flag pages page e = elim (cases_lt page pages) [
  | inl lt ↦ true≢false (sym e ∙ get_or-replicate pages page false false lt)
  | inr le ↦ true≢false (sym e ∙ get_or_past (replicate pages false) page false (let l = length-replicate pages false in omega (arith, l, le)))
]

-- a step between two servers over one opening store
pub record Step (before after : ServerValue) : Type 0 where
  pub arose : IsServer before
  pub arises : IsServer after
  pub opening : (commits_of after).opening ≡ (commits_of before).opening

pub ledgers : (before after : ServerValue) → Step before after → Ledger (opening_at before) (server_of before) × Ledger (opening_at before) (server_of after)
ledgers before after step = ((rules_kept before step.arose).1, subst (λ (o : StoreState). Ledger (opening_of o) (server_of after)) step.opening (rules_kept after step.arises).1)

-- another client's hand, where no commit is applied
pub others_stored : (before after : ServerValue) (pages d : ℕ) (hand : HandState) → Step before after → (server_of after).commits ≡ (server_of before).commits
    → KeepsClient (server_of before) (server_of after) d → IsStored (server_of before) pages d hand → IsStored (server_of after) pages d hand
others_stored before after pages d hand step commits keeps is = record {
  name = is.name;
  current = keeps.incarnation ∙ is.current;
  flags = is.flags;
  size = is.size;
  agrees = let l = ledgers before after step in others_stay (opening_at before) (server_of before) (server_of after) hand l.0 l.1 commits
      (subst (λ (k : ℕ). KeepsClient (server_of before) (server_of after) k) (sym is.name) keeps) is.agrees;
  lasts = λ txn e. let l = is.lasts txn e in (keeps.begun ∙ l.0, (let k = keeps.ended in let m = l.1 in omega (arith, k, m)));
  told = is.told;
}

-- and where one is, of pages that its client alone may write
pub commit_others_stored : (before after : ServerValue) (pages d c i txn : ℕ) (writes : List PageWrite) (hand : HandState) → Step before after
    → IsApplied (server_of before) (server_of after) c i txn writes → ((write : PageWrite) → IsIn write writes → (server_of before).store.holder write.page ≡ Some c) → d ≢ c
    → KeepsClient (server_of before) (server_of after) d → IsStored (server_of before) pages d hand → IsStored (server_of after) pages d hand
commit_others_stored before after pages d c i txn writes hand step applied holders apart keeps is = record {
  name = is.name;
  current = keeps.incarnation ∙ is.current;
  flags = is.flags;
  size = is.size;
  agrees = let l = ledgers before after step in commit_leaves_others (opening_at before) (server_of before) (server_of after) hand c i txn writes l.0 l.1 (rules_kept before step.arose).0
      applied holders (λ e. apart (sym is.name ∙ e)) (subst (λ (k : ℕ). KeepsClient (server_of before) (server_of after) k) (sym is.name) keeps) is.agrees;
  lasts = λ t e. let l = is.lasts t e in (keeps.begun ∙ l.0, (let k = keeps.ended in let m = l.1 in omega (arith, k, m)));
  told = is.told;
}

-- the hand of an incarnation that only greeted
pub new_stored : (server : Server) (client incarnation pages : ℕ) → (server.session client).current ≡ incarnation → IsStored server pages client (empty_hand client incarnation pages)
new_stored server client incarnation pages current = record {
  name = refl;
  current = current;
  flags = length-replicate pages false ∙ sym (length-replicate pages None);
  size = length-replicate pages None;
  agrees = empty_agrees server client incarnation pages;
  lasts = λ txn e. absurd (none_some txn e);
  told = λ page e. absurd (no_flag pages page e);
}

-- its permissions end
pub ended_stored : (server : Server) (pages client : ℕ) (hand : HandState) → hand.client ≡ client → (server.session client).current ≡ hand.incarnation → IsHand hand → length hand.held ≡ pages
    → HasRows server hand → IsStored server pages client (without_permissions hand)
ended_stored server pages client hand name current flags size rows = record {
  name = name;
  current = current;
  flags = length-replicate (length hand.writable) false ∙ flags;
  size = size;
  agrees = permissions_end server hand rows;
  lasts = λ txn e. absurd (none_some txn e);
  told = λ page e. absurd (no_flag (length hand.writable) page e);
}

-- a copy goes
pub goes_stored : (server : Server) (pages client page : ℕ) (hand : HandState) → page < length hand.held → IsStored server pages client hand → IsStored server pages client (without_copy hand page)
goes_stored server pages client page hand lt is = record {
  name = is.name;
  current = is.current;
  flags = length-set hand.writable page false ∙ is.flags ∙ sym (length-set hand.held page None);
  size = length-set hand.held page None ∙ is.size;
  agrees = copy_goes server hand page is.flags lt is.agrees;
  lasts = is.lasts;
  told = λ k e. is.told k (still k e (cases_eq k page));
}
  where
    still : (k : ℕ) → has (slice_set hand.writable page false) k ≡ true → (k ≡ page) ⊎ (k ≢ page) → has hand.writable k ≡ true
    still k e (inl here) = absurd (true≢false (sym e ∙ ap (λ (j : ℕ). has (slice_set hand.writable page false) j) here ∙ get_or-set_same hand.writable page false false (let f = is.flags in omega (arith, f, lt))))
    still k e (inr apart) = sym (get_or-set_other hand.writable page k false false apart) ∙ e

-- a copy comes whose row stands
comes_stored : (server : Server) (pages client page : ℕ) (copy : Held) (hand : HandState) → page < length hand.held → IsRow server hand.client page copy → IsStored server pages client hand
    → IsStored server pages client (with_copy hand page copy)
comes_stored server pages client page copy hand lt row is = record {
  name = is.name;
  current = is.current;
  flags = length-set hand.writable page false ∙ is.flags ∙ sym (length-set hand.held page (Some copy));
  size = length-set hand.held page (Some copy) ∙ is.size;
  agrees = copy_comes server hand page copy is.flags lt row is.agrees;
  lasts = is.lasts;
  told = λ k e. is.told k (still k e (cases_eq k page));
}
  where
    still : (k : ℕ) → has (slice_set hand.writable page false) k ≡ true → (k ≡ page) ⊎ (k ≢ page) → has hand.writable k ≡ true
    still k e (inl here) = absurd (true≢false (sym e ∙ ap (λ (j : ℕ). has (slice_set hand.writable page false) j) here ∙ get_or-set_same hand.writable page false false (let f = is.flags in omega (arith, f, lt))))
    still k e (inr apart) = sym (get_or-set_other hand.writable page k false false apart) ∙ e

both : (a b : Bool) → (a && b) ≡ true → (a ≡ true) × (b ≡ true)
both true b e = (refl, e)
both false b e = absurd (true≢false (sym e))

some_is : (o : Option ℕ) (g : ℕ) → is_exactly o g ≡ true → o ≡ Some g
some_is o g e = grind arith

-- a grant that is collected
pub received_stored : (server : Server) (pages client page grant : ℕ) (hand : HandState) → IsStored server pages client hand → IsStored server pages client (received server hand page grant)
received_stored server pages client page grant hand is = go (nat_lt page (length hand.held) && (is_none (held_at hand.held page) && has_row server hand.client page grant)) refl
  where
    go : (r : Bool) → (nat_lt page (length hand.held) && (is_none (held_at hand.held page) && has_row server hand.client page grant)) ≡ r
        → IsStored server pages client (if r then with_copy hand page (record { grant = grant; version = server.store.version page }) else hand)
    go false e = is
    go true e = let x = both _ _ e in let y = both _ _ x.1 in
        comes_stored server pages client page (record { grant = grant; version = server.store.version page }) hand (lt x.0) (record { grant = some_is _ grant y.1; version = refl }) is
      where
        lt : nat_lt page (length hand.held) ≡ true → page < length hand.held
        lt f = grind (arith, nat_tests)

-- a permission to write that is collected
pub told_stored : (server : Server) (pages client txn page grant : ℕ) (hand : HandState) → IsStored server pages client hand → IsStored server pages client (told server hand txn page grant)
told_stored server pages client txn page grant hand is = go (is_by (held_at hand.held page) grant && (is_lasting server hand.client txn && is_write_holder server hand.client page)) refl
  where
    held_there : (o : Option Held) → is_by o grant ≡ true → o ≢ None
    held_there None e f = true≢false (sym e)
    held_there (Some x) e f = none_some x (sym f)

    within : is_by (held_at hand.held page) grant ≡ true → page < length hand.held
    within e = elim (cases_lt page (length hand.held)) [
      | inl lt ↦ lt
      | inr le ↦ absurd (held_there _ e (get_or_past hand.held page None le))
    ]

    lasting : is_lasting server hand.client txn ≡ true → ((server.session client).txn ≡ txn) × ((server.session client).ended < txn)
    lasting e = let x = both _ _ e in subst (λ (c : ℕ). ((server.session c).txn ≡ txn) × ((server.session c).ended < txn)) is.name (same x.0, less x.1)
      where
        same : ((server.session hand.client).txn == txn) ≡ true → (server.session hand.client).txn ≡ txn
        same f = grind (arith, nat_tests)

        less : nat_lt (server.session hand.client).ended txn ≡ true → (server.session hand.client).ended < txn
        less f = grind (arith, nat_tests)

    go : (r : Bool) → (is_by (held_at hand.held page) grant && (is_lasting server hand.client txn && is_write_holder server hand.client page)) ≡ r
        → IsStored server pages client (if r then permitted hand page txn else hand)
    go false e = is
    go true e = let x = both _ _ e in let y = both _ _ x.1 in record {
      name = is.name;
      current = is.current;
      flags = length-set hand.writable page true ∙ is.flags;
      size = is.size;
      agrees = permission_comes server hand page txn is.flags (within x.0) (some_is _ hand.client y.1) is.agrees;
      lasts = λ t f. subst (λ (n : ℕ). ((server.session client).txn ≡ n) × ((server.session client).ended < n)) (let z : Some txn ≡ Some t = f in cc) (lasting y.0);
      told = λ k f. refl;
    }

-- a message of its own, that gives back nothing which the hand holds and applies no commit
module _ (before after : ServerValue) (pages c i : ℕ) (b : Body) (hand : HandState) (step : Step before after) (plain : before.limits.keep_write ≡ false) (other : b ≢ Hello)
    (becomes : server_of after ≡ server_after (server_of before) (server_take on_cycle (server_of before) c i b)) (commits : (server_of after).commits ≡ (server_of before).commits)
    (holds : (page : ℕ) (held : Held) → held_at hand.held page ≡ Some held → b ≢ GiveBack page held.grant) (is : IsStored (server_of before) pages c hand) where
  abbrev s : Server
  s = server_of before

  abbrev t : Server
  t = server_of after

  onward : Onward s t c
  onward = subst (λ (x : Server). Onward s x c) (sym becomes) (goes_on on_cycle s c i b other)

  keeps : KeepsOwn s t c b
  keeps = subst (λ (x : Server). KeepsOwn s x c b) (sym becomes) (own_stays on_cycle s c i b (keeps_none before step.arose plain) ((in_order before step.arose).step c) other)

  both_rows : HasRows t hand × ((t.session hand.client).ended < (s.session hand.client).txn → Agrees t hand)
  both_rows = let l = ledgers before after step in own_message (opening_at before) s t hand b l.0 l.1 commits (subst (λ (k : ℕ). KeepsOwn s t k b) (sym is.name) keeps) holds is.agrees

  current : (t.session c).current ≡ hand.incarnation
  current = onward.current ∙ is.current

  stays : Agrees t hand → ((txn : ℕ) → hand.txn ≡ Some txn → ((t.session c).txn ≡ txn) × ((t.session c).ended < txn)) → IsStored t pages c hand
  stays agrees lasts = record { name = is.name; current = current; flags = is.flags; size = is.size; agrees = agrees; lasts = lasts; told = is.told }

  own_stored : IsStored t pages c (ended_if_over t hand)
  own_stored = go hand.txn refl
    where
      unmarked : hand.txn ≡ None → Agrees t hand
      unmarked e = record {
        rows = both_rows.0;
        permission = λ page held here f. absurd (true≢false (sym (let z : IsSome {T = ℕ} None = subst (λ (o : Option ℕ). IsSome o) e (is.told page f) in z)));
      }

      lasting : (txn : ℕ) → hand.txn ≡ Some txn → (t.session c).ended < txn → ((t.session c).txn ≡ txn) × ((t.session c).ended < txn)
      lasting txn e l = let was = is.lasts txn e in let order = (in_order after step.arises).step c in let more = onward.begun in let x = was.0 in (omega (arith, x, order, more, l), l)

      by : (txn : ℕ) → hand.txn ≡ Some txn → (u v : Bool) → nat_lt (t.session hand.client).txn txn ≡ u → nat_lt (t.session hand.client).ended txn ≡ v
          → IsStored t pages c (if not u && not v then without_permissions hand else hand)
      by txn e true v f g = absurd (let was = is.lasts txn e in let more = onward.begun in let n = is.name in let x = was.0 in
          let l : (t.session hand.client).txn < txn = grind (arith, nat_tests) in let m = subst (λ (k : ℕ). (t.session k).txn < txn) n l in omega (arith, x, more, m))
      by txn e false true f g = let l : (t.session hand.client).ended < txn = grind (arith, nat_tests) in let m = subst (λ (k : ℕ). (t.session k).ended < txn) is.name l in let was = is.lasts txn e in
          stays (both_rows.1 (subst (λ (k : ℕ). (t.session k).ended < (s.session k).txn) (sym is.name) (let x = was.0 in omega (arith, x, m))))
          (λ n h. let same : txn ≡ n = (let z : Some txn ≡ Some n = sym e ∙ h in cc) in subst (λ (k : ℕ). ((t.session c).txn ≡ k) × ((t.session c).ended < k)) same (lasting txn e m))
      by txn e false false f g = ended_stored t pages c hand is.name current is.flags is.size both_rows.0

      go : (o : Option ℕ) → hand.txn ≡ o → IsStored t pages c (if is_over t hand.client o then without_permissions hand else hand)
      go None e = stays (unmarked e) (λ txn f. absurd (none_some txn (sym e ∙ f)))
      go (Some txn) e = by txn e _ _ refl refl

pub own_stored_by : (before after : ServerValue) (pages c i : ℕ) (b : Body) (hand : HandState) → Step before after → before.limits.keep_write ≡ false → b ≢ Hello
    → server_of after ≡ server_after (server_of before) (server_take on_cycle (server_of before) c i b) → (server_of after).commits ≡ (server_of before).commits
    → ((page : ℕ) (held : Held) → held_at hand.held page ≡ Some held → b ≢ GiveBack page held.grant) → IsStored (server_of before) pages c hand
    → IsStored (server_of after) pages c (ended_if_over (server_of after) hand)
own_stored_by before after pages c i b hand step plain other becomes commits holds is = own_stored before after pages c i b hand step plain other becomes commits holds is

-- a hand with other versions has all else
record SameBut (one other : HandState) : Type 0 where
  client : other.client ≡ one.client
  incarnation : other.incarnation ≡ one.incarnation
  writable : other.writable ≡ one.writable
  size : length other.held ≡ length one.held

all_same_but : (hand : HandState) (pages : List ℕ) (version : ℕ) → SameBut hand (all_restamped hand pages version)
all_same_but hand [] version = record { client = refl; incarnation = refl; writable = refl; size = refl }
all_same_but hand (page ∷ pages) version =
    let rest = all_same_but (restamped hand page version) pages version in
    record { client = rest.client; incarnation = rest.incarnation; writable = rest.writable; size = rest.size ∙ length-set hand.held page (at_version version (held_at hand.held page)) }

pub restamped_client : (hand : HandState) (pages : List ℕ) (version : ℕ) → (all_restamped hand pages version).client ≡ hand.client
restamped_client hand pages version = (all_same_but hand pages version).client

-- its own commit
pub commit_stored : (before after : ServerValue) (pages c i txn : ℕ) (writes : List Write) (hand : HandState) → Step before after → before.limits.keep_write ≡ false
    → server_of after ≡ server_after (server_of before) (server_take on_cycle (server_of before) c i (Commit txn (page_writes writes)))
    → IsApplied (server_of before) (server_of after) c hand.incarnation txn (page_writes writes)
    → ((write : PageWrite) → IsIn write (page_writes writes) → write.page < length hand.held) → IsStored (server_of before) pages c hand
    → IsStored (server_of after) pages c (committed hand writes ((server_of before).store.last_commit + 1))
commit_stored before after pages c i txn writes hand step plain becomes applied within is = record {
  name = same.client ∙ is.name;
  current = onward.current ∙ is.current ∙ sym same.incarnation;
  flags = length-replicate (length all.writable) false ∙ ap length same.writable ∙ is.flags ∙ sym same.size;
  size = same.size ∙ is.size;
  agrees = let l = ledgers before after step in own_commit (opening_at before) s t hand b hand.incarnation txn (page_writes writes) l.0 l.1
      (subst (λ (k : ℕ). IsApplied s t k hand.incarnation txn (page_writes writes)) (sym is.name) applied) (subst (λ (k : ℕ). KeepsOwn s t k b) (sym is.name) keeps)
      (λ p g e. let z : Commit txn (page_writes writes) ≡ GiveBack p g = e in cc) within is.agrees.rows;
  lasts = λ n e. absurd (none_some n e);
  told = λ page e. absurd (no_flag (length all.writable) page e);
}
  where
    s : Server
    s = server_of before

    t : Server
    t = server_of after

    b : Body
    b = Commit txn (page_writes writes)

    all : HandState
    all = all_restamped hand (pages_written (page_writes writes)) (s.store.last_commit + 1)

    same : SameBut hand all
    same = all_same_but hand (pages_written (page_writes writes)) (s.store.last_commit + 1)

    other : b ≢ Hello
    other e = let z : Commit txn (page_writes writes) ≡ Hello = e in cc

    onward : Onward s t c
    onward = subst (λ (x : Server). Onward s x c) (sym becomes) (goes_on on_cycle s c i b other)

    keeps : KeepsOwn s t c b
    keeps = subst (λ (x : Server). KeepsOwn s x c b) (sym becomes) (own_stays on_cycle s c i b (keeps_none before step.arose plain) ((in_order before step.arose).step c) other)

-- what is stored once a hand has become another, of every client
pub follow_stored : (P : ℕ → HandState → Type 0) (old new : List (Option HandState)) (one other : HandState) → Follow old new one other → one.client < length old → P one.client other
    → ((d : ℕ) (hand : HandState) → d ≢ one.client → stored_at old d ≡ Some hand → P d hand) → (d : ℕ) (hand : HandState) → stored_at new d ≡ Some hand → P d hand
follow_stored P old new one other follow lt own rest d hand e = by (cases_eq d one.client)
  where
    by : (d ≡ one.client) ⊎ (d ≢ one.client) → P d hand
    by (inl here) =
        let found : Some other ≡ Some hand = sym (get_or-set_same old one.client (Some other) None lt) ∙ sym (ap (λ (l : List (Option HandState)). stored_at l one.client) follow.hands)
        ∙ ap (λ (k : ℕ). stored_at new k) (sym here) ∙ e in
        let same : other ≡ hand = (let z = found in cc) in
        subst (λ (k : ℕ). P k hand) (sym here) (subst (λ (h : HandState). P one.client h) same own)
    by (inr apart) = rest d hand apart (sym (get_or-set_other old one.client d (Some other) None apart) ∙ sym (ap (λ (l : List (Option HandState)). stored_at l d) follow.hands) ∙ e)

-- What each change of the parts is to the protocol's server.
use Rattle.std.proofs.Common.{◌≡◌, ℕ, ◌<◌, ◌≤◌, ◌==◌, Bool, true, false, List, [], ◌∷◌, Option, Some, None, length, replicate, refl, sym, ap, ◌∙◌, arith, if◌then◌else◌, nat_lt, inl, inr}
use Rattle.std.specs.Prelude.{slice_set}
use Rattle.std.proofs.lemmas.Grind.{common_steps}
use Rattle.std.proofs.lemmas.Bool.{cases_lt}
use Rattle.std.proofs.lemmas.Bool.Decides.{nat_tests}
use Rattle.std.proofs.lemmas.List.{get_or_past, get_or-replicate, length-replicate}
use Rattle.std.proofs.Math.ListN.{length-set}
use Rattle.cb_asks.specs.Asks.{AsksState, Removes, queue_at, room_at}
use Rattle.cb_asks.specs.Marks.{HasMarks, MarksState, is_in_use}
use Rattle.cb_commit.specs.History.{CommitsState, begun}
use Rattle.cb_commit.specs.Stores.{StoreState}
use Rattle.cb_directory.specs.Directories as directory
use Rattle.cb_directory.specs.Directories.{DirectoryState, Forgets, GivesBack, Grants, IsNew, Permits, ReleasesAll, ReleasesIf, holder, row}
use Rattle.cb_directory.specs.RowTables.{at_page}
use Rattle.cb_links.specs.Admissions.{standing_of}
use Rattle.cb_links.specs.Changes as links
use Rattle.cb_links.specs.Changes.{commit_of, ended, greeted, is_live_transaction, session_of, unknown}
use Rattle.cb_links.specs.declared.sessions.Session.{Session}
use Rattle.cb_links.specs.declared.sessions.Standing.TheVariants as standing
use Rattle.cb_links.specs.declared.sessions.Transaction.{Transaction}
use Rattle.cb_links.specs.declared.sessions.Transaction.TheVariants.{NotBegun, Live, Ended}
use Rattle.cb_page.specs.Bounds.{Bounds}
use Rattle.cb_protocol.specs.Server.{ChangeSession, ForgetTransaction, ServerStep, new_server, server_after, without_marks}
use Rattle.cb_protocol.specs.Session as protocol
use Rattle.cb_protocol.specs.Session.{Admit, BeginTransaction, DropTransaction, EndPermission, GrantRow, PermitWrite, RemoveRow, has_live_txn}
use Rattle.cb_protocol.specs.World.{opening_store}
use Rattle.cb_server_state.specs.States.{Does, HasClient, PartsAgree, begun_txn, client_session, ended_txn, is_victim, limits_of, opening_of, or_zero, server_of, transaction_of}
use Rattle.cb_server_state.specs.declared.server_state.ServerState.{ServerState}
use Rattle.cb_server_state.specs.Questions.{IsLastIfLive}
use Rattle.cb_server_state.proofs.Alike.{Alike, same_server}

-- the state with other sessions, another directory, asks and marks
abbrev pub with_parts : ServerState → List Session → DirectoryState → AsksState → MarksState → ServerState
with_parts v sessions d asks marks = record v { sessions = sessions; directory = d; asks = asks; marks = marks }

-- the client's ask and marks went
pub record Forgotten (old_asks : AsksState) (old_marks : MarksState) (c : ℕ) (asks : AsksState) (marks : MarksState) : Type 0 where
  pub removed : Removes old_asks c asks
  pub cleared : HasMarks old_marks marks (without_marks (is_in_use old_marks) c)

-- the steps are done where the two servers are alike
pub does_alike : (v : ServerState) (steps : List ServerStep) (u : ServerState)
    → u.commits ≡ v.commits → u.keep_write ≡ v.keep_write → length u.sessions ≡ length v.sessions
    → ((page : ℕ) → room_at v.asks page ≤ room_at u.asks page)
    → Alike (server_of u) (server_after (server_of v) steps) → Does v steps u
does_alike v steps u same setting clients room alike = record {
  becomes = same_server _ _ alike;
  stays = record {
    keep_write = setting;
    clients = clients;
    pages = ap (λ (s : CommitsState). length s.store.pages) same;
    page_size = ap (λ (s : CommitsState). s.store.page_size) same;
    opening = ap (λ (s : CommitsState). s.opening) same;
    forgotten = ap (λ (s : CommitsState). s.forgotten) same;
  };
  room = room;
}

pub session_set : (xs : List Session) (c d : ℕ) (s : Session) → c < length xs
    → session_of (slice_set xs c s) d ≡ (if d == c then s else session_of xs d)
session_set xs c d s h = grind (arith, common_steps, nat_tests)

-- a client that is no write holder, in the words of the directory and of the protocol
pub freed : (f : ℕ → Option ℕ) (c p : ℕ) → directory.without_holder (f p) c ≡ protocol.without_holder f c p
freed f c p = by_holder (f p)
  where
    by_holder : (h : Option ℕ)
        → directory.without_holder h c ≡ protocol.without_holder (λ (q : ℕ). h) c p
    by_holder None = refl
    by_holder (Some other) = refl

freed_at : (f : ℕ → Option ℕ) (c p q : ℕ)
    → at_page f p (directory.without_holder (f p) c) q ≡ protocol.without_holder_at f c p q
freed_at f c p q = by_page (q == p) refl
  where
    by_page : (b : Bool) → (q == p) ≡ b
        → at_page f p (directory.without_holder (f p) c) q ≡ protocol.without_holder_at f c p q
    by_page true e = let same : q ≡ p = grind (arith, nat_tests) in
        rw e (ap (λ (h : Option ℕ). directory.without_holder h c) (ap f (sym same)) ∙ freed f c q)
    by_page false e = rw e refl

-- a transaction that lives, in the words of the sessions and of the protocol
pub lives : (v : ServerState) (c : ℕ) → PartsAgree v
    → has_live_txn (client_session v c) ≡ is_live_transaction (transaction_of v c)
lives v c are = by_transaction (transaction_of v c) (are.numbered c)
  where
    by_transaction : (t : Transaction) → (is_live_transaction t ≡ true → 1 ≤ begun_txn t)
        → nat_lt (ended_txn t) (begun_txn t) ≡ is_live_transaction t
    by_transaction NotBegun n = refl
    by_transaction (Live txn is_doomed) n = let one = n refl in grind (arith, nat_tests)
    by_transaction (Ended txn commit) n = grind (arith, nat_tests)

pub admits : (v : ServerState) (c i : ℕ) (d : DirectoryState) (asks : AsksState) (marks : MarksState) → HasClient v c
    → Forgets v.directory c d → Forgotten v.asks v.marks c asks marks
    → Does v (ForgetTransaction c ∷ ChangeSession c (Admit i) ∷ [])
    (with_parts v (slice_set v.sessions c (greeted i)) d asks marks)
admits v c i d asks marks h f gone = does_alike v _ _ refl refl (length-set v.sessions c (greeted i)) gone.removed.room (record {
  holder = λ page. f.has.holders page ∙ freed (holder v.directory) c page;
  tag = λ page. grind (arith, f.has.tags page);
  keep_write = refl;
  version = λ page. refl;
  bytes = λ page. refl;
  last_commit = refl;
  commit_number = λ client incarnation txn. refl;
  current = λ client. grind (arith, nat_tests, session_set v.sessions c client (greeted i) h);
  row = λ client page. grind (arith, nat_tests, f.has.rows client page);
  txn = λ client. grind (arith, nat_tests, session_set v.sessions c client (greeted i) h);
  ended = λ client. grind (arith, nat_tests, session_set v.sessions c client (greeted i) h);
  queue = gone.removed.has.queues;
  in_use = gone.cleared.marks;
  doomed = λ client. grind (arith, nat_tests, session_set v.sessions c client (greeted i) h);
  outcome = λ client. grind (arith, nat_tests, session_set v.sessions c client (greeted i) h);
  next_grant = f.next;
  commits = refl;
  flushed = refl;
  clients = length-set v.sessions c (greeted i);
  pages = refl;
})

-- A later transaction: its client's permissions went where the earlier one lived, and else stayed.
pub begins : (v : ServerState) (c t : ℕ) (d : DirectoryState) (asks : AsksState) (marks : MarksState) → HasClient v c
    → ((page : ℕ) → holder d page ≡ (if has_live_txn (client_session v c)
    then protocol.without_holder (holder v.directory) c page else holder v.directory page))
    → ((client page : ℕ) → row d client page ≡ row v.directory client page)
    → ((page : ℕ) → directory.tag d page ≡ directory.tag v.directory page)
    → d.next_grant ≡ v.directory.next_grant → Forgotten v.asks v.marks c asks marks
    → Does v (ForgetTransaction c ∷ ChangeSession c (BeginTransaction t) ∷ [])
    (with_parts v (slice_set v.sessions c (links.begun (session_of v.sessions c) t)) d asks marks)
begins v c t d asks marks h holders rows tags next gone = does_alike v _ _ refl refl (length-set v.sessions c s) gone.removed.room (record {
  holder = holders;
  tag = λ page. grind (arith, tags page);
  keep_write = refl;
  version = λ page. refl;
  bytes = λ page. refl;
  last_commit = refl;
  commit_number = λ client incarnation txn. refl;
  current = λ client. grind (arith, nat_tests, session_set v.sessions c client s h);
  row = λ client page. grind (arith, nat_tests, rows client page);
  txn = λ client. grind (arith, nat_tests, session_set v.sessions c client s h);
  ended = λ client. grind (arith, nat_tests, session_set v.sessions c client s h);
  queue = gone.removed.has.queues;
  in_use = gone.cleared.marks;
  doomed = λ client. grind (arith, nat_tests, session_set v.sessions c client s h);
  outcome = λ client. grind (arith, nat_tests, session_set v.sessions c client s h);
  next_grant = next;
  commits = refl;
  flushed = refl;
  clients = length-set v.sessions c s;
  pages = refl;
})
  where
    s : Session
    s = links.begun (session_of v.sessions c) t

pub begins_live : (v : ServerState) (c t : ℕ) (d : DirectoryState) (asks : AsksState) (marks : MarksState) → HasClient v c → PartsAgree v
    → is_live_transaction (transaction_of v c) ≡ true → ReleasesAll v.directory c d → Forgotten v.asks v.marks c asks marks
    → Does v (ForgetTransaction c ∷ ChangeSession c (BeginTransaction t) ∷ [])
    (with_parts v (slice_set v.sessions c (links.begun (session_of v.sessions c) t)) d asks marks)
begins_live v c t d asks marks h agree live f = begins v c t d asks marks h
    (λ page. rw (lives v c agree, live) (f.has.holders page ∙ freed (holder v.directory) c page))
    f.has.rows f.has.tags f.next

pub begins_after : (v : ServerState) (c t : ℕ) (asks : AsksState) (marks : MarksState) → HasClient v c → PartsAgree v
    → is_live_transaction (transaction_of v c) ≡ false → Forgotten v.asks v.marks c asks marks
    → Does v (ForgetTransaction c ∷ ChangeSession c (BeginTransaction t) ∷ [])
    (with_parts v (slice_set v.sessions c (links.begun (session_of v.sessions c) t)) v.directory asks marks)
begins_after v c t asks marks h agree over = begins v c t v.directory asks marks h
    (λ page. rw (lives v c agree, over) refl) (λ client page. refl) (λ page. refl) refl

-- a live transaction that has ended
pub ended_is : (s : Session) (commit : Option ℕ) → is_live_transaction s.transaction ≡ true
    → ended s commit ≡ record s { transaction = Ended (begun_txn s.transaction) commit }
ended_is s commit live = by_transaction s.transaction live
  where
    by_transaction : (t : Transaction) → is_live_transaction t ≡ true
        → links.with_transaction s (links.ended_transaction t commit)
        ≡ record s { transaction = Ended (begun_txn t) commit }
    by_transaction NotBegun e = cc
    by_transaction (Live txn is_doomed) e = refl
    by_transaction (Ended txn last) e = cc

pub drops : (v : ServerState) (c : ℕ) (d : DirectoryState) (asks : AsksState) (marks : MarksState) → HasClient v c → PartsAgree v
    → has_live_txn (client_session v c) ≡ true → ReleasesAll v.directory c d → Forgotten v.asks v.marks c asks marks
    → Does v (ForgetTransaction c ∷ ChangeSession c (DropTransaction (client_session v c).txn) ∷ [])
    (with_parts v (slice_set v.sessions c (ended (session_of v.sessions c) None)) d asks marks)
drops v c d asks marks h agree live f gone = rw is (does_alike v _ _ refl refl (length-set v.sessions c s) gone.removed.room (record {
  holder = λ page. f.has.holders page ∙ freed (holder v.directory) c page;
  tag = λ page. grind (arith, f.has.tags page);
  keep_write = refl;
  version = λ page. refl;
  bytes = λ page. refl;
  last_commit = refl;
  commit_number = λ client incarnation txn. refl;
  current = λ client. grind (arith, nat_tests, session_set v.sessions c client s h);
  row = λ client page. grind (arith, nat_tests, f.has.rows client page);
  txn = λ client. grind (arith, nat_tests, session_set v.sessions c client s h);
  ended = λ client. grind (arith, nat_tests, session_set v.sessions c client s h);
  queue = gone.removed.has.queues;
  in_use = gone.cleared.marks;
  doomed = λ client. grind (arith, nat_tests, session_set v.sessions c client s h);
  outcome = λ client. grind (arith, nat_tests, session_set v.sessions c client s h);
  next_grant = f.next;
  commits = refl;
  flushed = refl;
  clients = length-set v.sessions c s;
  pages = refl;
}))
  where
    s : Session
    s = record (session_of v.sessions c) { transaction = Ended (begun_txn (transaction_of v c)) None }

    is : ended (session_of v.sessions c) None ≡ s
    is = ended_is (session_of v.sessions c) None (sym (lives v c agree) ∙ live)

-- rows, holders and tags alone change
by_directory : (v : ServerState) (step : ServerStep) (d : DirectoryState)
    → Alike (server_of (record v { directory = d })) (server_after (server_of v) (step ∷ []))
    → Does v (step ∷ []) (record v { directory = d })
by_directory v step d alike = does_alike v (step ∷ []) (record v { directory = d }) refl refl refl (λ page. omega arith) alike

pub ends_permission : (v : ServerState) (c p : ℕ) (d : DirectoryState)
    → ReleasesIf v.directory c p d → (grant tag : ℕ)
    → Does v (ChangeSession c (EndPermission p grant tag) ∷ []) (record v { directory = d })
ends_permission v c p d f grant tag = by_directory v (ChangeSession c (EndPermission p grant tag)) d (record {
  holder = λ page. f.has.holders page ∙ freed_at (holder v.directory) c p page;
  tag = λ page. grind (arith, f.has.tags page);
  keep_write = refl;
  version = λ page. refl;
  bytes = λ page. refl;
  last_commit = refl;
  commit_number = λ client incarnation txn. refl;
  current = λ client. grind (arith, nat_tests);
  row = λ client page. grind (arith, nat_tests, f.has.rows client page);
  txn = λ client. grind (arith, nat_tests);
  ended = λ client. grind (arith, nat_tests);
  queue = λ page. refl;
  in_use = λ client page. refl;
  doomed = λ client. refl;
  outcome = λ client. grind (arith, nat_tests);
  next_grant = f.next;
  commits = refl;
  flushed = refl;
  clients = refl;
  pages = refl;
})

-- the row goes, and a permission that is kept with it
pub removes_both : (v : ServerState) (c p : ℕ) (one two : DirectoryState) → v.keep_write ≡ true
    → GivesBack v.directory c p one → ReleasesIf one c p two → (grant : ℕ)
    → Does v (ChangeSession c (RemoveRow p grant) ∷ []) (record v { directory = two })
removes_both v c p one two kept f g grant = by_directory v (ChangeSession c (RemoveRow p grant)) two (record {
  holder = λ page. rw kept (g.has.holders page ∙ grind (arith, nat_tests, f.has.holders page, f.has.holders p) ∙ freed_at (holder v.directory) c p page);
  tag = λ page. grind (arith, f.has.tags page, g.has.tags page);
  keep_write = refl;
  version = λ page. refl;
  bytes = λ page. refl;
  last_commit = refl;
  commit_number = λ client incarnation txn. refl;
  current = λ client. grind (arith, nat_tests);
  row = λ client page. grind (arith, nat_tests, f.has.rows client page, g.has.rows client page);
  txn = λ client. grind (arith, nat_tests);
  ended = λ client. grind (arith, nat_tests);
  queue = λ page. refl;
  in_use = λ client page. refl;
  doomed = λ client. refl;
  outcome = λ client. grind (arith, nat_tests);
  next_grant = g.next ∙ f.next;
  commits = refl;
  flushed = refl;
  clients = refl;
  pages = refl;
})

-- a copy, by the next grant
pub grants_row : (v : ServerState) (c p : ℕ) (d : DirectoryState) → Grants v.directory c p d
    → Does v (ChangeSession c (GrantRow p v.directory.next_grant) ∷ []) (record v { directory = d })
grants_row v c p d f = by_directory v (ChangeSession c (GrantRow p v.directory.next_grant)) d (record {
  holder = λ page. f.has.holders page;
  tag = λ page. grind (arith, f.has.tags page);
  keep_write = refl;
  version = λ page. refl;
  bytes = λ page. refl;
  last_commit = refl;
  commit_number = λ client incarnation txn. refl;
  current = λ client. grind (arith, nat_tests);
  row = λ client page. grind (arith, nat_tests, f.has.rows client page);
  txn = λ client. grind (arith, nat_tests);
  ended = λ client. grind (arith, nat_tests);
  queue = λ page. refl;
  in_use = λ client page. refl;
  doomed = λ client. refl;
  outcome = λ client. grind (arith, nat_tests);
  next_grant = f.next;
  commits = refl;
  flushed = refl;
  clients = refl;
  pages = refl;
})

-- a permission, for the client's last transaction
pub permits_write : (v : ServerState) (c p grant txn : ℕ) (d : DirectoryState) → txn ≡ (client_session v c).txn → Permits v.directory c p txn d
    → Does v (ChangeSession c (PermitWrite p grant) ∷ []) (record v { directory = d })
permits_write v c p grant txn d is f = by_directory v (ChangeSession c (PermitWrite p grant)) d (record {
  holder = λ page. grind (arith, nat_tests, f.has.holders page);
  tag = λ page. grind (arith, nat_tests, f.has.tags page, is);
  keep_write = refl;
  version = λ page. refl;
  bytes = λ page. refl;
  last_commit = refl;
  commit_number = λ client incarnation txn. refl;
  current = λ client. grind (arith, nat_tests);
  row = λ client page. grind (arith, nat_tests, f.has.rows client page);
  txn = λ client. grind (arith, nat_tests);
  ended = λ client. grind (arith, nat_tests);
  queue = λ page. refl;
  in_use = λ client page. refl;
  doomed = λ client. refl;
  outcome = λ client. grind (arith, nat_tests);
  next_grant = f.next;
  commits = refl;
  flushed = refl;
  clients = refl;
  pages = refl;
})

-- a client that nobody knows
is_unknown : (clients client : ℕ) → session_of (replicate clients unknown) client ≡ unknown
is_unknown clients client = elim (cases_lt client clients) [
  | inl lt ↦ get_or-replicate clients client unknown unknown lt
  | inr past ↦ get_or_past (replicate clients unknown) client unknown (rw (length-replicate) past)
]

pub opens : (limits : Bounds) (store : StoreState) (d : DirectoryState) (asks : AsksState) (marks : MarksState) → IsNew limits d
    → length store.pages ≡ limits.pages → ((page : ℕ) → queue_at asks page ≡ []) → ((client page : ℕ) → is_in_use marks client page ≡ false)
    → server_of (record {
      keep_write = limits.keep_write;
      sessions = replicate limits.clients unknown;
      directory = d;
      commits = begun store;
      asks = asks;
      marks = marks;
    }) ≡ new_server limits.clients limits.pages (opening_store (limits_of limits) (opening_of store))
opens limits store d asks marks new pages nobody none = same_server _ _ (record {
  holder = new.holders;
  tag = λ page. grind (arith, new.tags page);
  keep_write = refl;
  version = λ page. refl;
  bytes = λ page. refl;
  last_commit = refl;
  commit_number = λ client incarnation txn. refl;
  current = λ client. ap (λ (s : Session). or_zero s.incarnation) (is_unknown limits.clients client);
  row = λ client page. new.rows client page;
  txn = λ client. ap (λ (s : Session). begun_txn s.transaction) (is_unknown limits.clients client);
  ended = λ client. ap (λ (s : Session). ended_txn s.transaction) (is_unknown limits.clients client);
  queue = nobody;
  in_use = none;
  doomed = λ client. ap (λ (s : Session). is_victim s.transaction) (is_unknown limits.clients client);
  outcome = λ client. ap (λ (s : Session). commit_of s.transaction) (is_unknown limits.clients client);
  next_grant = new.next;
  commits = refl;
  flushed = refl;
  clients = length-replicate limits.clients unknown;
  pages = pages;
})

-- a transaction that neither ended nor is later is the last one
pub last_if_live : (v : ServerState) (c txn : ℕ) → PartsAgree v
    → IsLastIfLive (standing_of (transaction_of v c) txn) (server_of v) c txn
last_if_live v c txn are = by_transaction (transaction_of v c) refl
  where
    by_order : (t : ℕ) (is_doomed : Bool) → transaction_of v c ≡ Live t is_doomed → (a b : Bool)
        → nat_lt txn t ≡ a → nat_lt t txn ≡ b
        → IsLastIfLive (if a then standing.Ended else if b then standing.Later
        else if is_doomed then standing.Doomed else standing.Live) (server_of v) c txn
    by_order t is_doomed is true b e f = tt
    by_order t is_doomed is false true e f = tt
    by_order t true is false false e f =
        record { is = rw is (grind (arith, nat_tests)); lives = lives v c are ∙ ap is_live_transaction is }
    by_order t false is false false e f =
        record { is = rw is (grind (arith, nat_tests)); lives = lives v c are ∙ ap is_live_transaction is }

    by_end : (b : Bool) → IsLastIfLive (if b then standing.Later else standing.Ended) (server_of v) c txn
    by_end true = tt
    by_end false = tt

    by_transaction : (t : Transaction) → transaction_of v c ≡ t
        → IsLastIfLive (standing_of t txn) (server_of v) c txn
    by_transaction NotBegun is = tt
    by_transaction (Live t is_doomed) is = by_order t is_doomed is (nat_lt txn t) (nat_lt t txn) refl refl
    by_transaction (Ended last commit) is = by_end (nat_lt last txn)

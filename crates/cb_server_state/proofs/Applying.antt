-- What a commit that is applied is to the protocol's server.
use Rattle.std.proofs.Common.{◌≡◌, ℕ, ◌≤◌, ◌+◌, ◌==◌, Bool, true, false, List, [], ◌∷◌, length, Option, Some, refl, sym, ap, ◌∙◌, subst, arith, if◌then◌else◌}
use Rattle.std.specs.Prelude.{slice_set}
use Rattle.std.proofs.lemmas.Bool.Decides.{nat_tests}
use Rattle.std.proofs.Math.ListN.{length-set}
use Rattle.cb_asks.specs.Asks.{AsksState}
use Rattle.cb_asks.specs.Marks.{MarksState}
use Rattle.cb_commit.proofs.Rewriting.{rewritten_length}
use Rattle.cb_commit.specs.History.{FitsInto, applied, rewritten}
use Rattle.cb_commit.specs.declared.commit.Commit.{Commit}
use Rattle.cb_directory.specs.Directories as directory
use Rattle.cb_directory.specs.Directories.{DirectoryState, ReleasesAll, holder, row}
use Rattle.cb_directory.specs.RowTables.{IsAsLarge}
use Rattle.cb_frame.specs.declared.writes.Write.{Write}
use Rattle.cb_links.specs.Changes.{ended, ended_transaction, is_live_transaction, session_of}
use Rattle.cb_links.specs.declared.sessions.Session.{Session}
use Rattle.cb_links.specs.declared.sessions.Transaction.{Transaction}
use Rattle.cb_links.specs.declared.sessions.Transaction.TheVariants.{NotBegun, Live, Ended}
use Rattle.cb_protocol.specs.Basics.{same_transaction}
use Rattle.cb_protocol.specs.Server.{AppliedCommit, ChangeSession, ForgetTransaction}
use Rattle.cb_protocol.specs.Session as protocol
use Rattle.cb_protocol.specs.Session.{ApplyCommit, has_live_txn}
use Rattle.cb_server_state.specs.States.{Does, HasClient, PartsAgree, begun_txn, client_session, commit_number_in, newest_first, transaction_of}
use Rattle.cb_server_state.specs.declared.server_state.ServerState.{ServerState}
use Rattle.cb_outbox.specs.Messages.{page_writes}
use Rattle.cb_server_state.proofs.Alike.{same_server}
use Rattle.cb_server_state.proofs.Committed.{bytes_written, newest, version_written}
use Rattle.cb_server_state.proofs.Steps.{Forgotten, ended_is, freed, lives, session_set}

-- the next commit
abbrev pub next_of : ServerState → (client incarnation txn : ℕ) → List Write → Commit
next_of v client incarnation txn writes = record {
  client = client;
  incarnation = incarnation;
  txn = txn;
  number = v.commits.store.number + 1;
  writes = writes;
}

-- the state after it, with another directory, asks and marks
abbrev pub after_commit : ServerState → (client incarnation txn : ℕ) → List Write
    → DirectoryState → AsksState → MarksState → ServerState
after_commit v c i t ws d asks marks = record {
  keep_write = v.keep_write;
  sessions = slice_set v.sessions c
      (ended (session_of v.sessions c) (Some (v.commits.store.number + 1)));
  directory = d;
  commits = applied v.commits (next_of v c i t ws);
  asks = asks;
  marks = marks;
}

-- the commit may be applied: of its client's last transaction, which lives, into the store
pub record MayApply (v : ServerState) (c i t : ℕ) (ws : List Write) : Type 0 where
  pub client : HasClient v c
  pub current : i ≡ (client_session v c).current
  pub txn : t ≡ (client_session v c).txn
  pub live : has_live_txn (client_session v c) ≡ true
  pub fit : FitsInto v.commits.store ws

-- its client's permissions went, or are kept
pub record EndsPermissions (v : ServerState) (c : ℕ) (d : DirectoryState) : Type 0 where
  pub holders : (page : ℕ) → holder d page ≡ (if v.keep_write then holder v.directory page
      else protocol.without_holder (holder v.directory) c page)
  pub rows : (client page : ℕ) → row d client page ≡ row v.directory client page
  pub tags : (page : ℕ) → directory.tag d page ≡ directory.tag v.directory page
  pub next : d.next_grant ≡ v.directory.next_grant

pub applies : (v : ServerState) (c i t : ℕ) (ws : List Write) (d : DirectoryState) (asks : AsksState) (marks : MarksState)
    → PartsAgree v → MayApply v c i t ws → EndsPermissions v c d → Forgotten v.asks v.marks c asks marks
    → Does v (ForgetTransaction c ∷ ChangeSession c (ApplyCommit t (page_writes ws)) ∷ [])
    (after_commit v c i t ws d asks marks)
applies v c i t ws d asks marks agree a p gone = rw is (record {
  becomes = same_server _ _ (record {
    holder = p.holders;
    tag = λ page. grind (arith, p.tags page);
    keep_write = refl;
    version = λ page. version_written v.commits.store ws number page a.fit;
    bytes = λ page. bytes_written v.commits.store ws number page a.fit;
    last_commit = refl;
    commit_number = λ client incarnation txn.
        ap (λ (xs : List AppliedCommit). commit_number_in xs client incarnation txn)
        (newest v.commits.commits (next_of v c i t ws))
        ∙ ap (λ (k : ℕ). if same_transaction client incarnation txn c k t then Some number
        else commit_number_in (newest_first v.commits.commits) client incarnation txn) a.current;
    current = λ client. grind (arith, nat_tests, session_set v.sessions c client s a.client);
    row = λ client page. grind (arith, nat_tests, p.rows client page);
    txn = λ client. grind (arith, nat_tests, session_set v.sessions c client s a.client);
    ended = λ client. grind (arith, nat_tests, session_set v.sessions c client s a.client, a.txn);
    queue = gone.removed.has.queues;
    in_use = gone.cleared.marks;
    doomed = λ client. grind (arith, nat_tests, session_set v.sessions c client s a.client);
    outcome = λ client. grind (arith, nat_tests, session_set v.sessions c client s a.client);
    next_grant = p.next;
    commits = newest v.commits.commits (next_of v c i t ws)
        ∙ ap (λ (k : ℕ). record {
          client = c;
          incarnation = k;
          txn = t;
          number = number;
          writes = page_writes ws;
        } ∷ newest_first v.commits.commits) a.current;
    flushed = refl;
    clients = length-set v.sessions c s;
    pages = rewritten_length ws number v.commits.store.pages;
  });
  stays = record {
    keep_write = refl;
    clients = length-set v.sessions c s;
    pages = rewritten_length ws number v.commits.store.pages;
    page_size = refl;
    opening = refl;
    forgotten = refl;
  };
  room = gone.removed.room;
})
  where
    number : ℕ
    number = v.commits.store.number + 1

    s : Session
    s = record (session_of v.sessions c) {
      transaction = Ended (begun_txn (transaction_of v c)) (Some (v.commits.store.number + 1));
    }

    is : ended (session_of v.sessions c) (Some (v.commits.store.number + 1)) ≡ s
    is = ended_is (session_of v.sessions c) (Some (v.commits.store.number + 1)) (sym (lives v c agree) ∙ a.live)

-- without the setting its client's permissions went
pub applies_ending : (v : ServerState) (c i t : ℕ) (ws : List Write) (d : DirectoryState) (asks : AsksState) (marks : MarksState)
    → PartsAgree v → MayApply v c i t ws → v.keep_write ≡ false → ReleasesAll v.directory c d → Forgotten v.asks v.marks c asks marks
    → Does v (ForgetTransaction c ∷ ChangeSession c (ApplyCommit t (page_writes ws)) ∷ [])
    (after_commit v c i t ws d asks marks)
applies_ending v c i t ws d asks marks agree may setting f = applies v c i t ws d asks marks agree may (record {
  holders = λ page. rw setting (f.has.holders page ∙ freed (holder v.directory) c page);
  rows = f.has.rows;
  tags = f.has.tags;
  next = f.next;
})

-- with it they are kept
pub applies_keeping : (v : ServerState) (c i t : ℕ) (ws : List Write) (asks : AsksState) (marks : MarksState)
    → PartsAgree v → MayApply v c i t ws → v.keep_write ≡ true → Forgotten v.asks v.marks c asks marks
    → Does v (ForgetTransaction c ∷ ChangeSession c (ApplyCommit t (page_writes ws)) ∷ [])
    (after_commit v c i t ws v.directory asks marks)
applies_keeping v c i t ws asks marks agree may setting = applies v c i t ws v.directory asks marks agree may (record {
  holders = λ page. rw setting refl;
  rows = λ client page. refl;
  tags = λ page. refl;
  next = refl;
})

-- the sizes agree and a live transaction is numbered from 1, as before
pub applied_agree : (v : ServerState) (c i t : ℕ) (ws : List Write) (d : DirectoryState) (asks : AsksState) (marks : MarksState)
    → PartsAgree v → HasClient v c → IsAsLarge v.directory.tables d.tables → Forgotten v.asks v.marks c asks marks
    → PartsAgree (after_commit v c i t ws d asks marks)
applied_agree v c i t ws d asks marks agree h size gone = record {
  clients = size.clients ∙ agree.clients ∙ clients;
  pages = size.pages ∙ agree.pages ∙ pages;
  queues = gone.removed.has.pages ∙ agree.queues ∙ pages;
  marked_clients = gone.cleared.clients ∙ agree.marked_clients ∙ clients;
  marked_pages = gone.cleared.pages ∙ agree.marked_pages ∙ pages;
  numbered = λ client alive.
      by_client client (client == c) (session_of (slice_set v.sessions c s) client)
      (session_set v.sessions c client s h) alive;
}
  where
    s : Session
    s = ended (session_of v.sessions c) (Some (v.commits.store.number + 1))

    clients : length v.sessions ≡ length (slice_set v.sessions c s)
    clients = sym (length-set v.sessions c s)

    pages : length v.commits.store.pages ≡ length (rewritten (v.commits.store.number + 1) v.commits.store.pages ws)
    pages = sym (rewritten_length ws (v.commits.store.number + 1) v.commits.store.pages)

    over : (t : Transaction) (commit : Option ℕ) → is_live_transaction (ended_transaction t commit) ≡ false
    over NotBegun commit = refl
    over (Live txn is_doomed) commit = refl
    over (Ended txn last) commit = refl

    by_client : (client : ℕ) (b : Bool) (x : Session) → x ≡ (if b then s else session_of v.sessions client)
        → is_live_transaction x.transaction ≡ true → 1 ≤ begun_txn x.transaction
    by_client client true x e alive =
        let ends = ap (λ (y : Session). is_live_transaction y.transaction) e in
        let no = over (transaction_of v c) (Some (v.commits.store.number + 1)) in
        let wrong : true ≡ false = sym alive ∙ (ends ∙ no) in
        cc
    by_client client false x e alive =
        let same = ap (λ (y : Session). y.transaction) e in
        subst (λ (t : Transaction). 1 ≤ begun_txn t) (sym same)
        (agree.numbered client (subst (λ (t : Transaction). is_live_transaction t ≡ true) same alive))

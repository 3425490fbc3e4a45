-- A later transaction that begins and commits at once.
use Rattle.std.proofs.Common.{◌≡◌, ℕ, ◌<◌, ◌≤◌, ◌==◌, Bool, true, false, List, [], ◌∷◌, ◌++◌, Option, Some, None, length, refl, sym, ap, ◌∙◌, subst, arith, if◌then◌else◌}
use Rattle.std.specs.Prelude.{slice_set}
use Rattle.std.proofs.lemmas.Bool.Decides.{nat_tests}
use Rattle.std.proofs.Math.ListN.{length-set}
use Rattle.cb_asks.specs.Asks.{AsksState, queue_at}
use Rattle.cb_asks.specs.Marks.{MarksState, is_in_use}
use Rattle.cb_commit.specs.History.{FitsInto}
use Rattle.cb_directory.specs.Directories.{DirectoryState, ReleasesAll, holder}
use Rattle.cb_directory.specs.RowTables.{IsAsLarge}
use Rattle.cb_frame.specs.declared.writes.Write.{Write}
use Rattle.cb_links.specs.Changes as links
use Rattle.cb_links.specs.Changes.{is_live_transaction, session_of}
use Rattle.cb_links.specs.declared.sessions.Session.{Session}
use Rattle.cb_protocol.specs.Basics.{is_exactly}
use Rattle.cb_protocol.specs.Messages.{PageWrite}
use Rattle.cb_protocol.specs.Server.{ChangeSession, ForgetTransaction, Server, ServerStep, WaitingAsk, server_after, without_client, without_marks}
use Rattle.cb_protocol.specs.ServerMessages.{commit_allowed}
use Rattle.cb_protocol.specs.Session as protocol
use Rattle.cb_protocol.specs.Session.{ApplyCommit, BeginTransaction, has_live_txn}
use Rattle.cb_server_state.specs.States.{Does, HasClient, PartsAgree, Stays, begun_txn, client_session, or_zero, server_of, transaction_of}
use Rattle.cb_server_state.specs.declared.server_state.ServerState.{ServerState}
use Rattle.cb_server_state.specs.Questions.{begun_server}
use Rattle.cb_outbox.specs.Messages.{page_writes}
use Rattle.cb_server_state.proofs.Applying.{EndsPermissions, MayApply, after_commit, applied_agree, applies}
use Rattle.cb_server_state.proofs.Steps.{Forgotten, begins_after, begins_live, freed, session_set, with_parts}

-- whom the client's own permission is gone from
not_own : (holder : ℕ → Option ℕ) (c p : ℕ) → is_exactly (protocol.without_holder holder c p) c ≡ false
not_own holder c p = go (holder p)
  where
    tested : (other : ℕ) (b : Bool) → (other == c) ≡ b → is_exactly (if b then None else Some other) c ≡ false
    tested other true e = refl
    tested other false e = e

    go : (h : Option ℕ) → is_exactly (protocol.without_holder (λ q. h) c p) c ≡ false
    go None = refl
    go (Some other) = tested other (other == c) refl

-- no page may be written once the transaction that lived has been dropped
pub none_allowed : (s : Server) (c t : ℕ) (ws : List Write) (b : Bool) → has_live_txn (s.session c) ≡ true → b ≡ (length ws == 0)
    → b ≡ commit_allowed (begun_server s c t) c (page_writes ws)
none_allowed s c t [] b live e = e
none_allowed s c t (w ∷ ws) b live e = rw (live, not_own s.store.holder c w.page) (e ∙ some)
  where
    some : (length (w ∷ ws) == 0) ≡ false
    some = grind arith

-- else as before
pub as_allowed : (s : Server) (c t : ℕ) (ws : List PageWrite) → has_live_txn (s.session c) ≡ false
    → commit_allowed (begun_server s c t) c ws ≡ commit_allowed s c ws
as_allowed s c t [] over = refl
as_allowed s c t (w ∷ ws) over = rw (over, same, as_allowed s c t ws over) refl
  where
    same : (c == c) ≡ true
    same = grind arith

-- one after another
pub stays_then : (before middle after : ServerState) → Stays before middle → Stays middle after → Stays before after
stays_then before middle after a b = record {
  keep_write = b.keep_write ∙ a.keep_write;
  clients = b.clients ∙ a.clients;
  pages = b.pages ∙ a.pages;
  page_size = b.page_size ∙ a.page_size;
  opening = b.opening ∙ a.opening;
  forgotten = b.forgotten ∙ a.forgotten;
}

-- some steps, then others
does_then : (v u w : ServerState) (xs ys : List ServerStep) → Does v xs u
    → server_after (server_after (server_of v) xs) ys ≡ server_after (server_of v) (xs ++ ys)
    → Does u ys w → Does v (xs ++ ys) w
does_then v u w xs ys a e b = record {
  becomes = b.becomes ∙ (ap (λ (s : Server). server_after s ys) a.becomes ∙ e);
  stays = stays_then v u w a.stays b.stays;
  room = λ page. let one = a.room page in let two = b.room page in omega (arith, one, two);
}

-- Two ends of one client, the one after the other: what is gone is gone.
pub without_twice : (client : ℕ) (queue : List WaitingAsk) → without_client client (without_client client queue) ≡ without_client client queue
without_twice client [] = refl
without_twice client (ask ∷ queue) = go (without_twice client queue) (ask.client == client) refl
  where
    go : without_client client (without_client client queue) ≡ without_client client queue → (b : Bool) → (ask.client == client) ≡ b
        → without_client client (if b then without_client client queue else ask ∷ without_client client queue) ≡ (if b then without_client client queue else ask ∷ without_client client queue)
    go same true e = same
    go same false e = rw e (ap (λ (l : List WaitingAsk). ask ∷ l) same)

marks_twice : (in_use : ℕ → ℕ → Bool) (client other page : ℕ) → without_marks in_use client other page ≡ without_marks (without_marks in_use client) client other page
marks_twice in_use client other page = go (other == client)
  where
    go : (b : Bool) → (if b then false else in_use other page) ≡ (if b then false else if b then false else in_use other page)
    go true = refl
    go false = refl

again_in : (f g : ℕ → ℕ → Bool) (client other page : ℕ) → f other page ≡ g other page → without_marks f client other page ≡ without_marks g client other page
again_in f g client other page e = ap (λ (b : Bool). if other == client then false else b) e

-- what went is gone
forgotten_still : (v : ServerState) (c : ℕ) (asks : AsksState) (marks : MarksState) → Forgotten v.asks v.marks c asks marks → Forgotten asks marks c asks marks
forgotten_still v c asks marks gone = record {
  removed = record {
    has = record {
      queues = λ page. let now = gone.removed.has.queues page in
          now ∙ sym (ap (without_client c) now ∙ without_twice c (queue_at v.asks page));
      pages = refl;
    };
    room = λ page. omega arith;
  };
  cleared = record {
    marks = λ client page. let now = gone.cleared.marks client page in
        now ∙ marks_twice (is_in_use v.marks) c client page
        ∙ again_in (without_marks (is_in_use v.marks) c) (is_in_use marks) c client page (sym now);
    clients = refl;
    pages = refl;
  };
}

module _ (v : ServerState) (c i t : ℕ) (ws : List Write) (asks : AsksState) (marks : MarksState) (agree : PartsAgree v) (h : HasClient v c)
    (gone : Forgotten v.asks v.marks c asks marks) (current : i ≡ (client_session v c).current) (later : (client_session v c).txn < t) (fit : FitsInto v.commits.store ws) where
  begun : Session
  begun = links.begun (session_of v.sessions c) t

  -- the state once it has begun, with that directory
  abbrev pub at_begin : DirectoryState → ServerState
  at_begin d = with_parts v (slice_set v.sessions c (links.begun (session_of v.sessions c) t)) d asks marks

  still : Forgotten asks marks c asks marks
  still = forgotten_still v c asks marks gone

  has_begun : (d : DirectoryState) → session_of (at_begin d).sessions c ≡ links.begun (session_of v.sessions c) t
  has_begun d = session_set v.sessions c c (links.begun (session_of v.sessions c) t) h ∙ ap (λ (b : Bool). if b then links.begun (session_of v.sessions c) t else session_of v.sessions c) same
    where
      same : (c == c) ≡ true
      same = grind arith

  pub has_client : (d : DirectoryState) → HasClient (at_begin d) c
  has_client d = rw (length-set v.sessions c (links.begun (session_of v.sessions c) t)) h

  may : (d : DirectoryState) → MayApply (at_begin d) c i t ws
  may d = record {
    client = has_client d;
    current = current ∙ sym (ap (λ (s : Session). or_zero s.incarnation) (has_begun d));
    txn = sym (ap (λ (s : Session). begun_txn s.transaction) (has_begun d));
    live = grind (arith, nat_tests, has_begun d, later);
    fit = fit;
  }

  pub begun_agree : (d : DirectoryState) → IsAsLarge v.directory.tables d.tables → PartsAgree (at_begin d)
  begun_agree d size = record {
    clients = size.clients ∙ agree.clients ∙ sym (length-set v.sessions c (links.begun (session_of v.sessions c) t));
    pages = size.pages ∙ agree.pages;
    queues = gone.removed.has.pages ∙ agree.queues;
    marked_clients = gone.cleared.clients ∙ agree.marked_clients ∙ sym (length-set v.sessions c (links.begun (session_of v.sessions c) t));
    marked_pages = gone.cleared.pages ∙ agree.marked_pages;
    numbered = λ client alive. by client (client == c) (session_of (at_begin d).sessions client) (session_set v.sessions c client (links.begun (session_of v.sessions c) t) h) alive;
  }
    where
      by : (client : ℕ) (b : Bool) (x : Session) → x ≡ (if b then links.begun (session_of v.sessions c) t else session_of v.sessions client)
          → is_live_transaction x.transaction ≡ true → 1 ≤ begun_txn x.transaction
      by client true x e alive = subst (λ (y : Session). 1 ≤ begun_txn y.transaction) (sym e) (omega (arith, later))
      by client false x e alive = subst (λ (y : Session). 1 ≤ begun_txn y.transaction) (sym e)
          (agree.numbered client (subst (λ (y : Session). is_live_transaction y.transaction ≡ true) e alive))

  -- whose permissions went, they are gone
  gone_twice : (f : ℕ → Option ℕ) (p : ℕ) → protocol.without_holder f c p ≡ protocol.without_holder (λ q. protocol.without_holder f c q) c p
  gone_twice f p = go (f p)
    where
      tested : (other : ℕ) (b : Bool) → (other == c) ≡ b → (if b then None else Some other) ≡ protocol.without_holder (λ (q : ℕ). if b then None else Some other) c p
      tested other true e = refl
      tested other false e = rw e refl

      go : (x : Option ℕ) → protocol.without_holder (λ (q : ℕ). x) c p ≡ protocol.without_holder (λ q. protocol.without_holder (λ (r : ℕ). x) c q) c p
      go None = refl
      go (Some other) = tested other (other == c) refl

  -- permissions are kept, or go
  kept_or_gone : (d : DirectoryState) → ReleasesAll v.directory c d → EndsPermissions (at_begin d) c d
  kept_or_gone d f = record {
    holders = λ page. by page v.keep_write;
    rows = λ client page. refl;
    tags = λ page. refl;
    next = refl;
  }
    where
      went : (page : ℕ) → holder d page ≡ protocol.without_holder (holder v.directory) c page
      went page = f.has.holders page ∙ freed (holder v.directory) c page

      by : (page : ℕ) (b : Bool) → holder d page ≡ (if b then holder d page else protocol.without_holder (holder d) c page)
      by page true = refl
      by page false = went page ∙ (gone_twice (holder v.directory) page
          ∙ sym (λ i. protocol.without_holder (λ q. went q i) c page))

  -- the transaction before it lived
  pub after_live : (d : DirectoryState) → is_live_transaction (transaction_of v c) ≡ true → ReleasesAll v.directory c d
      → Does v (ForgetTransaction c ∷ ChangeSession c (BeginTransaction t) ∷ ForgetTransaction c ∷ ChangeSession c (ApplyCommit t (page_writes ws)) ∷ [])
      (after_commit (at_begin d) c i t ws d asks marks)
  after_live d live f = does_then v (at_begin d) (after_commit (at_begin d) c i t ws d asks marks) (ForgetTransaction c ∷ ChangeSession c (BeginTransaction t) ∷ [])
      (ForgetTransaction c ∷ ChangeSession c (ApplyCommit t (page_writes ws)) ∷ []) (begins_live v c t d asks marks h agree live f gone) refl
      (applies (at_begin d) c i t ws d asks marks (begun_agree d f.has.size) (may d) (kept_or_gone d f) still)

  same_size : IsAsLarge v.directory.tables v.directory.tables
  same_size = record { clients = refl; pages = refl }

  -- it had ended, and permissions aren't kept
  pub after_end : (d : DirectoryState) → is_live_transaction (transaction_of v c) ≡ false → v.keep_write ≡ false → ReleasesAll v.directory c d
      → Does v (ForgetTransaction c ∷ ChangeSession c (BeginTransaction t) ∷ ForgetTransaction c ∷ ChangeSession c (ApplyCommit t (page_writes ws)) ∷ [])
      (after_commit (at_begin d) c i t ws d asks marks)
  after_end d over setting f = does_then v (at_begin v.directory) (after_commit (at_begin d) c i t ws d asks marks) (ForgetTransaction c ∷ ChangeSession c (BeginTransaction t) ∷ [])
      (ForgetTransaction c ∷ ChangeSession c (ApplyCommit t (page_writes ws)) ∷ []) (begins_after v c t asks marks h agree over gone) refl
      (applies (at_begin v.directory) c i t ws d asks marks (begun_agree v.directory same_size) (may v.directory) (record {
        holders = λ page. rw setting (f.has.holders page ∙ freed (holder v.directory) c page);
        rows = f.has.rows;
        tags = f.has.tags;
        next = f.next;
      }) still)

  -- it had ended, and they are kept
  pub after_kept : is_live_transaction (transaction_of v c) ≡ false → v.keep_write ≡ true
      → Does v (ForgetTransaction c ∷ ChangeSession c (BeginTransaction t) ∷ ForgetTransaction c ∷ ChangeSession c (ApplyCommit t (page_writes ws)) ∷ [])
      (after_commit (at_begin v.directory) c i t ws v.directory asks marks)
  after_kept over setting = does_then v (at_begin v.directory) (after_commit (at_begin v.directory) c i t ws v.directory asks marks) (ForgetTransaction c ∷ ChangeSession c (BeginTransaction t) ∷ [])
      (ForgetTransaction c ∷ ChangeSession c (ApplyCommit t (page_writes ws)) ∷ []) (begins_after v c t asks marks h agree over gone) refl
      (applies (at_begin v.directory) c i t ws v.directory asks marks (begun_agree v.directory same_size) (may v.directory) (record {
        holders = λ page. rw setting refl;
        rows = λ client page. refl;
        tags = λ page. refl;
        next = refl;
      }) still)

  -- sizes agree and a live transaction is numbered from 1, as before
  pub later_agree : (d : DirectoryState) → IsAsLarge v.directory.tables d.tables → PartsAgree (after_commit (at_begin d) c i t ws d asks marks)
  later_agree d size = applied_agree (at_begin d) c i t ws d asks marks (begun_agree d size) (has_client d) (record { clients = refl; pages = refl }) still

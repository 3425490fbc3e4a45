-- Two servers that are alike point by point are the same.
use Rattle.std.proofs.Common.{◌≡◌, ℕ}
use Rattle.cb_protocol.specs.Server.{Server}

pub record Alike (s t : Server) : Type 0 where
  pub holder : (page : ℕ) → s.store.holder page ≡ t.store.holder page
  pub tag : (page : ℕ) → s.store.tag page ≡ t.store.tag page
  pub keep_write : s.store.keep_write ≡ t.store.keep_write
  pub version : (page : ℕ) → s.store.version page ≡ t.store.version page
  pub bytes : (page : ℕ) → s.store.bytes page ≡ t.store.bytes page
  pub last_commit : s.store.last_commit ≡ t.store.last_commit
  pub commit_number : (client incarnation txn : ℕ)
      → s.store.commit_number client incarnation txn ≡ t.store.commit_number client incarnation txn
  pub current : (client : ℕ) → (s.session client).current ≡ (t.session client).current
  pub row : (client page : ℕ) → (s.session client).row page ≡ (t.session client).row page
  pub txn : (client : ℕ) → (s.session client).txn ≡ (t.session client).txn
  pub ended : (client : ℕ) → (s.session client).ended ≡ (t.session client).ended
  pub queue : (page : ℕ) → s.queue page ≡ t.queue page
  pub in_use : (client page : ℕ) → s.in_use client page ≡ t.in_use client page
  pub doomed : (client : ℕ) → s.doomed client ≡ t.doomed client
  pub outcome : (client : ℕ) → s.outcome client ≡ t.outcome client
  pub next_grant : s.next_grant ≡ t.next_grant
  pub commits : s.commits ≡ t.commits
  pub flushed : s.flushed ≡ t.flushed
  pub clients : s.clients ≡ t.clients
  pub pages : s.pages ≡ t.pages

pub same_server : (s t : Server) → Alike s t → s ≡ t
same_server s t a = λ i. record {
  store = record {
    holder = λ page. a.holder page i;
    tag = λ page. a.tag page i;
    keep_write = a.keep_write i;
    version = λ page. a.version page i;
    bytes = λ page. a.bytes page i;
    last_commit = a.last_commit i;
    commit_number = λ client incarnation txn. a.commit_number client incarnation txn i;
  };
  session = λ client. record {
    current = a.current client i;
    row = λ page. a.row client page i;
    txn = a.txn client i;
    ended = a.ended client i;
  };
  queue = λ page. a.queue page i;
  in_use = λ client page. a.in_use client page i;
  doomed = λ client. a.doomed client i;
  outcome = λ client. a.outcome client i;
  next_grant = a.next_grant i;
  commits = a.commits i;
  flushed = a.flushed i;
  clients = a.clients i;
  pages = a.pages i;
}

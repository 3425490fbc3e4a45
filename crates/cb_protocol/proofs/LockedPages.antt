-- What a transaction had locked as it finished keeps its rows until its commit is applied.
use Rattle.std.proofs.Common.{List, None, Option, Some, [], ap, arith, inl, inr, refl, subst, sym, ℕ, ◌<◌, ◌∙◌, ◌∷◌, ◌≡◌, ◌≢◌, ◌⊎◌}
use Rattle.cb_protocol.proofs.Committing.{Awaits, Locks, stays_applied, still_committing}
use Rattle.cb_protocol.proofs.Followed.{ImageOfSome, IsImage, Keeps, image_of_reached, kept_along}
use Rattle.cb_protocol.proofs.ReadVersions.{AllRead, ReadFacts, read_at_start, read_kept}
use Rattle.cb_protocol.specs.CommitsOnTheirWay.{CommitsFindTheirRows, CommitsKeepTheirRows, HasFinished, HasLocked, IsOnItsWay, RowStands, WritesAreBacked}
use Rattle.cb_protocol.proofs.Invariant.{MessageFact, SessionFacts, cache_at_session}
use Rattle.cb_protocol.proofs.Machine.{ClientChanges, ClientMaySay, ClientRestarts, ClientSays, ListsWrites, Machine, ServerChanges, ServerMaySend, ServerSends, WasSent, present_cache}
use Rattle.cb_protocol.proofs.MachineSteps.{came_now}
use Rattle.cb_protocol.specs.AnyMessages.{IsCommit, committed_names}
use Rattle.cb_protocol.specs.Basics.{IsIn, Limits}
use Rattle.cb_protocol.specs.Cache.{Cache}
use Rattle.cb_protocol.specs.Laws.{Always}
use Rattle.cb_protocol.specs.Messages.{Body, Commit, Message, PageWrite, write_of_page}
use Rattle.cb_protocol.specs.Serial.{TransactionName}
use Rattle.cb_protocol.specs.Server.{AppliedCommit, DeadlockTest}
use Rattle.cb_protocol.specs.Session.{Session, Store}
use Rattle.cb_protocol.specs.World.{Opening, World, world_after}

-- transaction x of client c's incarnation i was applied, or is committing, with page p locked
abbrev AppliedOrLocks : (c i x p g v : ℕ) → Machine → Type 0
AppliedOrLocks c i x p g v w = (w.store.commit_number c i x ≢ None) ⊎ (Awaits (w.client c i) x × Locks (w.client c i) p g v)

locks_kept : (c i x p g v : ℕ) → Keeps (AppliedOrLocks c i x p g v)
locks_kept c i x p g v w e h a r = elim r [
  | inl n ↦ inl (stays_applied w e c i x n)
  | inr l ↦ elim (still_committing w e c i x h a l.0) [ inl n ↦ inl n | inr o ↦ inr (o.awaits, o.locks p g v l.1) ]
]

-- it was applied, or is committing
abbrev AppliedOrAwaits : Machine → ℕ → ℕ → ℕ → Type 0
AppliedOrAwaits w c i x = (w.store.commit_number c i x ≢ None) ⊎ Awaits (w.client c i) x

awaits_kept : (c i x : ℕ) → Keeps (λ w. AppliedOrAwaits w c i x)
awaits_kept c i x w e h a r = elim r [
  | inl n ↦ inl (stays_applied w e c i x n)
  | inr l ↦ elim (still_committing w e c i x h a l) [ inl n ↦ inl n | inr o ↦ inr o.awaits ]
]

-- each transaction whose Commit was sent was applied, or is committing
abbrev AllSent : Machine → Type 0
AllSent w = (c i x : ℕ) (ws : List PageWrite) → WasSent w c i (Commit x ws) → AppliedOrAwaits w c i x

commit_said : (Came : Body → Type 0) (k : Cache) (y : Body) (x : ℕ) (ws : List PageWrite) → ClientMaySay Came k y → y ≡ Commit x ws → Awaits k x
commit_said Came k y x ws a e = grind arith

sent_kept : Keeps AllSent
sent_kept w (ClientChanges d m) h a r c i x ws sent = awaits_kept c i x w (ClientChanges d m) h a (r c i x ws sent)
sent_kept w (ClientSays d y) h a r c i x ws sent = elim sent [
  | inl e ↦ inr (subst (λ (f : Message). (z : ℕ) (zs : List PageWrite) → f.body ≡ Commit z zs → Awaits (w.client f.client f.incarnation) z) e
      (λ z zs. commit_said (WasSent w d (w.incarnation d)) (present_cache w d) y z zs a.1) x ws refl)
  | inr j ↦ r c i x ws j
]
sent_kept w (ServerChanges d m) h a r c i x ws sent = awaits_kept c i x w (ServerChanges d m) h a (r c i x ws sent)
sent_kept w (ServerSends d j y) h a r c i x ws sent = elim sent [
  | inl e ↦ absurd (subst (λ (f : Message). ServerMaySend w.store d (w.session d) j f.body) e a)
  | inr k ↦ r c i x ws k
]
sent_kept w (ClientRestarts d) h a r c i x ws sent = r c i x ws sent

-- while it is not applied, a page's row stands at the version read
stands : (c : ℕ) (s : Store) (t : Session) (k : Cache) (x p g v : ℕ) → SessionFacts c s t k → ReadFacts c s t k → Awaits k x → Locks k p g v → s.commit_number c t.current x ≡ None → (t.row p ≡ Some g) × (s.version p ≡ v)
stands c s t k x p g v h r a l n = grind arith

-- and what its Commit lists is what it wrote
lists : (c : ℕ) (s : Store) (t : Session) (k : Cache) (x : ℕ) (ws : List PageWrite) → ReadFacts c s t k → Awaits k x → s.commit_number c t.current x ≡ None → MessageFact c s t k (Commit x ws) → (t.ended < k.number) × ListsWrites ws k
lists c s t k x ws r a n f = grind arith

-- so its pages are the client's to write
writes_stand : (c : ℕ) (s : Store) (t : Session) (k : Cache) (ws : List PageWrite) (p : ℕ) (w : PageWrite) → SessionFacts c s t k → t.ended < k.number → ListsWrites ws k → write_of_page ws p ≡ Some w → (t.row p ≡ Some w.grant) × (s.holder p ≡ Some c)
writes_stand c s t k ws p w h b l e = let z = l.each p w e in grind arith

-- an applied commit's name
name_of_commit : (commits : List AppliedCommit) (c i x n : ℕ) → IsCommit commits c i x n → IsIn (record { client = c; incarnation = i; txn = x }) (committed_names commits)
name_of_commit [] c i x n m = absurd m.1
name_of_commit (commit ∷ commits) c i x n m = elim m.1 [
  | inl e ↦ inl (grind arith)
  | inr j ↦ inr (name_of_commit commits c i x n (m.0, j, m.2, m.3, m.4, m.5))
]

-- the machine has the transaction's incarnation as current
now : (L : Limits) (o : Opening) (v : World) (w : Machine) (name : TransactionName) → IsImage L o v w → IsOnItsWay v name → (w.session name.client).current ≡ name.incarnation
now L o v w name m on = ap (λ (t : ℕ → Session). (t name.client).current) m.session ∙ on.current

-- what is not in the list of commits has no number
no_number : (L : Limits) (o : Opening) (v : World) (w : Machine) (name : TransactionName) → IsImage L o v w → IsOnItsWay v name → w.store.commit_number name.client (w.session name.client).current name.txn ≡ None
no_number L o v w name m on = ap (λ (i : ℕ). w.store.commit_number name.client i name.txn) (now L o v w name m on)
    ∙ (ap (λ (s : Store). s.commit_number name.client name.incarnation name.txn) m.store ∙ go (v.server.store.commit_number name.client name.incarnation name.txn) refl)
  where
    go : (r : Option ℕ) → v.server.store.commit_number name.client name.incarnation name.txn ≡ r → r ≡ None
    go None e = refl
    go (Some n) e = absurd (on.not_applied (name_of_commit v.server.commits name.client name.incarnation name.txn n (m.books.known name.client name.incarnation name.txn n e)))

-- so a client that was applied or has T, has T
not_applied : (L : Limits) (o : Opening) (v : World) (w : Machine) (name : TransactionName) (T : Cache → Type 0) → IsImage L o v w → IsOnItsWay v name → (w.store.commit_number name.client name.incarnation name.txn ≢ None) ⊎ T (w.client name.client name.incarnation) → T (cache_at_session w name.client)
not_applied L o v w name T m on a = elim (subst (λ (i : ℕ). (w.store.commit_number name.client i name.txn ≢ None) ⊎ T (w.client name.client i)) (sym (now L o v w name m on)) a) [
  | inl n ↦ absurd (n (no_number L o v w name m on))
  | inr t ↦ t
]

-- a page locked in the world, at its machine
locks_there : (L : Limits) (o : Opening) (v : World) (w : Machine) (name : TransactionName) (p g r : ℕ) → IsImage L o v w → HasFinished v name → HasLocked v name.client p g r
    → Awaits (w.client name.client name.incarnation) name.txn × Locks (w.client name.client name.incarnation) p g r
locks_there L o v w name p g r m f l = subst (λ (i : ℕ). Awaits (w.client name.client i) name.txn × Locks (w.client name.client i) p g r) (m.incarnation name.client (omega arith) ∙ f.incarnation)
    (subst (λ (k : Cache). Awaits k name.txn × Locks k p g r) (sym (m.cache name.client (omega arith))) ((f.status, f.txn), record { locked = l.locked; held = l.held; version = l.version }))

row_stands : (L : Limits) (o : Opening) (v : World) (w : Machine) (name : TransactionName) (p g r : ℕ) → IsImage L o v w → AllRead w → AppliedOrLocks name.client name.incarnation name.txn p g r w → IsOnItsWay v name → RowStands v name.client p g r
row_stands L o v w name p g r m all a on =
    let k = not_applied L o v w name (λ (k : Cache). Awaits k name.txn × Locks k p g r) m on a in
    let z = stands name.client w.store (w.session name.client) (cache_at_session w name.client) name.txn p g r (m.safe.good name.client) (all name.client) k.0 k.1 (no_number L o v w name m on) in
    record {
      row = subst (λ (t : ℕ → Session). (t name.client).row p ≡ Some g) m.session z.0;
      version = subst (λ (s : Store). s.version p ≡ r) m.store z.1;
    }

pub commits_keep_their_rows : (L : Limits) (cycle : DeadlockTest) → CommitsKeepTheirRows L cycle
commits_keep_their_rows L cycle o finished ms name p g r sound reached f l plays on =
    let a : ImageOfSome L o AllRead finished = image_of_reached L cycle o AllRead read_kept (read_at_start L o) finished sound reached in
    let P : Machine → Type 0 = λ w. AllRead w × AppliedOrLocks name.client name.incarnation name.txn p g r w in
    let b : ImageOfSome L o P (world_after finished ms) = kept_along L cycle o P (λ w e h may q. (read_kept w e h may q.0, locks_kept name.client name.incarnation name.txn p g r w e h may q.1)) finished ms
    (a.0, a.1, (a.2, inr (locks_there L o finished a.0 name p g r a.1 f l))) plays in
    row_stands L o (world_after finished ms) b.0 name p g r b.1 b.2.0 b.2.1 on

writes_backed : (L : Limits) (o : Opening) (v : World) (w : Machine) (name : TransactionName) (ws : List PageWrite) → IsImage L o v w → AllRead w → AllSent w
    → IsIn (record { client = name.client; incarnation = name.incarnation; body = Commit name.txn ws }) v.packets → IsOnItsWay v name → WritesAreBacked v name.client ws
writes_backed L o v w name ws m all sent i on = record {
  row = λ p x e. subst (λ (t : ℕ → Session). (t name.client).row p ≡ Some x.grant) m.session (there p x e).0;
  permission = λ p x e. subst (λ (s : Store). s.holder p ≡ Some name.client) m.store (there p x e).1;
}
  where
    came : WasSent w name.client (w.session name.client).current (Commit name.txn ws)
    came = subst (λ (j : ℕ). WasSent w name.client j (Commit name.txn ws)) (sym (now L o v w name m on)) (m.packets _ (omega arith) i)

    awaits : Awaits (cache_at_session w name.client) name.txn
    awaits = not_applied L o v w name (λ (k : Cache). Awaits k name.txn) m on (sent name.client name.incarnation name.txn ws (m.packets _ (omega arith) i))

    listed : ((w.session name.client).ended < (cache_at_session w name.client).number) × ListsWrites ws (cache_at_session w name.client)
    listed = lists name.client w.store (w.session name.client) (cache_at_session w name.client) name.txn ws (all name.client) awaits (no_number L o v w name m on) (came_now w name.client (Commit name.txn ws) m.safe came)

    there : (p : ℕ) (x : PageWrite) → write_of_page ws p ≡ Some x → ((w.session name.client).row p ≡ Some x.grant) × (w.store.holder p ≡ Some name.client)
    there p x e = writes_stand name.client w.store (w.session name.client) (cache_at_session w name.client) ws p x (m.safe.good name.client) listed.0 listed.1 e

pub commits_find_their_rows : Always (λ o v. CommitsFindTheirRows v)
commits_find_their_rows L cycle o v sound reached name ws i on =
    let P : Machine → Type 0 = λ w. AllRead w × AllSent w in
    let a : ImageOfSome L o P v = image_of_reached L cycle o P (λ w e h may q. (read_kept w e h may q.0, sent_kept w e h may q.1)) (read_at_start L o, λ c i x ws s. absurd s) v sound reached in
    writes_backed L o v a.0 name ws a.1 a.2.0 a.2.1 i on

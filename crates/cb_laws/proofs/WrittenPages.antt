-- Pages that a transaction wrote.
use Rattle.std.proofs.Common.{List, None, Option, Some, [], ap, arith, false, inl, inr, refl, subst, sym, true, ℕ, ◌∙◌, ◌∷◌, ◌≡◌, ◌≢◌}
use Rattle.cb_laws.proofs.PresentClients.{IsCurrent, Present, cache_now, holder_current, present, reader_current, some_grant, worker_current, writer_current}
use Rattle.cb_laws.proofs.WrittenMarks.{AllMarks, marks_at_start, marks_kept}
use Rattle.cb_laws.specs.WrittenPages.{HasWritten, IsApplied, WritesOnTheirWay, WrittenPages, last_transaction, last_written}
use Rattle.cb_protocol.proofs.Followed.{ImageOfSome, image_of_reached}
use Rattle.cb_protocol.proofs.HeadlineProof.{headline}
use Rattle.cb_protocol.proofs.Invariant.{SessionFacts}
use Rattle.cb_protocol.proofs.LedgerKept.{Books}
use Rattle.cb_protocol.proofs.LockedPages.{commits_find_their_rows}
use Rattle.cb_protocol.proofs.Machine.{Machine}
use Rattle.cb_protocol.proofs.ReadVersions.{AllRead, ReadFacts, read_at_start, read_kept}
use Rattle.cb_protocol.specs.AnyMessages.{IsCommit, committed_names}
use Rattle.cb_protocol.specs.Basics.{Bytes, IsIn, Limits}
use Rattle.cb_protocol.specs.Cache.{Cache, Idle, Open}
use Rattle.cb_protocol.specs.Headline.{Promise, ReadableCopy, SoundOpening}
use Rattle.cb_protocol.specs.Laws.{Always}
use Rattle.cb_protocol.specs.Serial.{Operation, TransactionName}
use Rattle.cb_protocol.specs.Server.{AppliedCommit, DeadlockTest}
use Rattle.cb_protocol.specs.Session.{Session, Store}
use Rattle.cb_protocol.specs.World.{Opening, ReachedWorld, World}

-- a name of the list is a commit's
commit_of_name : (xs : List AppliedCommit) (name : TransactionName) → IsIn name (committed_names xs) → (x : AppliedCommit) × IsIn x xs × (x.client ≡ name.client) × (x.incarnation ≡ name.incarnation) × (x.txn ≡ name.txn)
commit_of_name [] name i = absurd i
commit_of_name (x ∷ xs) name i = elim i [
  | inl e ↦ (x, inl refl, ap (λ (n : TransactionName). n.client) e, ap (λ (n : TransactionName). n.incarnation) e, ap (λ (n : TransactionName). n.txn) e)
  | inr j ↦ (let r = commit_of_name xs name j in (r.0, inr r.1, r.2, r.3, r.4))
]

name_of_commit : (xs : List AppliedCommit) (c i x n : ℕ) → IsCommit xs c i x n → IsIn (record { client = c; incarnation = i; txn = x }) (committed_names xs)
name_of_commit [] c i x n m = absurd m.1
name_of_commit (y ∷ xs) c i x n m = elim m.1 [
  | inl e ↦ inl (grind arith)
  | inr j ↦ inr (name_of_commit xs c i x n (m.0, j, m.2, m.3, m.4, m.5))
]

-- the numbers of commits are those of the list
commit_has_number : (o : Opening) (v : World) (c i x n : ℕ) → Books o v.server → IsCommit v.server.commits c i x n → v.server.store.commit_number c i x ≡ Some n
commit_has_number o v c i x n b m = let e = b.listed m.0 m.1 in grind arith

applied_number : (o : Opening) (v : World) (c : ℕ) → Books o v.server → IsApplied v c → v.server.store.commit_number c (v.incarnation c) (cache_now v c).number ≢ None
applied_number o v c b a = let m = commit_of_name v.server.commits (last_transaction v c) a in let e = b.listed m.0 m.1 in grind arith

unapplied_number : (o : Opening) (v : World) (c : ℕ) → Books o v.server → (IsApplied v c → ⊥) → v.server.store.commit_number c (v.incarnation c) (cache_now v c).number ≡ None
unapplied_number o v c b a = go (v.server.store.commit_number c (v.incarnation c) (cache_now v c).number) refl
  where
    go : (r : Option ℕ) → v.server.store.commit_number c (v.incarnation c) (cache_now v c).number ≡ r → r ≡ None
    go None e = refl
    go (Some n) e = absurd (a (name_of_commit v.server.commits c (v.incarnation c) (cache_now v c).number n (b.known c (v.incarnation c) (cache_now v c).number n e)))

-- until a transaction's commit is applied, its client is write holder of what it wrote, at the version read
own_before : (c : ℕ) (s : Store) (t : Session) (k : Cache) (p g : ℕ) → SessionFacts c s t k → ReadFacts c s t k → k.wrote p ≡ true → k.held p ≡ Some g → s.commit_number c t.current k.number ≡ None → (s.holder p ≡ Some c) × (k.version p ≡ s.version p)
own_before c s t k p g h r e f n = let a : k.may_write p ≡ true = h.wrote_may p e in let b = h.calm p e in grind (arith, h.may_write p a, r.version p g, r.applied, h.lives)

-- once it is applied, the store has what it wrote
own_applied : (c : ℕ) (s : Store) (t : Session) (k : Cache) (p : ℕ) (b : Bytes) → SessionFacts c s t k → k.wrote p ≡ true → k.content p ≡ Some b → s.commit_number c t.current k.number ≢ None → b ≡ s.bytes p
own_applied c s t k p b h e f n = grind (arith, h.applied p b, h.over k.number)

own_version : (c : ℕ) (s : Store) (t : Session) (k : Cache) (p n : ℕ) → SessionFacts c s t k → k.wrote p ≡ true → s.commit_number c t.current k.number ≡ Some n → s.version p ≡ n
own_version c s t k p n h e f = h.numbered p n f e

open_unapplied : (c : ℕ) (s : Store) (t : Session) (k : Cache) → SessionFacts c s t k → k.status ≡ Open → s.commit_number c t.current k.number ≢ None → ⊥
open_unapplied c s t k h e n = grind (arith, h.lives e, h.over k.number)

copy_held : (c : ℕ) (s : Store) (t : Session) (k : Cache) (p : ℕ) (b : Bytes) → SessionFacts c s t k → k.content p ≡ Some b → k.held p ≢ None
copy_held c s t k p b h e f = let n = h.kept p f in absurd (let z : Some b ≡ None = sym e ∙ n in cc)

-- all of one world
written_pages : (o : Opening) (v : World) → Promise o v → Books o v.server → Present 0 v → WrittenPages v
written_pages o v y b r = record {
  own = λ c p x w. (marked c p x w).1;
  row = λ c p x w. let g = grant c p x w in (g.0, g.1, y.backed.row c p g.0 g.1);
  before = λ c p x w n. let h = stands c p x w n in record {
    holder = h.0;
    row = λ d g e. y.directory.sole p c d g h.0 e;
    held = λ d g e. y.directory.sole p c d g h.0 (y.backed.row d p g e);
    readable = λ d z e. let g = copy d p z e in y.directory.sole p c d g.0 h.0 (y.backed.row d p g.0 g.1);
    version = h.1;
  };
  unended = λ c e a. open_unapplied c v.server.store (v.server.session c) (cache_now v c) (good c (current c (open_goes c e))) e (numbered c (current c (open_goes c e)) a);
  applied = λ c p x w a. let e = current c w.goes_on in record {
    bytes = sym (own_applied c v.server.store (v.server.session c) (cache_now v c) p x (good c e) (marked c p x w).0 (marked c p x w).1 (numbered c e a));
    version = λ n m. own_version c v.server.store (v.server.session c) (cache_now v c) p n (good c e) (marked c p x w).0 (subst (λ (i : ℕ). v.server.store.commit_number c i (cache_now v c).number ≡ Some n) (sym e) (commit_has_number o v c (v.incarnation c) (cache_now v c).number n b m));
    holder = λ d f. let g = grant c p x w in sym (y.directory.sole p d c g.0 f (y.backed.row c p g.0 g.1));
    readable = λ d z f. y.agree d c p z x f (marked c p x w).1;
  };
  told = λ c n d. name_of_commit v.server.commits c (v.incarnation c) (cache_now v c).number n (y.dones c (v.incarnation c) (cache_now v c).number n d);
  mark = λ c p x w e. let m = (marked c p x w).0 in absurd (let z : true ≡ false = sym m ∙ e in cc);
  marked = λ c p e. last c p e;
}
  where
    current : (c : ℕ) → (cache_now v c).status ≢ Idle → IsCurrent v c
    current c = worker_current 0 v c r (omega arith)

    good : (c : ℕ) → IsCurrent v c → SessionFacts c v.server.store (v.server.session c) (cache_now v c)
    good c = r.good c (omega arith)

    open_goes : (c : ℕ) → (cache_now v c).status ≡ Open → (cache_now v c).status ≢ Idle
    open_goes c e f = absurd (let z : Open ≡ Idle = sym e ∙ f in cc)

    marked : (c p : ℕ) (x : Bytes) → HasWritten v c p x → ((cache_now v c).wrote p ≡ true) × ((cache_now v c).content p ≡ Some x)
    marked c p x w = (r.marks c (omega arith)).mark p x (subst (λ (os : List Operation). last_written os p ≡ Some x) (r.operations c (omega arith) w.goes_on) w.last)

    grant : (c p : ℕ) (x : Bytes) → HasWritten v c p x → (g : ℕ) × ((cache_now v c).held p ≡ Some g)
    grant c p x w = some_grant c v.server.store (v.server.session c) (cache_now v c) p
        (copy_held c v.server.store (v.server.session c) (cache_now v c) p x (good c (current c w.goes_on)) (marked c p x w).1)

    copy : (c p : ℕ) (x : Bytes) → ReadableCopy v c p x → (g : ℕ) × ((cache_now v c).held p ≡ Some g)
    copy c p x e = some_grant c v.server.store (v.server.session c) (cache_now v c) p
        (copy_held c v.server.store (v.server.session c) (cache_now v c) p x (good c (reader_current 0 v c p x r (omega arith) e)) e)

    stands : (c p : ℕ) (x : Bytes) → HasWritten v c p x → (IsApplied v c → ⊥) → (v.server.store.holder p ≡ Some c) × ((cache_now v c).version p ≡ v.server.store.version p)
    stands c p x w n = let e = current c w.goes_on in let g = grant c p x w in
        own_before c v.server.store (v.server.session c) (cache_now v c) p g.0 (good c e) (r.read c (omega arith) e) (marked c p x w).0 g.1
        (subst (λ (i : ℕ). v.server.store.commit_number c i (cache_now v c).number ≡ None) (sym e) (unapplied_number o v c b n))

    numbered : (c : ℕ) → IsCurrent v c → IsApplied v c → v.server.store.commit_number c (v.server.session c).current (cache_now v c).number ≢ None
    numbered c e a = subst (λ (i : ℕ). v.server.store.commit_number c i (cache_now v c).number ≢ None) (sym e) (applied_number o v c b a)

    last : (c p : ℕ) → (cache_now v c).wrote p ≡ true → (x : Bytes) × HasWritten v c p x
    last c p e = go (last_written (cache_now v c).operations p) refl
      where
        goes : (cache_now v c).status ≢ Idle
        goes = (good c (writer_current 0 v c p r (omega arith) e)).calm p e

        go : (q : Option Bytes) → last_written (cache_now v c).operations p ≡ q → (x : Bytes) × HasWritten v c p x
        go None f = absurd ((r.marks c (omega arith)).marked p e f)
        go (Some x) f = (x, record { goes_on = goes; last = subst (λ (os : List Operation). last_written os p ≡ Some x) (sym (r.operations c (omega arith) goes)) f })

-- what is reached, with what its clients have
reached_present : (L : Limits) (cycle : DeadlockTest) (o : Opening) (v : World) → SoundOpening o → ReachedWorld L cycle o v → Books o v.server × Present 0 v
reached_present L cycle o v sound reached =
    let P : Machine → Type 0 = λ w. AllRead w × AllMarks w in
    let a : ImageOfSome L o P v = image_of_reached L cycle o P (λ w e h may q. (read_kept w e h may q.0, marks_kept w e h may q.1)) (read_at_start L o, marks_at_start L o) v sound reached in
    (a.1.books, present L _ v a.0 a.1 a.2.0 a.2.1)

pub pages_written : Always (λ o v. WrittenPages v)
pages_written L cycle o v sound reached = let a = reached_present L cycle o v sound reached in written_pages o v (headline L cycle o v sound reached) a.0 a.1

-- a Commit on its way keeps its pages to its incarnation
pub writes_on_their_way : Always (λ o v. WritesOnTheirWay v)
writes_on_their_way L cycle o v sound reached name ws i on p x e d g held =
    let y = headline L cycle o v sound reached in
    let a = reached_present L cycle o v sound reached in
    let h : v.server.store.holder p ≡ Some name.client = (commits_find_their_rows L cycle o v sound reached name ws i on).permission p x e in
    let same : d ≡ name.client = y.directory.sole p name.client d g h (y.backed.row d p g held) in
    (same, sym (holder_current 0 v d p g a.1 (omega arith) held) ∙ (subst (λ (c : ℕ). (v.server.session c).current ≡ name.incarnation) (sym same) on.current))

-- The directory rule and the ledger, whatever messages come.
use Rattle.std.proofs.Common.{List, None, Option, Some, [], ap, arith, inl, inr, refl, subst, sym, ℕ, ◌+◌, ◌<◌, ◌∙◌, ◌∷◌, ◌≡◌, ◌≤◌, ◌⊎◌}
use Rattle.std.specs.Prelude.{⊤}
use Rattle.cb_protocol.proofs.Machine.{ServerMayChange, ServerMaySend}
use Rattle.cb_protocol.proofs.ServerOrder.{ServerStepMay, ServerStepsMay, Fresh, Orderly, StepsRight, orderly_start}
use Rattle.cb_protocol.proofs.ServerTakes.{right_again, right_flushes, right_server_take}
use Rattle.cb_protocol.proofs.SettlingRight.{clients_served}
use Rattle.cb_protocol.specs.AnyMessages.{MessageComes, ComesFromClient, RulesAlwaysHold, Input, IsCommit, Numbered, ReachesDisk, SendsAgain, committed_names, input_steps, version_after, bytes_after, AfterInput, Opened, ReachedBy}
use Rattle.cb_protocol.specs.Basics.{IsIn, Limits, update}
use Rattle.cb_protocol.specs.Messages.{Body, Done, Message, PageWrite, write_of_page}
use Rattle.cb_protocol.specs.Serial.{TransactionName, EachOnce}
use Rattle.cb_protocol.specs.Server.{DeadlockTest, AppliedCommit, MarkCalledBack, ServerStep, Doom, EnterQueue, SetFlushed, LeaveQueue, MarkInUse, ForgetTransaction, Server, Send, MarkDowngradeSent, ChangeSession, RemoveAsk, UnmarkInUse, new_server, server_after, after_server_step}
use Rattle.cb_protocol.specs.Session.{Admit, ApplyCommit, DropTransaction, GrantRow, BeginTransaction, PermitWrite, RemoveRow, Session, SessionChange, Store, EndPermission, new_bytes, new_version, set_commit_number, session_after, store_after}
use Rattle.cb_protocol.specs.World.{Opening, messages_sent, opening_store}

-- with what is needed to keep them
pub record Books (o : Opening) (s : Server) : Type 0 where
  pub numbered : Numbered o.number s.commits s.store.last_commit
  pub bytes : (p : ℕ) → s.store.bytes p ≡ bytes_after o.bytes s.commits p
  pub version : (p : ℕ) → s.store.version p ≡ version_after o.version s.commits p
  pub once : EachOnce (committed_names s.commits)
  pub ended_by : (c : ℕ) → (s.session c).ended ≤ (s.session c).txn
  pub over : (c x n : ℕ) → s.store.commit_number c (s.session c).current x ≡ Some n → x ≤ (s.session c).ended
  pub past : (c j x n : ℕ) → s.store.commit_number c j x ≡ Some n → j ≤ (s.session c).current
  pub listed : (x : AppliedCommit) → IsIn x s.commits → s.store.commit_number x.client x.incarnation x.txn ≡ Some x.number
  pub known : (c j x n : ℕ) → s.store.commit_number c j x ≡ Some n → IsCommit s.commits c j x n
  pub below : (c p g : ℕ) → (s.session c).row p ≡ Some g → g < s.next_grant
  pub distinct : (c d p q g : ℕ) → (s.session c).row p ≡ Some g → (s.session d).row q ≡ Some g → (c ≡ d) × (p ≡ q)

books_admit : (o : Opening) (s : Server) (c i : ℕ) → Books o s → (s.session c).current < i → Books o (after_server_step s (ChangeSession c (Admit i)))
books_admit o s c i b l = record {
  numbered = b.numbered;
  bytes = b.bytes;
  version = b.version;
  once = b.once;
  listed = b.listed;
  known = b.known;
  ended_by = λ d. grind (arith, b.ended_by d);
  over = λ d x n. grind (arith, b.over d x n, b.past d i x n);
  past = λ d j x n. grind (arith, b.past d j x n);
  below = λ d p g. grind (arith, b.below d p g);
  distinct = λ d e p q g. grind (arith, b.distinct d e p q g);
}

books_meet : (o : Opening) (s : Server) (c x : ℕ) → Books o s → (s.session c).txn < x → Books o (after_server_step s (ChangeSession c (BeginTransaction x)))
books_meet o s c x b l = record {
  numbered = b.numbered;
  bytes = b.bytes;
  version = b.version;
  once = b.once;
  listed = b.listed;
  known = b.known;
  ended_by = λ d. grind (arith, b.ended_by d);
  over = λ d y n. grind (arith, b.over d y n, b.ended_by d);
  past = λ d j y n. grind (arith, b.past d j y n);
  below = λ d p g. grind (arith, b.below d p g);
  distinct = λ d e p q g. grind (arith, b.distinct d e p q g);
}

books_end : (o : Opening) (s : Server) (c x : ℕ) → Books o s → (s.session c).txn ≡ x → (s.session c).ended < x → Books o (after_server_step s (ChangeSession c (DropTransaction x)))
books_end o s c x b e l = record {
  numbered = b.numbered;
  bytes = b.bytes;
  version = b.version;
  once = b.once;
  listed = b.listed;
  known = b.known;
  ended_by = λ d. grind (arith, b.ended_by d);
  over = λ d y n. grind (arith, b.over d y n);
  past = λ d j y n. grind (arith, b.past d j y n);
  below = λ d p g. grind (arith, b.below d p g);
  distinct = λ d e p q g. grind (arith, b.distinct d e p q g);
}

put_same : {A : Type 0} (f : ℕ → A) (k : ℕ) (v : A) → update f k v k ≡ v
put_same f k v = grind arith

-- a new row has a number that no other has
row_case : (s : Server) (c p g d q h : ℕ) → ((update s.session c (session_after (s.session c) (GrantRow p g)) d).row q ≡ Some h) → (((d ≡ c) × (q ≡ p) × (h ≡ g)) ⊎ ((s.session d).row q ≡ Some h))
row_case s c p g d q h e = grind arith

books_grant : (o : Opening) (s : Server) (c p g : ℕ) → Books o s → g ≡ s.next_grant → Books o (after_server_step s (ChangeSession c (GrantRow p g)))
books_grant o s c p g b n = record {
  numbered = b.numbered;
  bytes = b.bytes;
  version = b.version;
  once = b.once;
  listed = b.listed;
  known = b.known;
  ended_by = λ d. grind (arith, b.ended_by d);
  over = λ d y m. grind (arith, b.over d y m);
  past = λ d j y m. grind (arith, b.past d j y m);
  below = λ d q h e. elim (row_case s c p g d q h e) [ inl z ↦ (let x = z.2 in omega arith) | inr z ↦ (let x = b.below d q h z in omega arith) ];
  distinct = λ d e q r h x y. elim (row_case s c p g d q h x) [
    | inl u ↦ elim (row_case s c p g e r h y) [ inl v ↦ (u.0 ∙ sym v.0, u.1 ∙ sym v.1) | inr v ↦ (let z = b.below e r h v in let w = u.2 in absurd (omega arith)) ]
    | inr u ↦ elim (row_case s c p g e r h y) [ inl v ↦ (let z = b.below d q h u in let w = v.2 in absurd (omega arith)) | inr v ↦ b.distinct d e q r h u v ]
  ];
}

books_permit : (o : Opening) (s : Server) (c p g : ℕ) → Books o s → Books o (after_server_step s (ChangeSession c (PermitWrite p g)))
books_permit o s c p g b = record {
  numbered = b.numbered;
  bytes = b.bytes;
  version = b.version;
  once = b.once;
  listed = b.listed;
  known = b.known;
  ended_by = λ d. grind (arith, b.ended_by d);
  over = λ d y m. grind (arith, b.over d y m);
  past = λ d j y m. grind (arith, b.past d j y m);
  below = λ d q h. grind (arith, b.below d q h);
  distinct = λ d e q r h. grind (arith, b.distinct d e q r h);
}

books_row_gone : (o : Opening) (s : Server) (c p g : ℕ) → Books o s → Books o (after_server_step s (ChangeSession c (RemoveRow p g)))
books_row_gone o s c p g b = record {
  numbered = b.numbered;
  bytes = b.bytes;
  version = b.version;
  once = b.once;
  listed = b.listed;
  known = b.known;
  ended_by = λ d. grind (arith, b.ended_by d);
  over = λ d y m. grind (arith, b.over d y m);
  past = λ d j y m. grind (arith, b.past d j y m);
  below = λ d q h. grind (arith, b.below d q h);
  distinct = λ d e q r h. grind (arith, b.distinct d e q r h);
}

books_take_down : (o : Opening) (s : Server) (c p g x : ℕ) → Books o s → Books o (after_server_step s (ChangeSession c (EndPermission p g x)))
books_take_down o s c p g x b = record {
  numbered = b.numbered;
  bytes = b.bytes;
  version = b.version;
  once = b.once;
  listed = b.listed;
  known = b.known;
  ended_by = λ d. grind (arith, b.ended_by d);
  over = λ d y m. grind (arith, b.over d y m);
  past = λ d j y m. grind (arith, b.past d j y m);
  below = λ d q h. grind (arith, b.below d q h);
  distinct = λ d e q r h. grind (arith, b.distinct d e q r h);
}

-- a commit that is not made is not in the list
not_listed : (xs : List AppliedCommit) (made : ℕ → ℕ → ℕ → Option ℕ) (c i x : ℕ) → ((y : AppliedCommit) → IsIn y xs → made y.client y.incarnation y.txn ≡ Some y.number) → made c i x ≡ None → IsIn (record { client = c; incarnation = i; txn = x }) (committed_names xs) → ⊥
not_listed [] made c i x f n j = absurd j
not_listed (y ∷ xs) made c i x f n j = elim j [
  | inl q ↦ (let a : made c i x ≡ Some y.number = subst (λ (z : TransactionName). made z.client z.incarnation z.txn ≡ Some y.number) q (f y (inl refl)) in let z : None ≡ Some y.number = sym n ∙ a in absurd cc)
  | inr k ↦ not_listed xs made c i x (λ z l. f z (inr l)) n k
]

unmade : (o : Opening) (s : Server) (c x : ℕ) → Books o s → (s.session c).ended < x → s.store.commit_number c (s.session c).current x ≡ None
unmade o s c x b l = go (s.store.commit_number c (s.session c).current x) refl
  where
    go : (r : Option ℕ) → s.store.commit_number c (s.session c).current x ≡ r → r ≡ None
    go None e = refl
    go (Some n) e = let z = b.over c x n e in absurd (omega arith)

made_there : (f : ℕ → ℕ → ℕ → Option ℕ) (c i x n : ℕ) → set_commit_number f c i x n c i x ≡ Some n
made_there f c i x n = grind arith

made_other : (f : ℕ → ℕ → ℕ → Option ℕ) (c i x n d j y m : ℕ) → f c i x ≡ None → f d j y ≡ Some m → set_commit_number f c i x n d j y ≡ Some m
made_other f c i x n d j y m e g = grind arith

made_case : (f : ℕ → ℕ → ℕ → Option ℕ) (c i x n d j y m : ℕ) → set_commit_number f c i x n d j y ≡ Some m → ((d ≡ c) × (j ≡ i) × (y ≡ x) × (m ≡ n)) ⊎ (f d j y ≡ Some m)
made_case f c i x n d j y m e = grind arith

books_apply : (o : Opening) (s : Server) (c x : ℕ) (ws : List PageWrite) → Books o s → (s.session c).txn ≡ x → (s.session c).ended < x → Books o (after_server_step s (ChangeSession c (ApplyCommit x ws)))
books_apply o s c x ws b e l = record {
  numbered = (refl, (s.store.last_commit, refl, b.numbered));
  bytes = λ p. ap (new_bytes (write_of_page ws p)) (b.bytes p);
  version = λ p. ap (new_version (write_of_page ws p) (s.store.last_commit + 1)) (b.version p);
  once = (not_listed s.commits s.store.commit_number c (s.session c).current x b.listed none, b.once);
  listed = λ y. elim [
    | inl q ↦ subst (λ (z : AppliedCommit). set_commit_number s.store.commit_number c (s.session c).current x (s.store.last_commit + 1) z.client z.incarnation z.txn ≡ Some z.number) q (made_there s.store.commit_number c (s.session c).current x (s.store.last_commit + 1))
    | inr j ↦ made_other s.store.commit_number c (s.session c).current x (s.store.last_commit + 1) y.client y.incarnation y.txn y.number none (b.listed y j)
  ];
  known = λ d j y m f. elim (made_case s.store.commit_number c (s.session c).current x (s.store.last_commit + 1) d j y m f) [
    | inl q ↦ (record { client = c; incarnation = (s.session c).current; txn = x; number = s.store.last_commit + 1; writes = ws }, inl refl, sym q.0, sym q.1, sym q.2, sym q.3)
    | inr q ↦ (let z = b.known d j y m q in (z.0, inr z.1, z.2, z.3, z.4, z.5))
  ];
  ended_by = λ d. grind (arith, b.ended_by d);
  over = λ d y m. grind (arith, b.over d y m);
  past = λ d j y m. grind (arith, b.past d j y m);
  below = λ d q h. grind (arith, b.below d q h);
  distinct = λ d f q r h. grind (arith, b.distinct d f q r h);
}
  where
    none : s.store.commit_number c (s.session c).current x ≡ None
    none = unmade o s c x b l

books_turn : (o : Opening) (Came : ℕ → Body → Type 0) (s : Server) (c : ℕ) (m : SessionChange) → Books o s → ServerMayChange Came s.store s.session c m → Fresh s m → Books o (after_server_step s (ChangeSession c m))
books_turn o Came s c (Admit i) b a f = books_admit o s c i b a.1
books_turn o Came s c (BeginTransaction x) b a f = books_meet o s c x b a.1
books_turn o Came s c (DropTransaction x) b a f = books_end o s c x b a.1 a.2
books_turn o Came s c (GrantRow p g) b a f = books_grant o s c p g b f
books_turn o Came s c (PermitWrite p g) b a f = books_permit o s c p g b
books_turn o Came s c (RemoveRow p g) b a f = books_row_gone o s c p g b
books_turn o Came s c (EndPermission p g x) b a f = books_take_down o s c p g x b
books_turn o Came s c (ApplyCommit x ws) b a f = books_apply o s c x ws b a.1 a.2

books_other : (o : Opening) (s t : Server) → Books o s → t.store ≡ s.store → t.session ≡ s.session → t.commits ≡ s.commits → t.next_grant ≡ s.next_grant → Books o t
books_other o s t b e f g h = record {
  numbered = subst (λ (x : List AppliedCommit). Numbered o.number x t.store.last_commit) (sym g) (subst (λ (x : Store). Numbered o.number s.commits x.last_commit) (sym e) b.numbered);
  bytes = λ p. ap (λ (x : Store). x.bytes p) e ∙ (b.bytes p ∙ ap (λ (x : List AppliedCommit). bytes_after o.bytes x p) (sym g));
  version = λ p. ap (λ (x : Store). x.version p) e ∙ (b.version p ∙ ap (λ (x : List AppliedCommit). version_after o.version x p) (sym g));
  once = subst (λ (x : List AppliedCommit). EachOnce (committed_names x)) (sym g) b.once;
  ended_by = subst (λ (x : ℕ → Session). (c : ℕ) → (x c).ended ≤ (x c).txn) (sym f) b.ended_by;
  over = subst (λ (x : ℕ → Session). (c y n : ℕ) → t.store.commit_number c (x c).current y ≡ Some n → y ≤ (x c).ended) (sym f) (subst (λ (x : Store). (c y n : ℕ) → x.commit_number c (s.session c).current y ≡ Some n → y ≤ (s.session c).ended) (sym e) b.over);
  past = subst (λ (x : ℕ → Session). (c j y n : ℕ) → t.store.commit_number c j y ≡ Some n → j ≤ (x c).current) (sym f) (subst (λ (x : Store). (c j y n : ℕ) → x.commit_number c j y ≡ Some n → j ≤ (s.session c).current) (sym e) b.past);
  listed = subst (λ (x : List AppliedCommit). (y : AppliedCommit) → IsIn y x → t.store.commit_number y.client y.incarnation y.txn ≡ Some y.number) (sym g) (subst (λ (x : Store). (y : AppliedCommit) → IsIn y s.commits → x.commit_number y.client y.incarnation y.txn ≡ Some y.number) (sym e) b.listed);
  known = subst (λ (x : List AppliedCommit). (c j y n : ℕ) → t.store.commit_number c j y ≡ Some n → IsCommit x c j y n) (sym g) (subst (λ (x : Store). (c j y n : ℕ) → x.commit_number c j y ≡ Some n → IsCommit s.commits c j y n) (sym e) b.known);
  below = subst (λ (x : ℕ → Session). (c p y : ℕ) → (x c).row p ≡ Some y → y < t.next_grant) (sym f) (subst (λ (x : ℕ). (c p y : ℕ) → (s.session c).row p ≡ Some y → y < x) (sym h) b.below);
  distinct = subst (λ (x : ℕ → Session). (c d p q y : ℕ) → (x c).row p ≡ Some y → (x d).row q ≡ Some y → (c ≡ d) × (p ≡ q)) (sym f) b.distinct;
}

-- every list of steps keeps them
pub books_all : (o : Opening) (Came : ℕ → ℕ → Body → Type 0) (s : Server) (ds : List ServerStep) → Books o s → ServerStepsMay Came s ds → Books o (server_after s ds)
books_all o Came s [] b a = b
books_all o Came s (ChangeSession c m ∷ ds) b a = books_all o Came (after_server_step s (ChangeSession c m)) ds (books_turn o (Came c) s c m b a.0.0 a.0.1) a.1
books_all o Came s (Send c i y ∷ ds) b a = books_all o Came s ds b a.1
books_all o Came s (EnterQueue p w ∷ ds) b a = books_all o Came (after_server_step s (EnterQueue p w)) ds (books_other o s (after_server_step s (EnterQueue p w)) b refl refl refl refl) a.1
books_all o Came s (LeaveQueue p ∷ ds) b a = books_all o Came (after_server_step s (LeaveQueue p)) ds (books_other o s (after_server_step s (LeaveQueue p)) b refl refl refl refl) a.1
books_all o Came s (MarkCalledBack p ∷ ds) b a = books_all o Came (after_server_step s (MarkCalledBack p)) ds (books_other o s (after_server_step s (MarkCalledBack p)) b refl refl refl refl) a.1
books_all o Came s (MarkDowngradeSent p t ∷ ds) b a = books_all o Came (after_server_step s (MarkDowngradeSent p t)) ds (books_other o s (after_server_step s (MarkDowngradeSent p t)) b refl refl refl refl) a.1
books_all o Came s (MarkInUse c p ∷ ds) b a = books_all o Came (after_server_step s (MarkInUse c p)) ds (books_other o s (after_server_step s (MarkInUse c p)) b refl refl refl refl) a.1
books_all o Came s (UnmarkInUse c p ∷ ds) b a = books_all o Came (after_server_step s (UnmarkInUse c p)) ds (books_other o s (after_server_step s (UnmarkInUse c p)) b refl refl refl refl) a.1
books_all o Came s (RemoveAsk c ∷ ds) b a = books_all o Came (after_server_step s (RemoveAsk c)) ds (books_other o s (after_server_step s (RemoveAsk c)) b refl refl refl refl) a.1
books_all o Came s (Doom c ∷ ds) b a = books_all o Came (after_server_step s (Doom c)) ds (books_other o s (after_server_step s (Doom c)) b refl refl refl refl) a.1
books_all o Came s (ForgetTransaction c ∷ ds) b a = books_all o Came (after_server_step s (ForgetTransaction c)) ds (books_other o s (after_server_step s (ForgetTransaction c)) b refl refl refl refl) a.1
books_all o Came s (SetFlushed n ∷ ds) b a = books_all o Came (after_server_step s (SetFlushed n)) ds (books_other o s (after_server_step s (SetFlushed n)) b refl refl refl refl) a.1

pub books_start : (L : Limits) (o : Opening) → Books o (new_server L.clients L.pages (opening_store L o))
books_start L o = record {
  numbered = refl;
  bytes = λ p. refl;
  version = λ p. refl;
  once = tt;
  ended_by = λ c. omega arith;
  over = λ c y n e. absurd cc;
  past = λ c j y n e. absurd cc;
  listed = λ x i. absurd i;
  known = λ c j x n e. absurd cc;
  below = λ c p g e. absurd cc;
  distinct = λ c d p q g e f. absurd cc;
}

-- a transaction that committed stays so
pub made_stays : (o : Opening) (Came : ℕ → ℕ → Body → Type 0) (s : Server) (ds : List ServerStep) (c i x n : ℕ) → Books o s → ServerStepsMay Came s ds → s.store.commit_number c i x ≡ Some n → (server_after s ds).store.commit_number c i x ≡ Some n
made_stays o Came s [] c i x n b a e = e
made_stays o Came s (d ∷ ds) c i x n b a e = made_stays o Came (after_server_step s d) ds c i x n (books_all o Came s (d ∷ []) b (a.0, tt)) a.1 (one d a.0)
  where
    turn : (k : ℕ) (m : SessionChange) → ServerMayChange (Came k) s.store s.session k m → (store_after s.store k (s.session k) m).commit_number c i x ≡ Some n
    turn k (Admit j) a = e
    turn k (BeginTransaction y) a = e
    turn k (DropTransaction y) a = e
    turn k (GrantRow p g) a = e
    turn k (PermitWrite p g) a = e
    turn k (RemoveRow p g) a = e
    turn k (EndPermission p g y) a = e
    turn k (ApplyCommit y ws) a = made_other s.store.commit_number k (s.session k).current y (s.store.last_commit + 1) c i x n (unmade o s k y b a.2) e

    one : (d : ServerStep) → ServerStepMay Came s d → (after_server_step s d).store.commit_number c i x ≡ Some n
    one (ChangeSession k m) a = turn k m a.0
    one (Send k j y) a = e
    one (EnterQueue p w) a = e
    one (LeaveQueue p) a = e
    one (MarkCalledBack p) a = e
    one (MarkDowngradeSent p t) a = e
    one (MarkInUse k p) a = e
    one (UnmarkInUse k p) a = e
    one (RemoveAsk k) a = e
    one (Doom k) a = e
    one (ForgetTransaction k) a = e
    one (SetFlushed m) a = e

-- a Done that is told is of a commit
pub told_done : (o : Opening) (Came : ℕ → ℕ → Body → Type 0) (s : Server) (ds : List ServerStep) (c i t n : ℕ) → Books o s → ServerStepsMay Came s ds → IsIn (record { client = c; incarnation = i; body = Done t n }) (messages_sent ds) → (server_after s ds).store.commit_number c i t ≡ Some n
told_done o Came s [] c i t n b a j = absurd j
told_done o Came s (ChangeSession k m ∷ ds) c i t n b a j = told_done o Came (after_server_step s (ChangeSession k m)) ds c i t n (books_turn o (Came k) s k m b a.0.0 a.0.1) a.1 j
told_done o Came s (Send k l y ∷ ds) c i t n b a j = elim j [
  | inl q ↦ made_stays o Came s ds c i t n b a.1 (subst (λ (f : Message). ServerMaySend s.store f.client (s.session f.client) f.incarnation f.body) q a.0.1)
  | inr z ↦ told_done o Came s ds c i t n b a.1 z
]
told_done o Came s (EnterQueue p w ∷ ds) c i t n b a j = told_done o Came (after_server_step s (EnterQueue p w)) ds c i t n (books_other o s (after_server_step s (EnterQueue p w)) b refl refl refl refl) a.1 j
told_done o Came s (LeaveQueue p ∷ ds) c i t n b a j = told_done o Came (after_server_step s (LeaveQueue p)) ds c i t n (books_other o s (after_server_step s (LeaveQueue p)) b refl refl refl refl) a.1 j
told_done o Came s (MarkCalledBack p ∷ ds) c i t n b a j = told_done o Came (after_server_step s (MarkCalledBack p)) ds c i t n (books_other o s (after_server_step s (MarkCalledBack p)) b refl refl refl refl) a.1 j
told_done o Came s (MarkDowngradeSent p x ∷ ds) c i t n b a j = told_done o Came (after_server_step s (MarkDowngradeSent p x)) ds c i t n (books_other o s (after_server_step s (MarkDowngradeSent p x)) b refl refl refl refl) a.1 j
told_done o Came s (MarkInUse k p ∷ ds) c i t n b a j = told_done o Came (after_server_step s (MarkInUse k p)) ds c i t n (books_other o s (after_server_step s (MarkInUse k p)) b refl refl refl refl) a.1 j
told_done o Came s (UnmarkInUse k p ∷ ds) c i t n b a j = told_done o Came (after_server_step s (UnmarkInUse k p)) ds c i t n (books_other o s (after_server_step s (UnmarkInUse k p)) b refl refl refl refl) a.1 j
told_done o Came s (RemoveAsk k ∷ ds) c i t n b a j = told_done o Came (after_server_step s (RemoveAsk k)) ds c i t n (books_other o s (after_server_step s (RemoveAsk k)) b refl refl refl refl) a.1 j
told_done o Came s (Doom k ∷ ds) c i t n b a j = told_done o Came (after_server_step s (Doom k)) ds c i t n (books_other o s (after_server_step s (Doom k)) b refl refl refl refl) a.1 j
told_done o Came s (ForgetTransaction k ∷ ds) c i t n b a j = told_done o Came (after_server_step s (ForgetTransaction k)) ds c i t n (books_other o s (after_server_step s (ForgetTransaction k)) b refl refl refl refl) a.1 j
told_done o Came s (SetFlushed m ∷ ds) c i t n b a j = told_done o Came (after_server_step s (SetFlushed m)) ds c i t n (books_other o s (after_server_step s (SetFlushed m)) b refl refl refl refl) a.1 j

-- whatever messages come
abbrev All_come : ℕ → ℕ → Body → Type 0
All_come c i b = ⊤

right_fed : (L : Limits) (cycle : DeadlockTest) (s : Server) (i : Input) → Orderly All_come s → s.clients ≡ L.clients → ComesFromClient L s i → StepsRight All_come s (input_steps cycle s i)
right_fed L cycle s (MessageComes c i b) o e f = right_server_take All_come cycle s c i b o (rw e f) tt
right_fed L cycle s SendsAgain o e f = right_again All_come s o
right_fed L cycle s (ReachesDisk n) o e f = right_flushes All_come s n o

books_keep : (L : Limits) (cycle : DeadlockTest) (o : Opening) (s : Server) → ReachedBy L cycle o (ComesFromClient L) s → Orderly All_come s × (Books o s × (s.clients ≡ L.clients))
books_keep L cycle o s Opened = (orderly_start All_come L o, (books_start L o, refl))
books_keep L cycle o s (AfterInput {server = k} r i f) =
    let h = books_keep L cycle o k r in
    let t = right_fed L cycle k i h.0 h.1.1 f in
    (t.1, (books_all o All_come k (input_steps cycle k i) h.1.0 t.0, clients_served k (input_steps cycle k i) ∙ h.1.1))

pub holds_always : (L : Limits) (cycle : DeadlockTest) → RulesAlwaysHold L cycle
holds_always L cycle o s r = let k = books_keep L cycle o s r in let h = k.0 in let b = k.1.0 in
    (record { sole = λ p c d g x y. sym (h.sole p d g c y x); distinct = b.distinct }, record { numbered = b.numbered; bytes = b.bytes; version = b.version; once = b.once })

-- What holds of rows and of the copies sent for them, at each step of the server.
use Rattle.std.proofs.Common.{List, None, Option, Some, [], ap, arith, inl, inr, refl, subst, sym, ℕ, ◌+◌, ◌<◌, ◌∙◌, ◌∷◌, ◌≡◌, ◌≢◌, ◌≤◌, ◌⊎◌}
use Rattle.cb_laws.specs.RowVersions.{HasRow, IsAsStored, WroteByGrant, WroteSince}
use Rattle.cb_protocol.proofs.Machine.{ServerMayChange, ServerMaySend}
use Rattle.cb_protocol.proofs.ServerOrder.{Fresh, ServerStepsMay}
use Rattle.cb_protocol.specs.Basics.{Bytes, IsIn, update}
use Rattle.cb_protocol.specs.Messages.{Body, Granted, Message, PageWrite, write_of_page}
use Rattle.cb_protocol.specs.Server.{AppliedCommit, ChangeSession, Doom, EnterQueue, ForgetTransaction, LeaveQueue, MarkCalledBack, MarkDowngradeSent, MarkInUse, RemoveAsk, Send, Server, ServerStep, SetFlushed, UnmarkInUse, after_server_step, server_after}
use Rattle.cb_protocol.specs.Session.{Admit, ApplyCommit, BeginTransaction, DropTransaction, EndPermission, GrantRow, PermitWrite, RemoveRow, Session, SessionChange, Store, session_after}
use Rattle.cb_protocol.specs.World.{messages_sent}

-- a Granted that was sent; Was: what was
abbrev pub Given : (Message → Type 0) → (c i p g v : ℕ) → Bytes → Type 0
Given Was c i p g v b = Was (record { client = c; incarnation = i; body = Granted p g v b })

-- a copy of a row is as stored, or was written since
abbrev pub Right : Server → (c i p g v : ℕ) → Bytes → Type 0
Right s c i p g v b = (i ≡ (s.session c).current) × (IsAsStored s p v b ⊎ WroteSince s c p g v)

pub record RowFacts (Was : Message → Type 0) (s : Server) : Type 0 where
  pub sole : (p d g c : ℕ) → HasRow s d p g → s.store.holder p ≡ Some c → c ≡ d
  pub below : (c p g : ℕ) → HasRow s c p g → g < s.next_grant
  pub versions : (p : ℕ) → s.store.version p ≤ s.store.last_commit
  pub sent_below : (c i p g v : ℕ) (b : Bytes) → Given Was c i p g v b → g < s.next_grant
  pub right : (c i p g v : ℕ) (b : Bytes) → Given Was c i p g v b → HasRow s c p g → Right s c i p g v b

pub weaker : (Was Fewer : Message → Type 0) (s : Server) → ((f : Message) → Fewer f → Was f) → RowFacts Was s → RowFacts Fewer s
weaker Was Fewer s f r = record {
  sole = r.sole;
  below = r.below;
  versions = r.versions;
  sent_below = λ c i p g v b m. r.sent_below c i p g v b (f _ m);
  right = λ c i p g v b m. r.right c i p g v b (f _ m);
}

-- a client's session changes
admitted : (Was : Message → Type 0) (s : Server) (c i : ℕ) → RowFacts Was s → RowFacts Was (after_server_step s (ChangeSession c (Admit i)))
admitted Was s c i r = record {
  sole = λ p d g k. grind (arith, r.sole p d g k);
  below = λ d p g. grind (arith, r.below d p g);
  versions = r.versions;
  sent_below = r.sent_below;
  right = λ d j p g v b m. grind (arith, r.right d j p g v b m);
}

begun : (Was : Message → Type 0) (s : Server) (c x : ℕ) → RowFacts Was s → RowFacts Was (after_server_step s (ChangeSession c (BeginTransaction x)))
begun Was s c x r = record {
  sole = λ p d g k. grind (arith, r.sole p d g k);
  below = λ d p g. grind (arith, r.below d p g);
  versions = r.versions;
  sent_below = r.sent_below;
  right = λ d j p g v b m. grind (arith, r.right d j p g v b m);
}

dropped : (Was : Message → Type 0) (s : Server) (c x : ℕ) → RowFacts Was s → RowFacts Was (after_server_step s (ChangeSession c (DropTransaction x)))
dropped Was s c x r = record {
  sole = λ p d g k. grind (arith, r.sole p d g k);
  below = λ d p g. grind (arith, r.below d p g);
  versions = r.versions;
  sent_below = r.sent_below;
  right = λ d j p g v b m. grind (arith, r.right d j p g v b m);
}

permitted : (Was : Message → Type 0) (s : Server) (c p g : ℕ) → RowFacts Was s → ((d : ℕ) → d ≢ c → (s.session d).row p ≡ None) → RowFacts Was (after_server_step s (ChangeSession c (PermitWrite p g)))
permitted Was s c p g r a = record {
  sole = λ q d h k. grind (arith, r.sole q d h k, a d);
  below = λ d q h. grind (arith, r.below d q h);
  versions = r.versions;
  sent_below = r.sent_below;
  right = λ d j q h v b m. grind (arith, r.right d j q h v b m);
}

removed : (Was : Message → Type 0) (s : Server) (c p g : ℕ) → RowFacts Was s → RowFacts Was (after_server_step s (ChangeSession c (RemoveRow p g)))
removed Was s c p g r = record {
  sole = λ q d h k. grind (arith, r.sole q d h k);
  below = λ d q h. grind (arith, r.below d q h);
  versions = r.versions;
  sent_below = r.sent_below;
  right = λ d j q h v b m. grind (arith, r.right d j q h v b m);
}

ended : (Was : Message → Type 0) (s : Server) (c p g x : ℕ) → RowFacts Was s → RowFacts Was (after_server_step s (ChangeSession c (EndPermission p g x)))
ended Was s c p g x r = record {
  sole = λ q d h k. grind (arith, r.sole q d h k);
  below = λ d q h. grind (arith, r.below d q h);
  versions = r.versions;
  sent_below = r.sent_below;
  right = λ d j q h v b m. grind (arith, r.right d j q h v b m);
}

-- a new row has a grant of which no copy was sent
row_case : (s : Server) (c p g d q h : ℕ) → ((update s.session c (session_after (s.session c) (GrantRow p g)) d).row q ≡ Some h) → (((d ≡ c) × (q ≡ p) × (h ≡ g)) ⊎ ((s.session d).row q ≡ Some h))
row_case s c p g d q h e = grind arith

same_current : (s : Server) (c p g d : ℕ) → (update s.session c (session_after (s.session c) (GrantRow p g)) d).current ≡ (s.session d).current
same_current s c p g d = grind arith

granted : (Was : Message → Type 0) (s : Server) (c p g : ℕ) → RowFacts Was s → ((d : ℕ) → s.store.holder p ≡ Some d → d ≡ c) → g ≡ s.next_grant → RowFacts Was (after_server_step s (ChangeSession c (GrantRow p g)))
granted Was s c p g r a n = record {
  sole = λ q d h k e f. elim (row_case s c p g d q h e) [ inl z ↦ (let w = a k (subst (λ (x : ℕ). s.store.holder x ≡ Some k) z.1 f) in w ∙ sym z.0) | inr z ↦ r.sole q d h k z f ];
  below = λ d q h e. elim (row_case s c p g d q h e) [ inl z ↦ (let x = z.2 in omega arith) | inr z ↦ (let x = r.below d q h z in omega arith) ];
  versions = r.versions;
  sent_below = λ d j q h v b m. let x = r.sent_below d j q h v b m in omega arith;
  right = λ d j q h v b m e. elim (row_case s c p g d q h e) [
    | inl z ↦ (let x = r.sent_below d j q h v b m in let y = z.2 in absurd (omega arith))
    | inr z ↦ subst (λ (i : ℕ). (j ≡ i) × (IsAsStored s q v b ⊎ ((v < s.store.version q) × WroteByGrant s.commits d i q h (s.store.version q)))) (sym (same_current s c p g d)) (r.right d j q h v b m z)
  ];
}

-- an applied commit's page is of its client's own row
apply_current : (s : Server) (c x d : ℕ) (ws : List PageWrite) → (update s.session c (session_after (s.session c) (ApplyCommit x ws)) d).current ≡ (s.session d).current
apply_current s c x d ws = grind arith

apply_row : (s : Server) (c x d p : ℕ) (ws : List PageWrite) → (update s.session c (session_after (s.session c) (ApplyCommit x ws)) d).row p ≡ (s.session d).row p
apply_row s c x d p ws = grind arith

-- what stays listed as a commit comes before
wrote_more : (xs : List AppliedCommit) (y : AppliedCommit) (c i p g n : ℕ) → WroteByGrant xs c i p g n → WroteByGrant (y ∷ xs) c i p g n
wrote_more xs y c i p g n w = record {
  commit = w.commit;
  listed = inr w.listed;
  by_client = w.by_client;
  by_incarnation = w.by_incarnation;
  numbered = w.numbered;
  write = w.write;
  writes = w.writes;
  by_grant = w.by_grant;
}

applied : (Was : Message → Type 0) (s : Server) (c x : ℕ) (ws : List PageWrite) → RowFacts Was s → ((p : ℕ) (w : PageWrite) → write_of_page ws p ≡ Some w → (s.store.holder p ≡ Some c) × HasRow s c p w.grant) → RowFacts Was (after_server_step s (ChangeSession c (ApplyCommit x ws)))
applied Was s c x ws r a = record {
  sole = λ p d g k. grind (arith, r.sole p d g k);
  below = λ d p g. grind (arith, r.below d p g);
  versions = λ p. grind (arith, r.versions p);
  sent_below = r.sent_below;
  right = λ d j p g v b m e. let row : HasRow s d p g = sym (apply_row s c x d p ws) ∙ e in
      subst (λ (i : ℕ). (j ≡ i) × (IsAsStored t p v b ⊎ ((v < t.store.version p) × WroteByGrant t.commits d i p g (t.store.version p)))) (sym (apply_current s c x d ws))
      (let k = r.right d j p g v b m row in (k.0, go d j p g v b row k.1 (write_of_page ws p) refl));
}
  where
    t : Server
    t = after_server_step s (ChangeSession c (ApplyCommit x ws))

    older : (d p g v : ℕ) (b : Bytes) → IsAsStored s p v b ⊎ WroteSince s d p g v → v ≤ s.store.version p
    older d p g v b k = elim k [ inl z ↦ (let y = z.0 in omega arith) | inr z ↦ (let y = z.0 in omega arith) ]

    go : (d j p g v : ℕ) (b : Bytes) → HasRow s d p g → IsAsStored s p v b ⊎ WroteSince s d p g v → (q : Option PageWrite) → write_of_page ws p ≡ q
        → IsAsStored t p v b ⊎ ((v < t.store.version p) × WroteByGrant t.commits d (s.session d).current p g (t.store.version p))
    go d j p g v b row k None f = rw f (elim k [
      | inl z ↦ inl z
      | inr z ↦ inr (z.0, wrote_more s.commits _ d (s.session d).current p g (s.store.version p) z.1)
    ])
    go d j p g v b row k (Some w) f =
        let h = a p w f in
        let same : c ≡ d = r.sole p d g c row h.0 in
        let l = older d p g v b k in
        let u = r.versions p in
        rw f (inr (
          omega arith,
          record {
            commit = record { client = c; incarnation = (s.session c).current; txn = x; number = s.store.last_commit + 1; writes = ws };
            listed = inl refl;
            by_client = same;
            by_incarnation = ap (λ (e : ℕ). (s.session e).current) same;
            numbered = refl;
            write = w;
            writes = f;
            by_grant = by_grant d p g w same h.1 row;
          },
        ))
      where
        by_grant : (d p g : ℕ) (w : PageWrite) → c ≡ d → HasRow s c p w.grant → HasRow s d p g → w.grant ≡ g
        by_grant d p g w e h k = grind arith

-- each change
changed : (Came : ℕ → Body → Type 0) (Was : Message → Type 0) (s : Server) (c : ℕ) (m : SessionChange) → RowFacts Was s → ServerMayChange Came s.store s.session c m → Fresh s m → RowFacts Was (after_server_step s (ChangeSession c m))
changed Came Was s c (Admit i) r a f = admitted Was s c i r
changed Came Was s c (BeginTransaction x) r a f = begun Was s c x r
changed Came Was s c (DropTransaction x) r a f = dropped Was s c x r
changed Came Was s c (GrantRow p g) r a f = granted Was s c p g r a.1 f
changed Came Was s c (PermitWrite p g) r a f = permitted Was s c p g r a.4
changed Came Was s c (RemoveRow p g) r a f = removed Was s c p g r
changed Came Was s c (EndPermission p g x) r a f = ended Was s c p g x r
changed Came Was s c (ApplyCommit x ws) r a f = applied Was s c x ws r a.3

-- what is sent is as the store has it then
given_right : (Was : Message → Type 0) (s : Server) (c i : ℕ) (y : Body) → RowFacts Was s → ServerMaySend s.store c (s.session c) i y → (p g v : ℕ) (b : Bytes) → y ≡ Granted p g v b → (g < s.next_grant) × Right s c i p g v b
given_right Was s c i y r a p g v b e = let z : ServerMaySend s.store c (s.session c) i (Granted p g v b) = subst (λ (x : Body). ServerMaySend s.store c (s.session c) i x) e a in
    (r.below c p g z.1, (z.0, inl (z.2, z.3)))

sends : (Was : Message → Type 0) (s : Server) (c i : ℕ) (y : Body) → RowFacts Was s → ServerMaySend s.store c (s.session c) i y → RowFacts (λ f. Was f ⊎ (record { client = c; incarnation = i; body = y } ≡ f)) s
sends Was s c i y r a = record {
  sole = r.sole;
  below = r.below;
  versions = r.versions;
  sent_below = λ d j p g v b m. elim m [
    | inl k ↦ r.sent_below d j p g v b k
    | inr e ↦ (given_right Was s c i y r a p g v b (ap (λ (f : Message). f.body) e)).0
  ];
  right = λ d j p g v b m row. elim m [
    | inl k ↦ r.right d j p g v b k row
    | inr e ↦ subst (λ (f : Message). Right s f.client f.incarnation p g v b) e (given_right Was s c i y r a p g v b (ap (λ (f : Message). f.body) e)).1
  ];
}

-- steps that change no session
other : (Was : Message → Type 0) (s t : Server) → t.store ≡ s.store → t.session ≡ s.session → t.commits ≡ s.commits → t.next_grant ≡ s.next_grant → RowFacts Was s → RowFacts Was t
other Was s t e f g h r = record {
  sole = subst (λ (x : Store). (p d g c : ℕ) → (t.session d).row p ≡ Some g → x.holder p ≡ Some c → c ≡ d) (sym e) (subst (λ (x : ℕ → Session). (p d g c : ℕ) → (x d).row p ≡ Some g → s.store.holder p ≡ Some c → c ≡ d) (sym f) r.sole);
  below = subst (λ (n : ℕ). (c p g : ℕ) → (t.session c).row p ≡ Some g → g < n) (sym h) (subst (λ (x : ℕ → Session). (c p g : ℕ) → (x c).row p ≡ Some g → g < s.next_grant) (sym f) r.below);
  versions = subst (λ (x : Store). (p : ℕ) → x.version p ≤ x.last_commit) (sym e) r.versions;
  sent_below = subst (λ (n : ℕ). (c i p g v : ℕ) (b : Bytes) → Given Was c i p g v b → g < n) (sym h) r.sent_below;
  right = subst (λ (x : Store). (c i p g v : ℕ) (b : Bytes) → Given Was c i p g v b → (t.session c).row p ≡ Some g → Same x t.session t.commits c i p g v b) (sym e)
      (subst (λ (x : ℕ → Session). (c i p g v : ℕ) (b : Bytes) → Given Was c i p g v b → (x c).row p ≡ Some g → Same s.store x t.commits c i p g v b) (sym f)
      (subst (λ (x : List AppliedCommit). (c i p g v : ℕ) (b : Bytes) → Given Was c i p g v b → (s.session c).row p ≡ Some g → Same s.store s.session x c i p g v b) (sym g) r.right));
}
  where
    Same : Store → (ℕ → Session) → List AppliedCommit → (c i p g v : ℕ) → Bytes → Type 0
    Same x y z c i p g v b = (i ≡ (y c).current) × (((v ≡ x.version p) × (b ≡ x.bytes p)) ⊎ ((v < x.version p) × WroteByGrant z c (y c).current p g (x.version p)))

-- all steps of a list, with what they send
pub facts_all : (Came : ℕ → ℕ → Body → Type 0) (Was : Message → Type 0) (s : Server) (ds : List ServerStep) → RowFacts Was s → ServerStepsMay Came s ds → RowFacts (λ f. Was f ⊎ IsIn f (messages_sent ds)) (server_after s ds)
facts_all Came Was s [] r a = weaker Was _ s (λ f i. elim i [ inl j ↦ j | inr j ↦ absurd j ]) r
facts_all Came Was s (ChangeSession c m ∷ ds) r a = facts_all Came Was (after_server_step s (ChangeSession c m)) ds (changed (Came c) Was s c m r a.0.0 a.0.1) a.1
facts_all Came Was s (Send c i y ∷ ds) r a =
    let here : Message = record { client = c; incarnation = i; body = y } in
    weaker (λ f. (Was f ⊎ (here ≡ f)) ⊎ IsIn f (messages_sent ds)) (λ f. Was f ⊎ IsIn f (messages_sent (Send c i y ∷ ds))) (server_after s ds)
    (λ f k. elim k [ inl j ↦ inl (inl j) | inr j ↦ elim j [ inl e ↦ inl (inr e) | inr l ↦ inr l ] ])
    (facts_all Came (λ f. Was f ⊎ (here ≡ f)) s ds (sends Was s c i y r a.0.1) a.1)
facts_all Came Was s (EnterQueue p w ∷ ds) r a = facts_all Came Was (after_server_step s (EnterQueue p w)) ds (other Was s (after_server_step s (EnterQueue p w)) refl refl refl refl r) a.1
facts_all Came Was s (LeaveQueue p ∷ ds) r a = facts_all Came Was (after_server_step s (LeaveQueue p)) ds (other Was s (after_server_step s (LeaveQueue p)) refl refl refl refl r) a.1
facts_all Came Was s (MarkCalledBack p ∷ ds) r a = facts_all Came Was (after_server_step s (MarkCalledBack p)) ds (other Was s (after_server_step s (MarkCalledBack p)) refl refl refl refl r) a.1
facts_all Came Was s (MarkDowngradeSent p t ∷ ds) r a = facts_all Came Was (after_server_step s (MarkDowngradeSent p t)) ds (other Was s (after_server_step s (MarkDowngradeSent p t)) refl refl refl refl r) a.1
facts_all Came Was s (MarkInUse c p ∷ ds) r a = facts_all Came Was (after_server_step s (MarkInUse c p)) ds (other Was s (after_server_step s (MarkInUse c p)) refl refl refl refl r) a.1
facts_all Came Was s (UnmarkInUse c p ∷ ds) r a = facts_all Came Was (after_server_step s (UnmarkInUse c p)) ds (other Was s (after_server_step s (UnmarkInUse c p)) refl refl refl refl r) a.1
facts_all Came Was s (RemoveAsk c ∷ ds) r a = facts_all Came Was (after_server_step s (RemoveAsk c)) ds (other Was s (after_server_step s (RemoveAsk c)) refl refl refl refl r) a.1
facts_all Came Was s (Doom c ∷ ds) r a = facts_all Came Was (after_server_step s (Doom c)) ds (other Was s (after_server_step s (Doom c)) refl refl refl refl r) a.1
facts_all Came Was s (ForgetTransaction c ∷ ds) r a = facts_all Came Was (after_server_step s (ForgetTransaction c)) ds (other Was s (after_server_step s (ForgetTransaction c)) refl refl refl refl r) a.1
facts_all Came Was s (SetFlushed n ∷ ds) r a = facts_all Came Was (after_server_step s (SetFlushed n)) ds (other Was s (after_server_step s (SetFlushed n)) refl refl refl refl r) a.1

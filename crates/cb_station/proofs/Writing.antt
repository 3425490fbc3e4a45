-- What holds of pages that clients wrote, by their rows' grants, goes along the server's steps.
use Rattle.std.proofs.Common.{◌≡◌, ◌≢◌, ◌<◌, ◌≤◌, ◌==◌, ℕ, true, List, [], ◌∷◌, Some, None}
use Rattle.std.proofs.Common.{refl, sym, ◌∙◌, ap, subst, arith, inl, inr, ◌⊎◌}
use Rattle.std.proofs.lemmas.Bool.{cases_eq}
use Rattle.cb_laws.specs.RowVersions.{HasRow, WroteByGrant}
use Rattle.cb_protocol.proofs.LivePermissions.{AnyMessage}
use Rattle.cb_protocol.proofs.Machine.{ServerMayChange}
use Rattle.cb_protocol.proofs.ServerOrder.{Fresh, Orderly, ServerStepsMay}
use Rattle.cb_protocol.proofs.ServerTakes.{right_flushes, right_server_take}
use Rattle.cb_protocol.specs.Basics.{IsIn, update}
use Rattle.cb_protocol.specs.Flush.{server_flush}
use Rattle.cb_protocol.specs.Messages.{AskWrite, Body, Commit, PageWrite, write_of_page}
use Rattle.cb_protocol.specs.Server.{AppliedCommit, ChangeSession, DeadlockTest, Doom, EnterQueue}
use Rattle.cb_protocol.specs.Server.{ForgetTransaction, LeaveQueue, MarkCalledBack}
use Rattle.cb_protocol.specs.Server.{MarkDowngradeSent, MarkInUse, RemoveAsk, Send, Server}
use Rattle.cb_protocol.specs.Server.{ServerStep, SetFlushed, UnmarkInUse, after_server_step}
use Rattle.cb_protocol.specs.Server.{server_after}
use Rattle.cb_protocol.specs.ServerMessages.{server_take}
use Rattle.cb_protocol.specs.Session.{Admit, ApplyCommit, BeginTransaction, DropTransaction}
use Rattle.cb_protocol.specs.Session.{EndPermission, GrantRow, PermitWrite, RemoveRow, Session}
use Rattle.cb_protocol.specs.Session.{SessionChange, session_after}

-- what may hold of a client's incarnation, a page and a grant
abbrev pub OfGrant : Type 1
OfGrant = (client incarnation page grant : ℕ) → Type 0

-- It holds of each row whose grant a commit of the current incarnation names.
pub record Written (P : OfGrant) (s : Server) : Type 0 where
  pub rows : (c p g : ℕ) → HasRow s c p g → g < s.next_grant
  pub writes : (x : AppliedCommit) → IsIn x s.commits → (p : ℕ) (w : PageWrite)
      → write_of_page x.writes p ≡ Some w → w.grant < s.next_grant
  pub held : (c p g n : ℕ) → HasRow s c p g
      → WroteByGrant s.commits c (s.session c).current p g n → P c (s.session c).current p g

-- what was written has a grant that was given
pub named : (P : OfGrant) (s : Server) (c i p g n : ℕ) → Written P s
    → WroteByGrant s.commits c i p g n → g < s.next_grant
named P s c i p g n r w =
    subst (λ (k : ℕ). k < s.next_grant) w.by_grant (r.writes w.commit w.listed p w.write w.writes)

-- a commit writes pages of which it holds
abbrev pub Commits : OfGrant → ℕ → ℕ → Body → Type 0
Commits P c i b = (x : ℕ) (ws : List PageWrite) → b ≡ Commit x ws → (p : ℕ) (w : PageWrite)
    → write_of_page ws p ≡ Some w → P c i p w.grant

-- a session becomes another, whose rows were there before or have new grants
module _ (P : OfGrant) (s t : Server) (c : ℕ) (x : Session)
    (session : t.session ≡ update s.session c x) (commits : t.commits ≡ s.commits)
    (more : s.next_grant ≤ t.next_grant)
    (from : (p g : ℕ) → x.row p ≡ Some g
    → (((s.session c).row p ≡ Some g) × (x.current ≡ (s.session c).current))
    ⊎ ((s.next_grant ≤ g) × (g < t.next_grant))) (r : Written P s) where
  at_own : (d : ℕ) → d ≡ c → t.session d ≡ x
  at_own d e = ap (λ (f : ℕ → Session). f d) session ∙ (let z : (d == c) ≡ true = grind arith in
      grind (arith, z))

  at_other : (d : ℕ) → d ≢ c → t.session d ≡ s.session d
  at_other d n = ap (λ (f : ℕ → Session). f d) session ∙ (grind (arith, n))

  wrote_before : (d i p g n : ℕ) → WroteByGrant t.commits d i p g n
      → WroteByGrant s.commits d i p g n
  wrote_before d i p g n w = subst (λ (l : List AppliedCommit). WroteByGrant l d i p g n) commits w

  own : (d p g n : ℕ) → d ≡ c → HasRow t d p g
      → WroteByGrant t.commits d (t.session d).current p g n → P d (t.session d).current p g
  own d p g n e row w = elim (from p g (ap (λ (k : Session). k.row p) (sym (at_own d e)) ∙ row)) [
    | inl old ↦ before old
    | inr new ↦ absurd (let l = named P s d (t.session d).current p g n r (wrote_before d (t.session d).current p g n w) in let m = new.0 in omega (arith, l, m))
  ]
    where
      before : ((s.session c).row p ≡ Some g) × (x.current ≡ (s.session c).current)
          → P d (t.session d).current p g
      before old =
          let same : (t.session d).current ≡ (s.session d).current = ap (λ (k : Session). k.current) (at_own d e) ∙ old.1 ∙ ap (λ (k : ℕ). (s.session k).current) (sym e) in
          subst (λ (i : ℕ). P d i p g) (sym same)
          (r.held d p g n (ap (λ (k : ℕ). (s.session k).row p) e ∙ old.0)
          (subst (λ (i : ℕ). WroteByGrant s.commits d i p g n) same (wrote_before d (t.session d).current p g n w)))

  pub session_changes : Written P t
  session_changes = record {
    rows = λ d p g row. elim (cases_eq d c) [
      | inl e ↦ elim (from p g (ap (λ (k : Session). k.row p) (sym (at_own d e)) ∙ row)) [
        | inl old ↦ (let l = r.rows c p g old.0 in omega (arith, l, more))
        | inr new ↦ new.1
      ]
      | inr n ↦ (let l = r.rows d p g (ap (λ (k : Session). k.row p) (sym (at_other d n)) ∙ row) in omega (arith, l, more))
    ];
    writes = λ y i p w e. let l = r.writes y (subst (λ (l : List AppliedCommit). IsIn y l) commits i) p w e in omega (arith, l, more);
    held = λ d p g n row w. elim (cases_eq d c) [
      | inl e ↦ own d p g n e row w
      | inr apart ↦ subst (λ (k : Session). P d k.current p g) (sym (at_other d apart))
          (r.held d p g n (ap (λ (k : Session). k.row p) (sym (at_other d apart)) ∙ row)
          (wrote_before d (s.session d).current p g n (subst (λ (k : Session). WroteByGrant t.commits d k.current p g n) (at_other d apart) w)))
    ];
  }

-- steps that change no session
stays : (P : OfGrant) (s t : Server) → t.session ≡ s.session → t.commits ≡ s.commits
    → t.next_grant ≡ s.next_grant → Written P s → Written P t
stays P s t e f g r = record {
  rows = λ c p h row. let l = r.rows c p h (ap (λ (k : ℕ → Session). (k c).row p) (sym e) ∙ row) in omega (arith, l, g);
  writes = λ x i p w h. let l = r.writes x (subst (λ (l : List AppliedCommit). IsIn x l) f i) p w h in omega (arith, l, g);
  held = λ c p h n row w. subst (λ (k : ℕ → Session). P c (k c).current p h) (sym e)
      (r.held c p h n (ap (λ (k : ℕ → Session). (k c).row p) (sym e) ∙ row)
      (subst (λ (k : ℕ → Session). WroteByGrant s.commits c (k c).current p h n) e
      (subst (λ (l : List AppliedCommit). WroteByGrant l c (t.session c).current p h n) f w)));
}

-- a commit, of pages of which it holds
applies : (P : OfGrant) (s : Server) (c x : ℕ) (ws : List PageWrite) → Written P s
    → ((p : ℕ) (w : PageWrite) → write_of_page ws p ≡ Some w → HasRow s c p w.grant)
    → ((p : ℕ) (w : PageWrite) → write_of_page ws p ≡ Some w
    → P c (s.session c).current p w.grant)
    → Written P (after_server_step s (ChangeSession c (ApplyCommit x ws)))
applies P s c x ws r has holds = record {
  rows = λ d p g row. r.rows d p g (sym (same_row d p) ∙ row);
  writes = λ y i p w e. elim i [
    | inl f ↦ r.rows c p w.grant (has p w (ap (λ (k : AppliedCommit). write_of_page k.writes p) f ∙ e))
    | inr j ↦ r.writes y j p w e
  ];
  held = λ d p g n row w. subst (λ (i : ℕ). P d i p g) (sym (same_current d))
      (go d p g n (sym (same_row d p) ∙ row) (subst (λ (i : ℕ). WroteByGrant t.commits d i p g n) (same_current d) w));
}
  where
    t : Server
    t = after_server_step s (ChangeSession c (ApplyCommit x ws))

    same_row : (d p : ℕ) → ((after_server_step s (ChangeSession c (ApplyCommit x ws))).session d).row p ≡ (s.session d).row p
    same_row d p = grind arith

    same_current : (d : ℕ) → ((after_server_step s (ChangeSession c (ApplyCommit x ws))).session d).current ≡ (s.session d).current
    same_current d = grind arith

    go : (d p g n : ℕ) → HasRow s d p g
        → WroteByGrant (after_server_step s (ChangeSession c (ApplyCommit x ws))).commits d (s.session d).current p g n
        → P d (s.session d).current p g
    go d p g n row w = elim w.listed [
      | inl f ↦ (
          let at : c ≡ d = ap (λ (k : AppliedCommit). k.client) f ∙ w.by_client in
          let h = holds p w.write (ap (λ (k : AppliedCommit). write_of_page k.writes p) f ∙ w.writes) in
          subst (λ (k : ℕ). P k (s.session k).current p g) at (subst (λ (k : ℕ). P c (s.session c).current p k) w.by_grant h))
      | inr j ↦ r.held d p g n row (record {
        commit = w.commit;
        listed = j;
        by_client = w.by_client;
        by_incarnation = w.by_incarnation;
        numbered = w.numbered;
        write = w.write;
        writes = w.writes;
        by_grant = w.by_grant;
      })
    ]

none_some : {A : Type 0} (x : A) → None ≡ Some x → ⊥
none_some x e = cc

-- each change
changed : (P : OfGrant) (s : Server) (c : ℕ) (m : SessionChange) → Written P s
    → ServerMayChange (Commits P c) s.store s.session c m → Fresh s m
    → Written P (after_server_step s (ChangeSession c m))
changed P s c (Admit i) r a f = session_changes P s (after_server_step s (ChangeSession c (Admit i))) c (session_after (s.session c) (Admit i)) refl refl (omega arith) (λ p g e. absurd (none_some g e)) r
changed P s c (BeginTransaction x) r a f = session_changes P s (after_server_step s (ChangeSession c (BeginTransaction x))) c (session_after (s.session c) (BeginTransaction x)) refl refl (omega arith) (λ p g e. inl (e, refl)) r
changed P s c (DropTransaction x) r a f = session_changes P s (after_server_step s (ChangeSession c (DropTransaction x))) c (session_after (s.session c) (DropTransaction x)) refl refl (omega arith) (λ p g e. inl (e, refl)) r
changed P s c (GrantRow p g) r a f = session_changes P s (after_server_step s (ChangeSession c (GrantRow p g))) c (session_after (s.session c) (GrantRow p g)) refl refl (omega arith) (λ q h e. elim (row_case q h e) [ inl z ↦ inr (omega (arith, z, f), omega (arith, z, f)) | inr z ↦ inl (z, refl) ]) r
  where
    row_case : (q h : ℕ) → update (s.session c).row p (Some g) q ≡ Some h
        → (h ≡ g) ⊎ ((s.session c).row q ≡ Some h)
    row_case q h e = grind arith
changed P s c (PermitWrite p g) r a f = session_changes P s (after_server_step s (ChangeSession c (PermitWrite p g))) c (session_after (s.session c) (PermitWrite p g)) refl refl (omega arith) (λ q h e. inl (e, refl)) r
changed P s c (RemoveRow p g) r a f = session_changes P s (after_server_step s (ChangeSession c (RemoveRow p g))) c (session_after (s.session c) (RemoveRow p g)) refl refl (omega arith) (λ q h e. inl (row_case q h e, refl)) r
  where
    row_case : (q h : ℕ) → update (s.session c).row p None q ≡ Some h
        → (s.session c).row q ≡ Some h
    row_case q h e = grind arith
changed P s c (EndPermission p g x) r a f = session_changes P s (after_server_step s (ChangeSession c (EndPermission p g x))) c (session_after (s.session c) (EndPermission p g x)) refl refl (omega arith) (λ q h e. inl (e, refl)) r
changed P s c (ApplyCommit x ws) r a f = applies P s c x ws r (λ p w e. (a.3 p w e).1) (λ p w e. a.0 x ws refl p w e)

-- all steps of a list
written_all : (P : OfGrant) (s : Server) (ds : List ServerStep) → Written P s
    → ServerStepsMay (Commits P) s ds → Written P (server_after s ds)
written_all P s [] r a = r
written_all P s (ChangeSession c m ∷ ds) r a = written_all P (after_server_step s (ChangeSession c m)) ds (changed P s c m r a.0.0 a.0.1) a.1
written_all P s (Send c i b ∷ ds) r a = written_all P s ds r a.1
written_all P s (EnterQueue p w ∷ ds) r a = written_all P (after_server_step s (EnterQueue p w)) ds (stays P s (after_server_step s (EnterQueue p w)) refl refl refl r) a.1
written_all P s (LeaveQueue p ∷ ds) r a = written_all P (after_server_step s (LeaveQueue p)) ds (stays P s (after_server_step s (LeaveQueue p)) refl refl refl r) a.1
written_all P s (MarkCalledBack p ∷ ds) r a = written_all P (after_server_step s (MarkCalledBack p)) ds (stays P s (after_server_step s (MarkCalledBack p)) refl refl refl r) a.1
written_all P s (MarkDowngradeSent p t ∷ ds) r a = written_all P (after_server_step s (MarkDowngradeSent p t)) ds (stays P s (after_server_step s (MarkDowngradeSent p t)) refl refl refl r) a.1
written_all P s (MarkInUse c p ∷ ds) r a = written_all P (after_server_step s (MarkInUse c p)) ds (stays P s (after_server_step s (MarkInUse c p)) refl refl refl r) a.1
written_all P s (UnmarkInUse c p ∷ ds) r a = written_all P (after_server_step s (UnmarkInUse c p)) ds (stays P s (after_server_step s (UnmarkInUse c p)) refl refl refl r) a.1
written_all P s (RemoveAsk c ∷ ds) r a = written_all P (after_server_step s (RemoveAsk c)) ds (stays P s (after_server_step s (RemoveAsk c)) refl refl refl r) a.1
written_all P s (Doom c ∷ ds) r a = written_all P (after_server_step s (Doom c)) ds (stays P s (after_server_step s (Doom c)) refl refl refl r) a.1
written_all P s (ForgetTransaction c ∷ ds) r a = written_all P (after_server_step s (ForgetTransaction c)) ds (stays P s (after_server_step s (ForgetTransaction c)) refl refl refl r) a.1
written_all P s (SetFlushed n ∷ ds) r a = written_all P (after_server_step s (SetFlushed n)) ds (stays P s (after_server_step s (SetFlushed n)) refl refl refl r) a.1

-- no ask that waits is a commit
in_order_too : (P : OfGrant) (s : Server) → Orderly AnyMessage s → Orderly (Commits P) s
in_order_too P s o = record {
  within = o.within;
  ended_by = o.ended_by;
  step = o.step;
  tagged = o.tagged;
  sole = o.sole;
  asking = λ p a i. let w = o.asking p a i in (w.0, w.1, λ g e x ws f. absurd (let z : AskWrite (s.session a.client).txn p g ≡ Commit x ws = f in cc));
  outcome = o.outcome;
  over = o.over;
  past = o.past;
  listed = o.listed;
}

-- a message
pub written_message : (P : OfGrant) (cycle : DeadlockTest) (s : Server) (c i : ℕ) (b : Body)
    → Orderly AnyMessage s → c < s.clients → Commits P c i b → Written P s
    → Written P (server_after s (server_take cycle s c i b))
written_message P cycle s c i b o lt came r = written_all P s (server_take cycle s c i b) r
    (right_server_take (Commits P) cycle s c i b (in_order_too P s o) lt came).0

-- commits reach the disk
pub written_flush : (P : OfGrant) (s : Server) (n : ℕ) → Orderly AnyMessage s → Written P s
    → Written P (server_after s (server_flush s n))
written_flush P s n o r = written_all P s (server_flush s n) r
    (right_flushes (Commits P) s n (in_order_too P s o)).0

-- it may be less that holds
pub written_less : (P Q : OfGrant) (s : Server) → ((c p g n : ℕ) → HasRow s c p g
    → WroteByGrant s.commits c (s.session c).current p g n → P c (s.session c).current p g
    → Q c (s.session c).current p g) → Written P s → Written Q s
written_less P Q s f r = record {
  rows = r.rows;
  writes = r.writes;
  held = λ c p g n row w. f c p g n row w (r.held c p g n row w);
}

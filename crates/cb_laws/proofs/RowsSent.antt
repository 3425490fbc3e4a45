-- Each row was sent to its client.
use Rattle.std.proofs.Common.{List, Some, [], arith, inl, inr, refl, subst, sym, ℕ, ◌∷◌, ◌≡◌, ◌⊎◌}
use Rattle.cb_laws.proofs.RowFacts.{Given}
use Rattle.cb_laws.specs.RowVersions.{HasRow}
use Rattle.cb_protocol.specs.AskLaws.{GrantIsSent, GrantsInOrder}
use Rattle.cb_protocol.specs.Basics.{Bytes, IsIn, update}
use Rattle.cb_protocol.specs.Messages.{Granted, Message, PageWrite}
use Rattle.cb_protocol.specs.Server.{ChangeSession, Send, Server, ServerStep, after_server_step, server_after}
use Rattle.cb_protocol.specs.Session.{Admit, ApplyCommit, BeginTransaction, DropTransaction, EndPermission, GrantRow, PermitWrite, RemoveRow, SessionChange, session_after}
use Rattle.cb_protocol.specs.World.{messages_sent}

abbrev pub AllSent : (Message → Type 0) → Server → Type 0
AllSent Was s = (c p g : ℕ) → HasRow s c p g → (v : ℕ) × (b : Bytes) × Given Was c (s.session c).current p g v b

pub more_sent : (Was More : Message → Type 0) (s : Server) → ((f : Message) → Was f → More f) → AllSent Was s → AllSent More s
more_sent Was More s f a c p g e = let r = a c p g e in (r.0, r.1, f _ r.2)

-- a change that gives no row
abbrev OldRows : Server → ℕ → SessionChange → Type 0
OldRows s c m = (d q h : ℕ) → (update s.session c (session_after (s.session c) m) d).row q ≡ Some h → ((s.session d).row q ≡ Some h) × ((update s.session c (session_after (s.session c) m) d).current ≡ (s.session d).current)

old_admit : (s : Server) (c i : ℕ) → OldRows s c (Admit i)
old_admit s c i d q h e = grind arith

old_begin : (s : Server) (c x : ℕ) → OldRows s c (BeginTransaction x)
old_begin s c x d q h e = grind arith

old_drop : (s : Server) (c x : ℕ) → OldRows s c (DropTransaction x)
old_drop s c x d q h e = grind arith

old_permit : (s : Server) (c p g : ℕ) → OldRows s c (PermitWrite p g)
old_permit s c p g d q h e = grind arith

old_remove : (s : Server) (c p g : ℕ) → OldRows s c (RemoveRow p g)
old_remove s c p g d q h e = grind arith

old_end : (s : Server) (c p g x : ℕ) → OldRows s c (EndPermission p g x)
old_end s c p g x d q h e = grind arith

old_apply : (s : Server) (c x : ℕ) (ws : List PageWrite) → OldRows s c (ApplyCommit x ws)
old_apply s c x ws d q h e = grind arith

old_sent : (Was : Message → Type 0) (s : Server) (c : ℕ) (m : SessionChange) → OldRows s c m → AllSent Was s → AllSent Was (after_server_step s (ChangeSession c m))
old_sent Was s c m o a d q h e = let k = o d q h e in
    subst (λ (i : ℕ). (v : ℕ) × (b : Bytes) × Given Was d i q h v b) (sym k.1) (a d q h k.0)

-- a new row, whose copy comes next
new_row : (s : Server) (c p g d q h : ℕ) → ((update s.session c (session_after (s.session c) (GrantRow p g)) d).row q ≡ Some h)
    → ((update s.session c (session_after (s.session c) (GrantRow p g)) d).current ≡ (s.session d).current) × (((d ≡ c) × (q ≡ p) × (h ≡ g)) ⊎ ((s.session d).row q ≡ Some h))
new_row s c p g d q h e = grind arith

abbrev granted_message : Server → (c p g : ℕ) → Message
granted_message s c p g = record { client = c; incarnation = (s.session c).current; body = Granted p g (s.store.version p) (s.store.bytes p) }

new_sent : (Was : Message → Type 0) (s : Server) (c p g : ℕ) → AllSent Was s → AllSent (λ f. Was f ⊎ (granted_message s c p g ≡ f)) (after_server_step s (ChangeSession c (GrantRow p g)))
new_sent Was s c p g a d q h e = let k = new_row s c p g d q h e in
    subst (λ (i : ℕ). (v : ℕ) × (b : Bytes) × Given (λ f. Was f ⊎ (granted_message s c p g ≡ f)) d i q h v b) (sym k.0) (elim k.1 [
      | inl z ↦ (s.store.version p, s.store.bytes p, inr (named d q h z.0 z.1 z.2))
      | inr z ↦ (let r = a d q h z in (r.0, r.1, inl r.2))
    ])
  where
    named : (d q h : ℕ) → d ≡ c → q ≡ p → h ≡ g → granted_message s c p g ≡ record { client = d; incarnation = (s.session d).current; body = Granted q h (s.store.version p) (s.store.bytes p) }
    named d q h x y z = grind arith

-- grants in order, from the second step on
later : (s : Server) (d : ServerStep) (ds : List ServerStep) → GrantsInOrder s (d ∷ ds) → GrantsInOrder (after_server_step s d) ds
later s d ds o before after c p g e = o (d ∷ before) after c p g (rw e refl)

is_sent : (s : Server) (ds : List ServerStep) (c p g : ℕ) → GrantIsSent s ds c p g → IsIn (granted_message s c p g) (messages_sent ds)
is_sent s ds c p g a = rw a.1 (inl refl)

pub rows_sent : (Was : Message → Type 0) (s : Server) (ds : List ServerStep) → AllSent Was s → GrantsInOrder s ds → AllSent (λ f. Was f ⊎ IsIn f (messages_sent ds)) (server_after s ds)
rows_sent Was s [] a o = more_sent Was (λ f. Was f ⊎ IsIn f (messages_sent [])) s (λ f i. inl i) a
rows_sent Was s (Send c i y ∷ ds) a o = more_sent (λ f. Was f ⊎ IsIn f (messages_sent ds)) (λ f. Was f ⊎ IsIn f (messages_sent (Send c i y ∷ ds))) (server_after s ds) (λ f k. elim k [ inl j ↦ inl j | inr j ↦ inr (inr j) ]) (rows_sent Was s ds a (later s (Send c i y) ds o))
rows_sent Was s (ChangeSession c (GrantRow p g) ∷ ds) a o =
    let t : Server = after_server_step s (ChangeSession c (GrantRow p g)) in
    let here = is_sent s ds c p g (o [] ds c p g refl).3 in
    more_sent (λ f. (Was f ⊎ (granted_message s c p g ≡ f)) ⊎ IsIn f (messages_sent ds)) (λ f. Was f ⊎ IsIn f (messages_sent ds)) (server_after t ds)
    (λ f k. elim k [ inl j ↦ elim j [ inl l ↦ inl l | inr e ↦ inr (subst (λ (x : Message). IsIn x (messages_sent ds)) e here) ] | inr j ↦ inr j ])
    (rows_sent (λ f. Was f ⊎ (granted_message s c p g ≡ f)) t ds (new_sent Was s c p g a) (later s (ChangeSession c (GrantRow p g)) ds o))
rows_sent Was s (ChangeSession c (Admit i) ∷ ds) a o = rows_sent Was _ ds (old_sent Was s c (Admit i) (old_admit s c i) a) (later s (ChangeSession c (Admit i)) ds o)
rows_sent Was s (ChangeSession c (BeginTransaction x) ∷ ds) a o = rows_sent Was _ ds (old_sent Was s c (BeginTransaction x) (old_begin s c x) a) (later s (ChangeSession c (BeginTransaction x)) ds o)
rows_sent Was s (ChangeSession c (DropTransaction x) ∷ ds) a o = rows_sent Was _ ds (old_sent Was s c (DropTransaction x) (old_drop s c x) a) (later s (ChangeSession c (DropTransaction x)) ds o)
rows_sent Was s (ChangeSession c (PermitWrite p g) ∷ ds) a o = rows_sent Was _ ds (old_sent Was s c (PermitWrite p g) (old_permit s c p g) a) (later s (ChangeSession c (PermitWrite p g)) ds o)
rows_sent Was s (ChangeSession c (RemoveRow p g) ∷ ds) a o = rows_sent Was _ ds (old_sent Was s c (RemoveRow p g) (old_remove s c p g) a) (later s (ChangeSession c (RemoveRow p g)) ds o)
rows_sent Was s (ChangeSession c (EndPermission p g x) ∷ ds) a o = rows_sent Was _ ds (old_sent Was s c (EndPermission p g x) (old_end s c p g x) a) (later s (ChangeSession c (EndPermission p g x)) ds o)
rows_sent Was s (ChangeSession c (ApplyCommit x ws) ∷ ds) a o = rows_sent Was _ ds (old_sent Was s c (ApplyCommit x ws) (old_apply s c x ws) a) (later s (ChangeSession c (ApplyCommit x ws)) ds o)
rows_sent Was s (d ∷ ds) a o = rows_sent Was (after_server_step s d) ds a (later s d ds o)

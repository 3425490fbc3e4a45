-- Each event keeps the invariant of the whole world.
use Rattle.std.proofs.Common.{Bool, List, arith, false, if◌then◌else◌, inl, inr, refl, subst, sym, true, ℕ, ◌<◌, ◌==◌, ◌∷◌, ◌≡◌, ◌≢◌, ◌≤◌}
use Rattle.cb_protocol.proofs.Machine.{CommittedTransaction, Machine, ClientRestarts, ServerChanges, WasSent, happens, present_cache, put_client, start}
use Rattle.cb_protocol.proofs.Invariant.{HasCopy, MessageHolds, SessionFacts, LoneWriter, HasCommitNumber, MessageFact, Invariant, SameCopies, cache_at_session}
use Rattle.cb_protocol.proofs.SessionChanges.{good_admit, good_other_admit, now_other_admit}
use Rattle.cb_protocol.specs.Cache.{Cache}
use Rattle.cb_protocol.specs.Basics.{Bytes, Limits, update}
use Rattle.cb_protocol.specs.Messages.{Body, Message, Hello}
use Rattle.cb_protocol.specs.Headline.{SoundOpening}
use Rattle.cb_protocol.specs.Serial.{PerformedOperation}
use Rattle.cb_protocol.specs.Session.{Admit, Session, Store, session_after, store_after}
use Rattle.cb_protocol.specs.World.{Opening}

-- a welcomed client is of the server's current incarnation
pub up_to_date : (w : Machine) (c : ℕ) → Invariant w → (present_cache w c).welcomed ≡ true → (w.session c).current ≡ w.incarnation c
up_to_date w c h e = grind (arith, h.behind c, h.ahead c (w.incarnation c))

-- client c's state, where it has a readable copy or may write
pub readable : (w : Machine) (c p : ℕ) (b : Bytes) → Invariant w → HasCopy w c p b → (w.session c).current ≡ w.incarnation c
readable w c p b h e = grind (arith, up_to_date, h.behind c, h.ahead c (w.incarnation c))

pub safe_start : (L : Limits) (o : Opening) → SoundOpening o → Invariant (start L o)
safe_start L o v = grind (arith, v)

-- what holds of each entry of a map, after one is put
pub put_each : {A : Type 0} (P : ℕ → A → Type 0) (f : ℕ → A) (k : ℕ) (v : A) → P k v → ((q : ℕ) → q ≢ k → P q (f q)) → (q : ℕ) → P q (update f k v q)
put_each {A} P f k v a b q = go (q == k) refl
  where
    go : (r : Bool) → (q == k) ≡ r → P q (if r then v else f q)
    go true e = subst (λ x. P x v) (sym (same e)) a
      where
        same : (q == k) ≡ true → q ≡ k
        same h = grind arith
    go false e = b q (apart e)
      where
        apart : (q == k) ≡ false → q ≢ k
        apart h = grind arith

-- the same of the client's state at the session's incarnation
pub put_client_each : (P : ℕ → Cache → Type 0) (f : ℕ → ℕ → Cache) (c i : ℕ) (k : Cache) (now : ℕ → ℕ) → now c ≡ i → P c k → ((d : ℕ) → d ≢ c → P d (f d (now d))) → (d : ℕ) → P d (put_client f c i k d (now d))
put_client_each P f c i k now e a b d = go (d == c) refl (now d == i) refl
  where
    go : (r : Bool) → (d == c) ≡ r → (u : Bool) → (now d == i) ≡ u → P d (if r then (if u then k else f d (now d)) else f d (now d))
    go true h true l = subst (λ x. P x k) (sym (same h)) a
      where
        same : (d == c) ≡ true → d ≡ c
        same h = grind arith
    go true h false l = absurd (wrong h l)
      where
        wrong : (d == c) ≡ true → (now d == i) ≡ false → ⊥
        wrong h l = grind (arith, e)
    go false h u l = b d (apart h)
      where
        apart : (d == c) ≡ false → d ≢ c
        apart h = grind arith

-- a message's fact goes along with what holds of its body
pub fine_through : (c : ℕ) (s s' : Store) (t t' : Session) (k k' : Cache) (last i : ℕ) (y : Body) → t'.current ≡ t.current → (MessageFact c s t k y → MessageFact c s' t' k' y) → MessageHolds c s t k last i y → MessageHolds c s' t' k' last i y
fine_through c s s' t t' k k' last i y e n f = grind arith

-- the client's state at the session's incarnation changes
pub safe_client : (w : Machine) (c : ℕ) (k : Cache) (ls : List PerformedOperation) → Invariant w → (w.session c).current ≡ w.incarnation c → SessionFacts c w.store (w.session c) k → ((y : Body) → MessageFact c w.store (w.session c) (present_cache w c) y → MessageFact c w.store (w.session c) k y) → Invariant (record w { client = put_client w.client c (w.incarnation c) k; performed = ls })
safe_client w c k ls h e g n = record {
  behind = h.behind;
  ahead = grind (arith, h.ahead);
  commit_number = h.commit_number;
  versions = h.versions;
  good = put_client_each (λ d x. SessionFacts d w.store (w.session d) x) w.client c (w.incarnation c) k (λ d. (w.session d).current) e g (λ d _. h.good d);
  fine = λ f i. put_client_each (λ d x. MessageHolds d w.store (w.session d) (cache_at_session w d) (w.incarnation d) f.incarnation f.body → MessageHolds d w.store (w.session d) x (w.incarnation d) f.incarnation f.body) w.client c (w.incarnation c) k (λ d. (w.session d).current) e
      (fine_through c w.store w.store (w.session c) (w.session c) (cache_at_session w c) k (w.incarnation c) f.incarnation f.body refl (λ o. n f.body (subst (λ (j : ℕ). MessageFact c w.store (w.session c) (w.client c j) f.body) e o)))
      (λ d _ x. x) f.client (h.fine f i);
}

pub safe_says : (w : Machine) (f : Message) → Invariant w → MessageHolds f.client w.store (w.session f.client) (cache_at_session w f.client) (w.incarnation f.client) f.incarnation f.body → Invariant (record w { packets = f ∷ w.packets })
safe_says w f h n = record {
  behind = h.behind;
  ahead = h.ahead;
  commit_number = h.commit_number;
  versions = h.versions;
  good = h.good;
  fine = λ q i. elim i [ inl e ↦ subst (λ (x : Message). MessageHolds x.client w.store (w.session x.client) (cache_at_session w x.client) (w.incarnation x.client) x.incarnation x.body) e n | inr j ↦ h.fine q j ];
}

pub safe_restart : (w : Machine) (c : ℕ) → Invariant w → Invariant (happens w (ClientRestarts c))
safe_restart w c h = record {
  behind = grind (arith, h.behind);
  ahead = h.ahead;
  commit_number = h.commit_number;
  versions = h.versions;
  good = h.good;
  fine = λ f i. grind (arith, h.fine f i);
}

-- the server changes a session, within an incarnation of client c
pub safe_server : (w : Machine) (c : ℕ) (s : Store) (t : Session) (es : List CommittedTransaction) → Invariant w → t.current ≡ (w.session c).current → ((p : ℕ) → s.version p ≤ s.last_commit)
    → ((d i x n : ℕ) → HasCommitNumber s d i x n → i ≤ (w.session d).current)
    → SessionFacts c s t (cache_at_session w c) → ((y : Body) → MessageFact c w.store (w.session c) (cache_at_session w c) y → MessageFact c s t (cache_at_session w c) y)
    → ((d : ℕ) → d ≢ c → SessionFacts d s (w.session d) (cache_at_session w d)) → ((d : ℕ) (y : Body) → d ≢ c → MessageFact d w.store (w.session d) (cache_at_session w d) y → MessageFact d s (w.session d) (cache_at_session w d) y)
    → Invariant (record w { store = s; session = update w.session c t; history = es })
safe_server w c s t es h e v m g n og on = record {
  behind = grind (arith, h.behind);
  ahead = grind (arith, h.ahead);
  commit_number = grind (arith, m);
  versions = v;
  good = put_each (λ d x. SessionFacts d s x (w.client d x.current)) w.session c t (subst (λ (j : ℕ). SessionFacts c s t (w.client c j)) (sym e) g) og;
  fine = λ f i. put_each (λ d x. MessageHolds d w.store (w.session d) (cache_at_session w d) (w.incarnation d) f.incarnation f.body → MessageHolds d s x (w.client d x.current) (w.incarnation d) f.incarnation f.body) w.session c t
      (fine_through c w.store s (w.session c) t (cache_at_session w c) (w.client c t.current) (w.incarnation c) f.incarnation f.body e (subst (λ (j : ℕ). MessageFact c w.store (w.session c) (cache_at_session w c) f.body → MessageFact c s t (w.client c j) f.body) (sym e) (n f.body)))
      (λ d ne. fine_through d w.store s (w.session d) (w.session d) (cache_at_session w d) (cache_at_session w d) (w.incarnation d) f.incarnation f.body refl (on d f.body ne)) f.client (h.fine f i);
}

-- an older message is nothing to a new incarnation
pub fine_older : (c : ℕ) (s s' : Store) (t t' : Session) (k k' : Cache) (last i : ℕ) (y : Body) → t.current < t'.current → MessageHolds c s t k last i y → MessageHolds c s' t' k' last i y
fine_older c s s' t t' k k' last i y l f = grind arith

-- the server takes a greater Hello
pub safe_admit : (w : Machine) (c i : ℕ) → Invariant w → WasSent w c i Hello → (w.session c).current < i → Invariant (happens w (ServerChanges c (Admit i)))
safe_admit w c i h came l =
    let s : Store = store_after w.store c (w.session c) (Admit i) in
    let t : Session = session_after (w.session c) (Admit i) in
    record {
      behind = put_each (λ d x. x.current ≤ w.incarnation d) w.session c t (h.fine _ came) (λ d ne. h.behind d);
      ahead = grind (arith, h.ahead);
      commit_number = grind (arith, h.commit_number);
      versions = h.versions;
      good = put_each (λ d x. SessionFacts d s x (w.client d x.current)) w.session c t
          (subst (λ (k : Cache). SessionFacts c s t k) (sym (h.ahead c i l)) (good_admit c w.store (w.session c) (cache_at_session w c) i (h.good c) l (h.commit_number c)))
          (λ d ne. good_other_admit c d w.store (w.session c) (w.session d) (cache_at_session w d) i ne (h.good d));
      fine = λ f m. put_each (λ d x. MessageHolds d w.store (w.session d) (cache_at_session w d) (w.incarnation d) f.incarnation f.body → MessageHolds d s x (w.client d x.current) (w.incarnation d) f.incarnation f.body) w.session c t
          (fine_older c w.store s (w.session c) t (cache_at_session w c) (w.client c i) (w.incarnation c) f.incarnation f.body l)
          (λ d ne. fine_through d w.store s (w.session d) (w.session d) (cache_at_session w d) (cache_at_session w d) (w.incarnation d) f.incarnation f.body refl (now_other_admit c d w.store (w.session c) (w.session d) (cache_at_session w d) i f.body ne (h.good d))) f.client (h.fine f m);
    }

pub agree : (w : Machine) → Invariant w → SameCopies w
agree w h c d p b e rc rd = grind (arith, readable w c p b h rc, readable w d p e h rd, h.good c, h.good d)

pub alone : (w : Machine) → Invariant w → LoneWriter w
alone w h c d p b wc rd = grind (arith, readable w d p b h rd, h.good c, h.good d, up_to_date w c h)

-- What the protocol's table says of a grant that comes.
use Rattle.std.proofs.Common.{if◌then◌else◌, ◌≡◌, ◌≢◌, ◌<◌, ◌==◌, ℕ, nat_lt, Bool, true, false, true≢false, not, ◌&&◌, ◌||◌, List, [], ◌∷◌, ◌++◌, length, Option, Some, None, IfSome, IfErr, Result, Ok, Err, option_to_list, unwrap_or, slice_set, refl, sym, ◌∙◌, ap, subst, arith}
use Rattle.std.specs.Option.{is_some}
use Rattle.std.proofs.Math.ListN.{length-set}
use Rattle.std.proofs.lemmas.Bool.Decides.{nat_tests}
use Rattle.std.proofs.lemmas.List.{append-nil}
use Rattle.cb_page.specs.Bounds.{Bounds}
use Rattle.cb_pool.specs.declared.pool.PoolFault.{PoolFault}
use Rattle.cb_pool.specs.declared.pool.PoolFault.TheVariants as pool
use Rattle.cb_page.specs.Flags.{has}
use Rattle.cb_frame.specs.declared.frame.Frame.{Frame}
use Rattle.cb_outbox.specs.Messages.{messages_of}
use Rattle.cb_protocol.proofs.Cases.{takes_welcomed}
use Rattle.cb_protocol.specs.Basics.{Bytes, is_none, update}
use Rattle.cb_protocol.specs.Cache.{Fill, Install, LetGo, Lock, MakeBare, RefuseGrant}
use Rattle.cb_protocol.specs.Client.{ChangeCache, Client, ClientStep, NoAsk, Say, SetAsk, asks_to_read, bodies_said, client_after, is_fixed, new_client}
use Rattle.cb_protocol.specs.ClientEnd.{refuse_grant}
use Rattle.cb_protocol.specs.ClientMessages.{MayLetGo, brings_page, client_take, let_page_go, take_granted}
use Rattle.cb_protocol.specs.Messages.{Body, Granted, GiveBack, Message}
use Rattle.cb_protocol.specs.Ranges.{BodyFits}
use Rattle.cb_protocol.specs.Serial.{Operation}
use Rattle.cb_cache.specs.ByTable.{Brings, BringsIn, Does, DoesReferring, Filled, Installed, lose_bytes}
use Rattle.cb_cache.specs.CacheState.{CacheState, IsFull, client_with, content_at, copy_at, references_at}
use Rattle.cb_cache.proofs.Changing.{put_entry}
use Rattle.cb_cache.proofs.Steps.{goes_before}
use Rattle.cb_locks.specs.Dues.{called_by}
use Rattle.cb_locks.specs.Locks.{due_at}
use Rattle.cb_cache.specs.Ending.{all_sent_by}
use Rattle.cb_cache.proofs.Walk.{refers_then}
use Rattle.cb_client_core.specs.ClientState.{ClientState, IsClient, ask_of, base_of, client_of, locks_with}
use Rattle.cb_client_core.specs.GrantCases.{after_gone, case_at, case_held, gone_steps, said_of_gone}
use Rattle.cb_client_core.specs.declared.client_core.granted.GrantCase.TheVariants as cases
use Rattle.cb_client_core.specs.declared.stage.PendingAsk.TheVariants as asks
use Rattle.cb_client_core.specs.ByTable.{Takes, as_before, limits_at, messages_from, references_of, with_brought}
use Rattle.cb_client_core.proofs.Keeping.{keeps}
use Rattle.cb_client_core.proofs.Ending.{same_sender}
use Rattle.cb_client_core.proofs.Reaching.{takes_reach}
use Rattle.cb_client_core.proofs.RoomLeft.{room_same}
use Rattle.cb_client_core.proofs.Taking.{by_locks, bytes_seen, from_locks, kept, none_due, room_stays, seen_alone}

-- What a grant makes, where the table's steps are known.
takes_granted : (v w : ClientState) (p g x : ℕ) (b : Bytes) (gone : Option ℕ) (steps : List ClientStep) (messages : List Message) → v.welcomed ≡ true
    → ((ops : List Operation) → take_granted (client_of v ops) p g x b gone (copy_at v.copies p).held ≡ steps) → ((ops : List Operation) → brings_page steps ≡ true → MayLetGo (limits_at v) (client_of v ops) p gone)
    → messages_from v (bodies_said steps) ≡ messages → ((ops : List Operation) → client_after v.copies.limits.keep_write (client_of v ops) steps ≡ client_of w ops)
    → w.copies.limits ≡ v.copies.limits → w.no ≡ v.no → w.incarnation ≡ v.incarnation → references_of w ≡ with_brought v (Granted p g x b) (references_of v) → Takes v (Granted p g x b) messages w
takes_granted v w p g x b gone steps messages welcomed table law said after limits number own refers = record {
  let_go = gone;
  allowed = λ ops e. law ops (sym (ap brings_page (all ops)) ∙ e);
  history = as_before;
  makes = record {
    said = λ ops. ap (λ (s : List ClientStep). messages_from v (bodies_said s)) (all ops) ∙ said;
    after = λ ops. ap (λ (s : List ClientStep). client_after v.copies.limits.keep_write (client_of v ops) s) (all ops) ∙ after ops;
    limits = limits;
    no = number;
    incarnation = own;
  };
  references = refers;
}
  where
    all : (ops : List Operation) → client_take (limits_at v) (client_of v ops) (Granted p g x b) gone ≡ steps
    all ops = takes_welcomed (limits_at v) (client_of v ops) (Granted p g x b) gone welcomed (λ e. cc) ∙ table ops

-- what each case is
pub record IsFilled (v : ClientState) (p g x : ℕ) : Type 0 where
  pub held : (copy_at v.copies p).held ≡ Some g
  pub bare : content_at v.copies p ≡ None
  pub version : ((copy_at v.copies p).version == x) ≡ true
  pub asked : asks_to_read (ask_of v.ask) p ≡ true

pub record IsInstalled (v : ClientState) (p g : ℕ) : Type 0 where
  pub none_held : (copy_at v.copies p).held ≡ None
  pub new : nat_lt (unwrap_or (copy_at v.copies p).seen 0) g ≡ true
  pub asked : asks_to_read (ask_of v.ask) p ≡ true

no_bytes : (o : Option Bytes) → not (is_some o) ≡ true → o ≡ None
no_bytes None e = refl
no_bytes (Some b) e = absurd (true≢false (sym e))

pub is_filled : (v : ClientState) (p g x : ℕ) → case_at v p g x ≡ cases.Filled → IsFilled v p g x
is_filled v p g x e = by (copy_at v.copies p).held refl e
  where
    wants : Bool
    wants = not (is_some (content_at v.copies p)) && (((copy_at v.copies p).version == x) && asks_to_read (ask_of v.ask) p)

    by : (r : Option ℕ) → (copy_at v.copies p).held ≡ r → case_held v p g x r ≡ cases.Filled → IsFilled v p g x
    by None h c = go (nat_lt (unwrap_or (copy_at v.copies p).seen 0) g && asks_to_read (ask_of v.ask) p) c
      where
        go : (z : Bool) → (if z then cases.Installed else cases.Refused) ≡ cases.Filled → IsFilled v p g x
        go true c = absurd cc
        go false c = absurd cc
    by (Some h) held c = go (h == g) refl (not (is_some (content_at v.copies p))) refl ((copy_at v.copies p).version == x) refl (asks_to_read (ask_of v.ask) p) refl c
      where
        go : (y : Bool) → (h == g) ≡ y → (z : Bool) → not (is_some (content_at v.copies p)) ≡ z → (s : Bool) → ((copy_at v.copies p).version == x) ≡ s → (a : Bool) → asks_to_read (ask_of v.ask) p ≡ a
            → (if y then (if z && (s && a) then cases.Filled else cases.Ignored) else cases.Refused) ≡ cases.Filled → IsFilled v p g x
        go true y true z true s true a c = record { held = let same : h ≡ g = grind (arith, nat_tests) in held ∙ ap Some same; bare = no_bytes (content_at v.copies p) z; version = s; asked = a }
        go true y true z true s false a c = absurd cc
        go true y true z false s u a c = absurd cc
        go true y false z s t u a c = absurd cc
        go false y z t s r u a c = absurd cc

pub is_installed : (v : ClientState) (p g x : ℕ) → case_at v p g x ≡ cases.Installed → IsInstalled v p g
is_installed v p g x e = by (copy_at v.copies p).held refl e
  where
    by : (r : Option ℕ) → (copy_at v.copies p).held ≡ r → case_held v p g x r ≡ cases.Installed → IsInstalled v p g
    by None h c = go (nat_lt (unwrap_or (copy_at v.copies p).seen 0) g) refl (asks_to_read (ask_of v.ask) p) refl c
      where
        go : (y : Bool) → nat_lt (unwrap_or (copy_at v.copies p).seen 0) g ≡ y → (a : Bool) → asks_to_read (ask_of v.ask) p ≡ a → (if y && a then cases.Installed else cases.Refused) ≡ cases.Installed → IsInstalled v p g
        go true y true a c = record { none_held = h; new = y; asked = a }
        go true y false a c = absurd cc
        go false y a z c = absurd cc
    by (Some h) held c = go (h == g) (not (is_some (content_at v.copies p)) && (((copy_at v.copies p).version == x) && asks_to_read (ask_of v.ask) p)) c
      where
        go : (y z : Bool) → (if y then (if z then cases.Filled else cases.Ignored) else cases.Refused) ≡ cases.Installed → IsInstalled v p g
        go true true c = absurd cc
        go true false c = absurd cc
        go false z c = absurd cc

-- so of a client that is known
pub filled_of : (v : ClientState) → IsClient v → (p g x : ℕ) → case_at v p g x ≡ cases.Filled → IsFilled v p g x
filled_of v is p g x e = is_filled v p g x e

pub installed_of : (v : ClientState) → IsClient v → (p g x : ℕ) → case_at v p g x ≡ cases.Installed → IsInstalled v p g
installed_of v is p g x e = is_installed v p g x e

-- a grant that is ignored, and one that is given back
pub ignores : (v : ClientState) (p g x : ℕ) (b : Bytes) → v.welcomed ≡ true → case_at v p g x ≡ cases.Ignored → Takes v (Granted p g x b) [] v
ignores v p g x b welcomed e = takes_granted v v p g x b None [] [] welcomed (λ ops. table ops) (λ ops z. absurd (true≢false (sym z))) refl (λ ops. refl) refl refl refl (rw (welcomed, e) refl)
  where
    table : (ops : List Operation) → take_granted (client_of v ops) p g x b None (copy_at v.copies p).held ≡ []
    table ops = by (copy_at v.copies p).held e
      where
        by : (r : Option ℕ) → case_held v p g x r ≡ cases.Ignored → take_granted (client_of v ops) p g x b None r ≡ []
        by None c = go (nat_lt (unwrap_or (copy_at v.copies p).seen 0) g && asks_to_read (ask_of v.ask) p) c
          where
            go : (z : Bool) → (if z then cases.Installed else cases.Refused) ≡ cases.Ignored → (if z then SetAsk NoAsk ∷ ChangeCache (Install p g x b) ∷ ChangeCache (Lock p) ∷ [] else refuse_grant p g) ≡ []
            go true c = absurd cc
            go false c = absurd cc
        by (Some h) c = go (h == g) refl (content_at v.copies p) refl ((copy_at v.copies p).version == x && asks_to_read (ask_of v.ask) p) refl c
          where
            go : (y : Bool) → (h == g) ≡ y → (o : Option Bytes) → content_at v.copies p ≡ o → (z : Bool) → ((copy_at v.copies p).version == x && asks_to_read (ask_of v.ask) p) ≡ z
                → (if y then (if not (is_some o) && z then cases.Filled else cases.Ignored) else cases.Refused) ≡ cases.Ignored → take_granted (client_of v ops) p g x b None (Some h) ≡ []
            go true y (Some bytes) o z t c = rw (y, o) refl
            go true y None o true t c = absurd cc
            go true y None o false t c = rw (y, o, t) refl
            go false y o t z u c = absurd cc

refused_table : (v : ClientState) (p g x : ℕ) (b : Bytes) → case_at v p g x ≡ cases.Refused → (ops : List Operation) → take_granted (client_of v ops) p g x b None (copy_at v.copies p).held ≡ refuse_grant p g
refused_table v p g x b e ops = by (copy_at v.copies p).held e
  where
    by : (r : Option ℕ) → case_held v p g x r ≡ cases.Refused → take_granted (client_of v ops) p g x b None r ≡ refuse_grant p g
    by None c = go (nat_lt (unwrap_or (copy_at v.copies p).seen 0) g && asks_to_read (ask_of v.ask) p) c
      where
        go : (z : Bool) → (if z then cases.Installed else cases.Refused) ≡ cases.Refused → (if z then SetAsk NoAsk ∷ ChangeCache (Install p g x b) ∷ ChangeCache (Lock p) ∷ [] else refuse_grant p g) ≡ refuse_grant p g
        go true c = absurd cc
        go false c = refl
    by (Some h) c = go (h == g) refl (not (is_some (content_at v.copies p)) && (((copy_at v.copies p).version == x) && asks_to_read (ask_of v.ask) p)) c
      where
        go : (y : Bool) → (h == g) ≡ y → (z : Bool) → (if y then (if z then cases.Filled else cases.Ignored) else cases.Refused) ≡ cases.Refused → take_granted (client_of v ops) p g x b None (Some h) ≡ refuse_grant p g
        go true y true c = absurd cc
        go true y false c = absurd cc
        go false y z c = rw y refl

pub refuses : (v : ClientState) (p g x : ℕ) (b : Bytes) (copies : CacheState) → IsClient v → v.welcomed ≡ true → case_at v p g x ≡ cases.Refused → Does v.copies (ChangeCache (RefuseGrant p g) ∷ []) copies
    → Takes v (Granted p g x b) (by_locks v (GiveBack p g) ∷ []) (record v { copies = copies })
refuses v p g x b copies is welcomed e d = takes_granted v (record v { copies = copies }) p g x b None (refuse_grant p g) _ welcomed (refused_table v p g x b e) (λ ops z. absurd (true≢false (sym z))) (from_locks v is (GiveBack p g))
    (λ ops. d.becomes (locks_with v.locks (base_of v ops))) d.limits refl refl (rw (welcomed, e) d.references)

pub refuses_keeps : (v : ClientState) (p g x : ℕ) (b : Bytes) (copies : CacheState) → IsClient v → v.welcomed ≡ true → BodyFits (limits_at v) (Granted p g x b) → case_at v p g x ≡ cases.Refused → Does v.copies (ChangeCache (RefuseGrant p g) ∷ []) copies
    → IsClient (record v { copies = copies })
refuses_keeps v p g x b copies is welcomed fits e d =
    let new : ClientState = record v { copies = copies } in
    keeps v new is d.limits refl refl refl refl refl refl is.same_txn (λ q. refl) (seen_alone v.copies copies p g d) (λ q e. e) (λ q e. sym (bytes_seen v.copies copies p g d q) ∙ e)
    (room_stays v copies _ is d (λ other h. room_same (limits_at v) _ _ (λ q. refl) (λ q. refl) h)) (takes_reach v new (Granted p g x b) (refuses v p g x b copies is welcomed e d) fits is.reached)

-- so the pool is not refused as full, whatever bytes are handed in
pub full_alone : (came : Result (Option ℕ) (PoolFault × Bytes)) (bytes : Bytes) → (came ≡ Err (pool.Full, bytes) → ⊥) → IfErr came (λ refused. refused.1 ≡ bytes) → IfErr came (λ refused. refused.0 ≢ pool.Full)
full_alone (Ok _) bytes none back = tt
full_alone (Err (fault, handed)) bytes none back = λ full. none (rw (full, back) refl)

-- the pool has room for a page that was asked for
pub not_full : (v : ClientState) (p : ℕ) → IsClient v → asks_to_read (ask_of v.ask) p ≡ true → IsFull v.copies → ⊥
not_full v p is asked full = by v.ask refl asked
  where
    by : (a : Rattle.cb_client_core.specs.declared.stage.PendingAsk.PendingAsk) → v.ask ≡ a → asks_to_read (ask_of a) p ≡ true → ⊥
    by asks.Nothing e t = true≢false (sym t)
    by (asks.Write q) e t = true≢false (sym t)
    by (asks.Read q) e t = let h = is.room q e new_client in true≢false (sym h.room ∙ full new_client)

-- a page comes: what its step leaves of the others, and that it says nothing
elsewhere : (keep_write : Bool) (p : ℕ) (st : ClientStep) → Brings p st → (k : Client) (r : ℕ) → r ≢ p
    → ((client_after keep_write k (st ∷ [])).cache.held r ≡ k.cache.held r) × ((client_after keep_write k (st ∷ [])).cache.content r ≡ k.cache.content r)
elsewhere keep_write p _ (Filled g b) k r n = (refl, grind (arith, nat_tests))
elsewhere keep_write p _ (Installed g x b) k r n = (grind (arith, nat_tests), grind (arith, nat_tests))

quiet : (p : ℕ) (st : ClientStep) → Brings p st → (rest : List ClientStep) → bodies_said (st ∷ rest) ≡ bodies_said rest
quiet p _ (Filled g b) rest = refl
quiet p _ (Installed g x b) rest = refl

-- what is known of the page that goes
pub record IsGone (v : ClientState) (p q : ℕ) : Type 0 where
  pub other : q ≢ p
  pub held : (copy_at v.copies q).held ≢ None
  pub unwritten : has v.copies.wrote q ≡ false
  pub within : q < v.copies.limits.pages

some_of : (o : Option Bytes) → is_none o ≡ false → o ≢ None
some_of None e z = true≢false e
some_of (Some b) e z = absurd cc

is_gone : (v : ClientState) (is : IsClient v) (p q : ℕ) → MayLetGo (limits_at v) (client_of v is.reached.operations) p (Some q) → IsGone v p q
is_gone v is p q m = record { other = m.0; held = held; unwritten = by (has v.copies.wrote q) refl; within = (kept v is).held_within q held }
  where
    held : (copy_at v.copies q).held ≢ None
    held = (kept v is).content_held q (some_of (content_at v.copies q) m.1)

    by : (b : Bool) → has v.copies.wrote q ≡ b → b ≡ false
    by false e = refl
    by true e = absurd (true≢false (let f : is_fixed (client_of v is.reached.operations) q ≡ true = rw e (or_true (has v.copies.wanted q)) in sym f ∙ m.2))
      where
        or_true : (b : Bool) → (b || true) ≡ true
        or_true true = refl
        or_true false = refl

-- What a page that came in, and the one that went for it, make of the copies.
record Brought (v : ClientState) (p : ℕ) (gone : Option ℕ) (st : ClientStep) (c1 c2 : CacheState) : Type 0 where
  first : List ClientStep
  goes : (ops : List Operation) → let_page_go (client_of v ops) gone ≡ first
  after : (other : Client) (more : List ClientStep)
      → client_after v.copies.limits.keep_write (client_with v.copies other) (first ++ SetAsk NoAsk ∷ st ∷ more) ≡ client_after v.copies.limits.keep_write (client_with c2 (record other { ask = NoAsk })) more
  says : (more : List ClientStep) → bodies_said (first ++ SetAsk NoAsk ∷ st ∷ more) ≡ said_of_gone c1 v.locks gone ++ bodies_said more
  limits : c2.limits ≡ v.copies.limits
  references : references_at c2 ≡ references_at v.copies ++ (p, v.copies.pool.fixed) ∷ []
  held : (r : ℕ) → r ≢ p → has v.locks.locked r ≡ true → (copy_at c2 r).held ≡ (copy_at v.copies r).held
  bare : (r : ℕ) → r ≢ p → is_some (copy_at c2 r).held ≡ true → content_at c2 r ≡ None → has v.locks.locked r ≡ true

-- the copies stand in place of what a step made of the client's own
overwritten : (keep_write : Bool) (c : CacheState) (p : ℕ) (st : ClientStep) → Brings p st → (k : Client) → client_with c (client_after keep_write k (st ∷ [])) ≡ client_with c k
overwritten keep_write c p _ (Filled g b) k = refl
overwritten keep_write c p _ (Installed g x b) k = refl

brought_none : (v : ClientState) (p : ℕ) (st : ClientStep) (c1 c2 : CacheState) → IsClient v → Brings p st → DoesReferring v.copies p (st ∷ []) c1 → Does c1 [] c2 → Brought v p None st c1 c2
brought_none v p st c1 c2 is brings does next =
    let all : DoesReferring v.copies p (st ∷ []) c2 = refers_then v.copies c1 c2 p (st ∷ []) [] does next in
    record {
      first = [];
      goes = λ ops. refl;
      after = λ other more. ap (λ (k : Client). client_after v.copies.limits.keep_write k more) (all.becomes (record other { ask = NoAsk }) ∙ overwritten v.copies.limits.keep_write c2 p st brings (record other { ask = NoAsk }));
      says = λ more. quiet p st brings more;
      limits = all.limits;
      references = all.references;
      held = λ r n l. sym (ap (λ (k : Client). k.cache.held r) (all.becomes new_client)) ∙ (elsewhere v.copies.limits.keep_write p st brings (client_with v.copies new_client) r n).0;
      bare = λ r n e z.
          let held : (copy_at c2 r).held ≡ (copy_at v.copies r).held = sym (ap (λ (k : Client). k.cache.held r) (all.becomes new_client)) ∙ (elsewhere v.copies.limits.keep_write p st brings (client_with v.copies new_client) r n).0 in
          let bytes : content_at c2 r ≡ content_at v.copies r = sym (ap (λ (k : Client). k.cache.content r) (all.becomes new_client)) ∙ (elsewhere v.copies.limits.keep_write p st brings (client_with v.copies new_client) r n).1 in
          is.bare_locked r (sym (ap is_some held) ∙ e) (sym bytes ∙ z);
    }

brought_bare : (v : ClientState) (p q : ℕ) (st : ClientStep) (c1 c2 : CacheState) → IsClient v → Brings p st → has v.locks.locked q ≡ true → DoesReferring v.copies p (ChangeCache (MakeBare q) ∷ st ∷ []) c1 → Does c1 [] c2
    → Brought v p (Some q) st c1 c2
brought_bare v p q st c1 c2 is brings locked does next =
    let all : DoesReferring v.copies p (ChangeCache (MakeBare q) ∷ st ∷ []) c2 = refers_then v.copies c1 c2 p (ChangeCache (MakeBare q) ∷ st ∷ []) [] does next in
    record {
      first = ChangeCache (MakeBare q) ∷ [];
      goes = λ ops. rw locked refl;
      after = λ other more. ap (λ (k : Client). client_after v.copies.limits.keep_write k more)
          (all.becomes (record other { ask = NoAsk }) ∙ overwritten v.copies.limits.keep_write c2 p st brings (client_after v.copies.limits.keep_write (record other { ask = NoAsk }) (ChangeCache (MakeBare q) ∷ [])));
      says = λ more. quiet p st brings more ∙ rw locked refl;
      limits = all.limits;
      references = all.references;
      held = λ r n l. sym (ap (λ (k : Client). k.cache.held r) (all.becomes new_client)) ∙ (elsewhere v.copies.limits.keep_write p st brings (client_after v.copies.limits.keep_write (client_with v.copies new_client) (ChangeCache (MakeBare q) ∷ [])) r n).0;
      bare = λ r n e z. go r n e z (r == q) refl;
    }
  where
    all : DoesReferring v.copies p (ChangeCache (MakeBare q) ∷ st ∷ []) c2
    all = refers_then v.copies c1 c2 p (ChangeCache (MakeBare q) ∷ st ∷ []) [] does next

    go : (r : ℕ) → r ≢ p → is_some (copy_at c2 r).held ≡ true → content_at c2 r ≡ None → (b : Bool) → (r == q) ≡ b → has v.locks.locked r ≡ true
    go r n e z true t = let same : r ≡ q = grind (arith, nat_tests) in rw same locked
    go r n e z false t =
        let held : (copy_at c2 r).held ≡ (copy_at v.copies r).held = sym (ap (λ (k : Client). k.cache.held r) (all.becomes new_client)) ∙ (elsewhere v.copies.limits.keep_write p st brings (client_after v.copies.limits.keep_write (client_with v.copies new_client) (ChangeCache (MakeBare q) ∷ [])) r n).0 in
        let bytes : content_at c2 r ≡ update (λ (x : ℕ). content_at v.copies x) q None r = sym (ap (λ (k : Client). k.cache.content r) (all.becomes new_client)) ∙ (elsewhere v.copies.limits.keep_write p st brings (client_after v.copies.limits.keep_write (client_with v.copies new_client) (ChangeCache (MakeBare q) ∷ [])) r n).1 in
        let kept_bytes : update (λ (x : ℕ). content_at v.copies x) q None r ≡ content_at v.copies r = rw t refl in
        is.bare_locked r (sym (ap is_some held) ∙ e) (sym (bytes ∙ kept_bytes) ∙ z)

brought_back : (v : ClientState) (p q h : ℕ) (st : ClientStep) (c1 c2 : CacheState) → IsClient v → Brings p st → q ≢ p → has v.locks.locked q ≡ false → (copy_at v.copies q).held ≡ Some h
    → DoesReferring v.copies p (ChangeCache (MakeBare q) ∷ st ∷ []) c1 → Does c1 (after_gone c1 v.locks (Some q)) c2 → Brought v p (Some q) st c1 c2
brought_back v p q h st c1 c2 is brings other unlocked held does next = record {
  first = ChangeCache (LetGo q) ∷ Say (GiveBack q h) ∷ [];
  goes = λ ops. rw (unlocked, held) refl;
  after = λ k more. ap (λ (l : Client). client_after v.copies.limits.keep_write l more)
      (becomes (record k { ask = NoAsk }) ∙ overwritten v.copies.limits.keep_write c2 p st brings (client_after v.copies.limits.keep_write (record k { ask = NoAsk }) (ChangeCache (LetGo q) ∷ [])));
  says = λ more. ap (λ (s : List Body). GiveBack q h ∷ s) (quiet p st brings more) ∙ rw (unlocked, still) refl;
  limits = all.limits;
  references = all.references;
  held = λ r n l. held_at r n ∙ kept_at r (apart r l);
  bare = λ r n e z. go r n e z (r == q) refl;
}
  where
    still : (copy_at c1 q).held ≡ Some h
    still = sym (ap (λ (k : Client). k.cache.held q) (does.becomes new_client)) ∙ (elsewhere v.copies.limits.keep_write p st brings (client_after v.copies.limits.keep_write (client_with v.copies new_client) (ChangeCache (MakeBare q) ∷ [])) q other).0 ∙ held

    last : Does c1 (ChangeCache (LetGo q) ∷ []) c2
    last = subst (λ (r : Option ℕ). Does c1 (gone_steps false q r) c2) still (subst (λ (b : Bool). Does c1 (gone_steps b q (copy_at c1 q).held) c2) unlocked next)

    all : DoesReferring v.copies p (ChangeCache (MakeBare q) ∷ st ∷ ChangeCache (LetGo q) ∷ []) c2
    all = refers_then v.copies c1 c2 p (ChangeCache (MakeBare q) ∷ st ∷ []) (ChangeCache (LetGo q) ∷ []) does last

    becomes : (k : Client) → client_after v.copies.limits.keep_write (client_with v.copies k) (ChangeCache (LetGo q) ∷ st ∷ []) ≡ client_with c2 (client_after v.copies.limits.keep_write k (ChangeCache (LetGo q) ∷ st ∷ []))
    becomes k = sym (goes_before v.copies.limits.keep_write (client_with v.copies k) q p st other brings) ∙ all.becomes k ∙ ap (client_with c2) (goes_before v.copies.limits.keep_write k q p st other brings)

    held_at : (r : ℕ) → r ≢ p → (copy_at c2 r).held ≡ update (λ (x : ℕ). (copy_at v.copies x).held) q None r
    held_at r n = sym (ap (λ (k : Client). k.cache.held r) (becomes new_client)) ∙ (elsewhere v.copies.limits.keep_write p st brings (client_after v.copies.limits.keep_write (client_with v.copies new_client) (ChangeCache (LetGo q) ∷ [])) r n).0

    bytes_at : (r : ℕ) → r ≢ p → content_at c2 r ≡ update (λ (x : ℕ). content_at v.copies x) q None r
    bytes_at r n = sym (ap (λ (k : Client). k.cache.content r) (becomes new_client)) ∙ (elsewhere v.copies.limits.keep_write p st brings (client_after v.copies.limits.keep_write (client_with v.copies new_client) (ChangeCache (LetGo q) ∷ [])) r n).1

    apart : (r : ℕ) → has v.locks.locked r ≡ true → (r == q) ≡ false
    apart r l = by (r == q) refl
      where
        by : (b : Bool) → (r == q) ≡ b → b ≡ false
        by false t = refl
        by true t = absurd (true≢false (let same : r ≡ q = grind (arith, nat_tests) in sym l ∙ ap (λ (x : ℕ). has v.locks.locked x) same ∙ unlocked))

    kept_at : (r : ℕ) → (r == q) ≡ false → update (λ (x : ℕ). (copy_at v.copies x).held) q None r ≡ (copy_at v.copies r).held
    kept_at r t = rw t refl

    go : (r : ℕ) → r ≢ p → is_some (copy_at c2 r).held ≡ true → content_at c2 r ≡ None → (b : Bool) → (r == q) ≡ b → has v.locks.locked r ≡ true
    go r n e z true t = let none : update (λ (x : ℕ). (copy_at v.copies x).held) q None r ≡ None = rw t refl in absurd (true≢false (sym e ∙ ap is_some (held_at r n ∙ none)))
    go r n e z false t =
        let kept_bytes : update (λ (x : ℕ). content_at v.copies x) q None r ≡ content_at v.copies r = rw t refl in
        is.bare_locked r (sym (ap is_some (held_at r n ∙ kept_at r t)) ∙ e) (sym (bytes_at r n ∙ kept_bytes) ∙ z)

brought : (v : ClientState) (p : ℕ) (gone : Option ℕ) (st : ClientStep) (c1 c2 : CacheState) → IsClient v → Brings p st → IfSome gone (IsGone v p) → DoesReferring v.copies p (lose_bytes gone ++ st ∷ []) c1 → Does c1 (after_gone c1 v.locks gone) c2
    → Brought v p gone st c1 c2
brought v p None st c1 c2 is brings facts does next = brought_none v p st c1 c2 is brings does next
brought v p (Some q) st c1 c2 is brings facts does next = by (has v.locks.locked q) refl (copy_at v.copies q).held refl
  where
    by : (b : Bool) → has v.locks.locked q ≡ b → (r : Option ℕ) → (copy_at v.copies q).held ≡ r → Brought v p (Some q) st c1 c2
    by true l r h = brought_bare v p q st c1 c2 is brings l does (subst (λ (b : Bool). Does c1 (gone_steps b q (copy_at c1 q).held) c2) l next)
    by false l None h = absurd (facts.held h)
    by false l (Some g) h = brought_back v p q g st c1 c2 is brings facts.other l h does next

-- what the pool's law says of the page that goes
pub gone_facts : (v : ClientState) (is : IsClient v) (p : ℕ) (gone : Option ℕ) (st : ClientStep) (c1 : CacheState) → content_at v.copies p ≡ None → BringsIn v.copies p st gone c1 → IfSome gone (IsGone v p)
gone_facts v is p None st c1 bare b = tt
gone_facts v is p (Some q) st c1 bare b = is_gone v is p q (b.by_law bare (locks_with v.locks (base_of v is.reached.operations)))

-- so the page that goes may be let go
pub gone_page : (v : ClientState) (is : IsClient v) (p : ℕ) (gone : Option ℕ) (st : ClientStep) (c1 : CacheState) → content_at v.copies p ≡ None → BringsIn v.copies p st gone c1 → IfSome gone (λ q. q < c1.limits.pages)
gone_page v is p None st c1 bare b = tt
gone_page v is p (Some q) st c1 bare b = let f = (is_gone v is p q (b.by_law bare (locks_with v.locks (base_of v is.reached.operations)))).within in rw b.does.limits f

pub gone_unwritten : (v : ClientState) (is : IsClient v) (p : ℕ) (gone : Option ℕ) (st : ClientStep) (c1 : CacheState) → Brings p st → content_at v.copies p ≡ None → BringsIn v.copies p st gone c1 → IfSome gone (λ q. has c1.wrote q ≡ false)
gone_unwritten v is p None st c1 brings bare b = tt
gone_unwritten v is p (Some q) st c1 brings bare b =
    sym (ap (λ (k : Client). k.cache.wrote q) (b.does.becomes new_client)) ∙ same v.copies.limits.keep_write st brings (client_after v.copies.limits.keep_write (client_with v.copies new_client) (ChangeCache (MakeBare q) ∷ []))
    ∙ (is_gone v is p q (b.by_law bare (locks_with v.locks (base_of v is.reached.operations)))).unwritten
  where
    same : (keep_write : Bool) (st : ClientStep) → Brings p st → (k : Client) → (client_after keep_write k (st ∷ [])).cache.wrote q ≡ k.cache.wrote q
    same keep_write _ (Filled g b) k = refl
    same keep_write _ (Installed g x b) k = refl

self_eq : (n : ℕ) → (n == n) ≡ true
self_eq n = grind (arith, nat_tests)

filled_table : (v : ClientState) (p g x : ℕ) (b : Bytes) (gone : Option ℕ) → IsFilled v p g x → (ops : List Operation)
    → take_granted (client_of v ops) p g x b gone (copy_at v.copies p).held ≡ let_page_go (client_of v ops) gone ++ SetAsk NoAsk ∷ ChangeCache (Fill p g b) ∷ []
filled_table v p g x b went f ops = rw (f.held, self_eq g, f.bare, f.version, f.asked) refl

installed_table : (v : ClientState) (p g x : ℕ) (b : Bytes) (gone : Option ℕ) → IsInstalled v p g → (ops : List Operation)
    → take_granted (client_of v ops) p g x b gone (copy_at v.copies p).held ≡ let_page_go (client_of v ops) gone ++ SetAsk NoAsk ∷ ChangeCache (Install p g x b) ∷ ChangeCache (Lock p) ∷ []
installed_table v p g x b went f ops = rw (f.none_held, f.new, f.asked) refl

pub none_here : (v : ClientState) (is : IsClient v) (p : ℕ) → (copy_at v.copies p).held ≡ None → content_at v.copies p ≡ None
none_here v is p h = by (content_at v.copies p) refl
  where
    by : (o : Option Bytes) → content_at v.copies p ≡ o → o ≡ None
    by None e = refl
    by (Some b) e = absurd ((kept v is).content_held p (λ z. absurd (let y : Some b ≡ None = sym e ∙ z in cc)) h)

-- bytes that come leave the grant held
filled_held : (v : ClientState) (p g : ℕ) (b : Bytes) (gone : Option ℕ) → IsClient v → IfSome gone (IsGone v p) → (first : List ClientStep) → let_page_go (client_of v []) gone ≡ first
    → (client_after v.copies.limits.keep_write (client_with v.copies new_client) (first ++ SetAsk NoAsk ∷ ChangeCache (Fill p g b) ∷ [])).cache.held p ≡ (copy_at v.copies p).held
filled_held v p g b gone is facts first e = subst (λ (s : List ClientStep). (client_after v.copies.limits.keep_write (client_with v.copies new_client) (s ++ SetAsk NoAsk ∷ ChangeCache (Fill p g b) ∷ [])).cache.held p ≡ (copy_at v.copies p).held) e (by gone facts)
  where
    by : (o : Option ℕ) → IfSome o (IsGone v p) → (client_after v.copies.limits.keep_write (client_with v.copies new_client) (let_page_go (client_of v []) o ++ SetAsk NoAsk ∷ ChangeCache (Fill p g b) ∷ [])).cache.held p ≡ (copy_at v.copies p).held
    by None f = refl
    by (Some q) f = go (has v.locks.locked q) (copy_at v.copies q).held
      where
        other : q ≢ p
        other = f.other

        apart : (p == q) ≡ false
        apart = grind (arith, nat_tests)

        go : (l : Bool) (r : Option ℕ) → (client_after v.copies.limits.keep_write (client_with v.copies new_client) ((if l then ChangeCache (MakeBare q) ∷ [] else Rattle.cb_protocol.specs.ClientEnd.give_back q r) ++ SetAsk NoAsk ∷ ChangeCache (Fill p g b) ∷ [])).cache.held p ≡ (copy_at v.copies p).held
        go true r = refl
        go false None = refl
        go false (Some h) = rw apart refl

-- the case that each is
filled_case : (v : ClientState) (p g x : ℕ) → IsFilled v p g x → case_at v p g x ≡ cases.Filled
filled_case v p g x f = rw (f.held, self_eq g, f.bare, f.version, f.asked) refl

installed_case : (v : ClientState) (p g x : ℕ) → IsInstalled v p g → case_at v p g x ≡ cases.Installed
installed_case v p g x f = rw (f.none_held, f.new, f.asked) refl

-- the copies once bytes came for a bare grant
pub fills : (v : ClientState) (p g x : ℕ) (b : Bytes) (gone : Option ℕ) (c1 c2 : CacheState) (frame : Option Frame) → IsClient v → v.welcomed ≡ true → IsFilled v p g x → BringsIn v.copies p (ChangeCache (Fill p g b)) gone c1
    → Does c1 (after_gone c1 v.locks gone) c2 → messages_of (option_to_list frame) ≡ all_sent_by v.locks (said_of_gone c1 v.locks gone)
    → Takes v (Granted p g x b) (messages_of (option_to_list frame)) (record v { copies = c2; ask = asks.Nothing })
fills v p g x b gone c1 c2 frame is welcomed f br next says =
    let t = brought v p gone (ChangeCache (Fill p g b)) c1 c2 is (Filled g b) (gone_facts v is p gone (ChangeCache (Fill p g b)) c1 f.bare br) br.does next in
    takes_granted v (record v { copies = c2; ask = asks.Nothing }) p g x b gone (t.first ++ SetAsk NoAsk ∷ ChangeCache (Fill p g b) ∷ []) (messages_of (option_to_list frame)) welcomed
    (λ ops. filled_table v p g x b gone f ops ∙ ap (λ (s : List ClientStep). s ++ SetAsk NoAsk ∷ ChangeCache (Fill p g b) ∷ []) (t.goes ops))
    (λ ops e. br.by_law f.bare (locks_with v.locks (base_of v ops)))
    (ap (messages_from v) (t.says [] ∙ append-nil (said_of_gone c1 v.locks gone)) ∙ same_sender v is (said_of_gone c1 v.locks gone) ∙ sym says)
    (λ ops. t.after (locks_with v.locks (base_of v ops)) []) t.limits refl refl (rw (welcomed, filled_case v p g x f) t.references)

pub fills_keeps : (v : ClientState) (p g x : ℕ) (b : Bytes) (gone : Option ℕ) (c1 c2 : CacheState) (frame : Option Frame) → IsClient v → v.welcomed ≡ true → BodyFits (limits_at v) (Granted p g x b) → IsFilled v p g x → BringsIn v.copies p (ChangeCache (Fill p g b)) gone c1
    → Does c1 (after_gone c1 v.locks gone) c2 → messages_of (option_to_list frame) ≡ all_sent_by v.locks (said_of_gone c1 v.locks gone) → IsClient (record v { copies = c2; ask = asks.Nothing })
fills_keeps v p g x b gone c1 c2 frame is welcomed fits f br next says = record {
  no = rw t.limits is.no;
  incarnation = is.incarnation;
  locked = is.locked ∙ ap (λ (l : Bounds). l.pages) (sym t.limits);
  dues = is.dues ∙ ap (λ (l : Bounds). l.pages) (sym t.limits);
  same_client = is.same_client;
  same_incarnation = is.same_incarnation;
  same_txn = is.same_txn;
  due_held = λ r. due r (has v.locks.locked r) refl;
  due_locked = is.due_locked;
  bare_locked = λ r e z. bare r e z (r == p) refl;
  room = λ r e other. absurd cc;
  reached = takes_reach v (record v { copies = c2; ask = asks.Nothing }) (Granted p g x b) (fills v p g x b gone c1 c2 frame is welcomed f br next says) fits is.reached;
}
  where
    t : Brought v p gone (ChangeCache (Fill p g b)) c1 c2
    t = brought v p gone (ChangeCache (Fill p g b)) c1 c2 is (Filled g b) (gone_facts v is p gone (ChangeCache (Fill p g b)) c1 f.bare br) br.does next

    locked_p : has v.locks.locked p ≡ true
    locked_p = is.bare_locked p (ap is_some f.held) f.bare

    held_p : (copy_at c2 p).held ≡ (copy_at v.copies p).held
    held_p = sym (ap (λ (k : Client). k.cache.held p) (t.after new_client [])) ∙ filled_held v p g b gone is (gone_facts v is p gone (ChangeCache (Fill p g b)) c1 f.bare br) t.first (t.goes [])

    held_same : (r : ℕ) → has v.locks.locked r ≡ true → (copy_at c2 r).held ≡ (copy_at v.copies r).held
    held_same r l = by (r == p) refl
      where
        by : (c : Bool) → (r == p) ≡ c → (copy_at c2 r).held ≡ (copy_at v.copies r).held
        by false e = t.held r (λ z. absurd (true≢false (sym (self_eq p) ∙ ap (λ (y : ℕ). y == p) (sym z) ∙ e))) l
        by true e = let same : r ≡ p = grind (arith, nat_tests) in rw same held_p

    due : (r : ℕ) (l : Bool) → has v.locks.locked r ≡ l → IfSome (called_by (due_at v.locks r)) (λ called. (copy_at c2 r).held ≡ Some called.0)
    due r true l = rw (held_same r l) (is.due_held r)
    due r false l = rw (none_due v is r l) tt

    bare : (r : ℕ) → is_some (copy_at c2 r).held ≡ true → content_at c2 r ≡ None → (c : Bool) → (r == p) ≡ c → has v.locks.locked r ≡ true
    bare r e z true s = let same : r ≡ p = grind (arith, nat_tests) in rw same locked_p
    bare r e z false s = t.bare r (λ y. absurd (true≢false (sym (self_eq p) ∙ ap (λ (w : ℕ). w == p) (sym y) ∙ s))) e z

-- the page is locked
locks_page : (v : ClientState) (c2 : CacheState) (p : ℕ) → p < length v.locks.locked → (ops : List Operation)
    → client_after v.copies.limits.keep_write (client_with c2 (record (locks_with v.locks (base_of v ops)) { ask = NoAsk })) (ChangeCache (Lock p) ∷ [])
    ≡ client_of (record v { copies = c2; ask = asks.Nothing; locks = record v.locks { locked = slice_set v.locks.locked p true } }) ops
locks_page v c2 p lt ops = λ i. record (client_with c2 (record (locks_with v.locks (base_of v ops)) { ask = NoAsk })) {
  cache = record (client_with c2 (record (locks_with v.locks (base_of v ops)) { ask = NoAsk })).cache { locked = λ q. put_entry false v.locks.locked p q true lt i };
}

-- the copies once a new copy came
pub installs : (v : ClientState) (p g x : ℕ) (b : Bytes) (gone : Option ℕ) (c1 c2 : CacheState) (frame : Option Frame) → IsClient v → v.welcomed ≡ true → BodyFits (limits_at v) (Granted p g x b) → IsInstalled v p g → BringsIn v.copies p (ChangeCache (Install p g x b)) gone c1
    → Does c1 (after_gone c1 v.locks gone) c2 → messages_of (option_to_list frame) ≡ all_sent_by v.locks (said_of_gone c1 v.locks gone)
    → Takes v (Granted p g x b) (messages_of (option_to_list frame)) (record v { copies = c2; ask = asks.Nothing; locks = record v.locks { locked = slice_set v.locks.locked p true } })
installs v p g x b gone c1 c2 frame is welcomed fits f br next says =
    let none = none_here v is p f.none_held in
    let t = brought v p gone (ChangeCache (Install p g x b)) c1 c2 is (Installed g x b) (gone_facts v is p gone (ChangeCache (Install p g x b)) c1 none br) br.does next in
    takes_granted v (record v { copies = c2; ask = asks.Nothing; locks = record v.locks { locked = slice_set v.locks.locked p true } }) p g x b gone (t.first ++ SetAsk NoAsk ∷ ChangeCache (Install p g x b) ∷ ChangeCache (Lock p) ∷ []) (messages_of (option_to_list frame)) welcomed
    (λ ops. installed_table v p g x b gone f ops ∙ ap (λ (s : List ClientStep). s ++ SetAsk NoAsk ∷ ChangeCache (Install p g x b) ∷ ChangeCache (Lock p) ∷ []) (t.goes ops))
    (λ ops e. br.by_law none (locks_with v.locks (base_of v ops)))
    (ap (messages_from v) (t.says (ChangeCache (Lock p) ∷ []) ∙ append-nil (said_of_gone c1 v.locks gone)) ∙ same_sender v is (said_of_gone c1 v.locks gone) ∙ sym says)
    (λ ops. t.after (locks_with v.locks (base_of v ops)) (ChangeCache (Lock p) ∷ []) ∙ locks_page v c2 p (let l = is.locked in let w = fits.0 in omega arith) ops) t.limits refl refl (rw (welcomed, installed_case v p g x f) t.references)

pub installs_keeps : (v : ClientState) (p g x : ℕ) (b : Bytes) (gone : Option ℕ) (c1 c2 : CacheState) (frame : Option Frame) → IsClient v → v.welcomed ≡ true → BodyFits (limits_at v) (Granted p g x b) → IsInstalled v p g → BringsIn v.copies p (ChangeCache (Install p g x b)) gone c1
    → Does c1 (after_gone c1 v.locks gone) c2 → messages_of (option_to_list frame) ≡ all_sent_by v.locks (said_of_gone c1 v.locks gone)
    → IsClient (record v { copies = c2; ask = asks.Nothing; locks = record v.locks { locked = slice_set v.locks.locked p true } })
installs_keeps v p g x b gone c1 c2 frame is welcomed fits f br next says = record {
  no = rw t.limits is.no;
  incarnation = is.incarnation;
  locked = length-set v.locks.locked p true ∙ is.locked ∙ ap (λ (l : Bounds). l.pages) (sym t.limits);
  dues = is.dues ∙ ap (λ (l : Bounds). l.pages) (sym t.limits);
  same_client = is.same_client;
  same_incarnation = is.same_incarnation;
  same_txn = is.same_txn;
  due_held = λ r. due r (has v.locks.locked r) refl;
  due_locked = λ r e. stays r (is.due_locked r e);
  bare_locked = λ r e z. bare r e z (r == p) refl;
  room = λ r e other. absurd cc;
  reached = takes_reach v (record v { copies = c2; ask = asks.Nothing; locks = record v.locks { locked = slice_set v.locks.locked p true } }) (Granted p g x b) (installs v p g x b gone c1 c2 frame is welcomed fits f br next says) fits is.reached;
}
  where
    t : Brought v p gone (ChangeCache (Install p g x b)) c1 c2
    t = brought v p gone (ChangeCache (Install p g x b)) c1 c2 is (Installed g x b) (gone_facts v is p gone (ChangeCache (Install p g x b)) c1 (none_here v is p f.none_held) br) br.does next

    below : p < length v.locks.locked
    below = let l = is.locked in let w = fits.0 in omega arith

    locked_now : (r : ℕ) → has (slice_set v.locks.locked p true) r ≡ update (λ (y : ℕ). has v.locks.locked y) p true r
    locked_now r = sym (put_entry false v.locks.locked p r true below)

    stays : (r : ℕ) → has v.locks.locked r ≡ true → has (slice_set v.locks.locked p true) r ≡ true
    stays r l = locked_now r ∙ by (r == p)
      where
        by : (c : Bool) → (if c then true else has v.locks.locked r) ≡ true
        by true = refl
        by false = l

    unlocked_p : has v.locks.locked p ≡ false
    unlocked_p = by (has v.locks.locked p) refl
      where
        by : (c : Bool) → has v.locks.locked p ≡ c → c ≡ false
        by false e = refl
        by true e = absurd ((kept v is).locked_held p e f.none_held)

    apart : (r : ℕ) → has v.locks.locked r ≡ true → r ≢ p
    apart r l z = true≢false (sym l ∙ ap (λ (y : ℕ). has v.locks.locked y) z ∙ unlocked_p)

    due : (r : ℕ) (l : Bool) → has v.locks.locked r ≡ l → IfSome (called_by (due_at v.locks r)) (λ called. (copy_at c2 r).held ≡ Some called.0)
    due r true l = rw (t.held r (apart r l) l) (is.due_held r)
    due r false l = rw (none_due v is r l) tt

    bare : (r : ℕ) → is_some (copy_at c2 r).held ≡ true → content_at c2 r ≡ None → (c : Bool) → (r == p) ≡ c → has (slice_set v.locks.locked p true) r ≡ true
    bare r e z true s = locked_now r ∙ rw s refl
    bare r e z false s = stays r (t.bare r (λ y. absurd (true≢false (sym (self_eq p) ∙ ap (λ (w : ℕ). w == p) (sym y) ∙ s))) e z)

-- What each client was told last was sent to it, and each Commit that it sent is accounted for; so what it was told is true over all lives.
use Rattle.std.proofs.Common.{Bool, List, None, Option, Some, [], ap, arith, false, if◌then◌else◌, inl, inr, refl, subst, sym, true, ℕ, ◌-◌, ◌∙◌, ◌∷◌, ◌≡◌, ◌≤◌, ◌⊎◌}
use Rattle.std.specs.Prelude.{⊤}
use Rattle.cb_protocol.proofs.ClientInvariant.{only_again, says_same}
use Rattle.cb_protocol.proofs.Machine.{ServerMaySend}
use Rattle.cb_protocol.proofs.ServerOrder.{ServerStepsMay}
use Rattle.cb_protocol.specs.Answers.{ClientFault}
use Rattle.cb_protocol.specs.Basics.{IsIn, Limits}
use Rattle.cb_protocol.specs.Cache.{Cache, CacheChange, Committing, Idle, Open, cache_after}
use Rattle.cb_protocol.specs.Client.{Aborted, ChangeCache, Client, ClientStep, Committed, Dropped, EndTransaction, LastOutcome, MarkDue, MarkDueDowngrade, MarkWanted, NoneEnded, Say, SetAsk, after_client_step, bodies_said, client_after}
use Rattle.cb_protocol.specs.ClientAlone.{ClientInput, ReceivesCall, ReceivesMessage}
use Rattle.cb_protocol.specs.ClientCalls.{Call, CallAgain, CallBegin, CallDrop, CallFinish, CallHello, CallPeek, CallRead, CallWant, CallWrite, accept_or_refuse, accept_call, call_fault, causes, client_again, client_call, first_refusal}
use Rattle.cb_protocol.specs.ClientMessages.{client_take, take_welcomed}
use Rattle.cb_protocol.specs.Messages.{Body, Commit, Done, Message, Welcome}
use Rattle.cb_protocol.specs.Messages.{AbortNow}
use Rattle.cb_protocol.specs.Server.{Send, Server, ServerStep, after_server_step}
use Rattle.cb_protocol.specs.Session.{Session, Store}
use Rattle.cb_protocol.specs.World.{messages_said, messages_sent}
use Rattle.cb_laws.proofs.OutcomesNamed.{Begins, CommitsSaid, Current, EndsAs, Finishes, Stays}
use Rattle.cb_laws.proofs.OutcomesNamed.{Turned, last_began, last_busy, last_finished, last_idle}
use Rattle.cb_laws.proofs.OutcomesNamed.{last_same}
use Rattle.cb_laws.specs.Outcomes.{EndsSo, last_ended}

-- what came of a transaction of which a Commit was sent: it is committing, or it ended; and if it was the last that did, then as committed
abbrev pub Asked : Client → ℕ → Type 0
Asked k t = (1 ≤ t) × (Current k t ⊎ ((t ≤ last_ended k) × (t ≡ last_ended k → (n : ℕ) × (k.last_outcome ≡ Committed n))))

-- the account of a client; `Sent b`: a packet of its incarnation with that body was sent
pub record Account (Sent : Body → Type 0) (k : Client) : Type 0 where
  pub busy : (k.cache.status ≡ Idle → ⊥) → (1 ≤ k.cache.number) × (k.cache.welcomed ≡ true)
  pub told : (n : ℕ) → k.last_outcome ≡ Committed n → Sent (Done (last_ended k) n)
  pub said : (t : ℕ) (ws : _) → Sent (Commit t ws) → Asked k t
  pub welcomed : k.cache.welcomed ≡ true → Sent Welcome
  pub nothing : (k.last_outcome ≡ NoneEnded → last_ended k ≡ 0) × (last_ended k ≡ 0 → k.last_outcome ≡ NoneEnded)

pub account_more : (Sent Sent' : Body → Type 0) (k : Client) → ((b : Body) → Sent b → Sent' b) → ((t : ℕ) (ws : _) → Sent' (Commit t ws) → Sent (Commit t ws)) → Account Sent k → Account Sent' k
account_more Sent Sent' k f g h = record { busy = h.busy; told = λ n e. f _ (h.told n e); said = λ t ws i. h.said t ws (g t ws i); welcomed = λ e. f Welcome (h.welcomed e); nothing = h.nothing }

-- an ending needs a transaction
pub ends_busy : (k : Client) (i : ClientInput) (o : LastOutcome) → EndsSo k i o → k.cache.status ≡ Idle → ⊥
ends_busy k (ReceivesMessage (Done t n) let_go) (Committed m) a e = let b = a.1 in let z : Idle ≡ Committing = sym e ∙ b in absurd cc
ends_busy k (ReceivesMessage (AbortNow t) let_go) o a e = busy o a e
  where
    busy : (o : LastOutcome) → EndsSo k (ReceivesMessage (AbortNow t) let_go) o → k.cache.status ≡ Idle → ⊥
    busy o a e = grind (arith, a, e)
ends_busy k (ReceivesCall CallDrop) o a e = grind (arith, a, e)
ends_busy k i o a e = absurd a

-- what came, where it ends a transaction as committed
abbrev pub CameAs : (Body → Type 0) → ClientInput → Type 0
CameAs Sent (ReceivesMessage y let_go) = Sent y
CameAs Sent (ReceivesCall c) = ⊤

-- then that Done was sent
done_came : (Sent : Body → Type 0) (k : Client) (i : ClientInput) (n : ℕ) → CameAs Sent i → EndsSo k i (Committed n) → Sent (Done k.cache.number n)
done_came Sent k (ReceivesMessage (Done t m) let_go) n c a = subst (λ (x : ℕ). Sent (Done x n)) a.2 (subst (λ (x : ℕ). Sent (Done t x)) (sym a.3) c)
done_came Sent k (ReceivesCall CallDrop) n c a = absurd a
done_came Sent k i n c a = absurd a

-- a committing transaction ends as committed
committing_ends : (k : Client) (i : ClientInput) (o : LastOutcome) → k.cache.status ≡ Committing → EndsSo k i o → (n : ℕ) × (o ≡ Committed n)
committing_ends k (ReceivesMessage (Done t m) let_go) (Committed n) e a = (n, refl)
committing_ends k (ReceivesMessage (AbortNow t) let_go) Aborted e a = let b = a.1 in let z : Committing ≡ Open = sym e ∙ b in absurd cc
committing_ends k (ReceivesCall CallDrop) Dropped e a = let b = a.1 in let z : Committing ≡ Open = sym e ∙ b in absurd cc
committing_ends k i o e a = absurd a

asked_same : (k l : Client) (t : ℕ) → last_ended l ≡ last_ended k → l.last_outcome ≡ k.last_outcome → (Current k t → Current l t) → Asked k t → Asked l t
asked_same k l t e o f a = (
  a.0,
  elim a.1 [
    | inl c ↦ inl (f c)
    | inr b ↦ inr (let x = b.0 in omega (arith, x, e), λ q. (let r = b.1 (q ∙ e) in (r.0, o ∙ r.1)))
  ],
)

asked_ended : (k l : Client) (i : ClientInput) (o : LastOutcome) (t : ℕ) → 1 ≤ k.cache.number → EndsSo k i o → l.cache.number ≡ k.cache.number → l.cache.status ≡ Idle → l.last_outcome ≡ o → Asked k t → Asked l t
asked_ended k l i o t one x a b c q = (
  q.0,
  inr (elim q.1 [
    | inl z ↦ (let y = z.0 in omega (arith, y, last), λ e. (let r = committing_ends k i o z.1 x in (r.0, c ∙ r.1)))
    | inr z ↦ (let y = z.0 in omega (arith, y, last, before), λ e. absurd (let y = z.0 in omega (arith, y, last, before, one, e)))
  ]),
)
  where
    last : last_ended l ≡ k.cache.number
    last = last_idle l b ∙ a

    before : last_ended k ≡ k.cache.number - 1
    before = last_busy k (ends_busy k i o x)

-- an ending is told
ends_told : (k : Client) (i : ClientInput) → EndsSo k i NoneEnded → ⊥
ends_told k (ReceivesMessage (Done t n) let_go) x = x
ends_told k (ReceivesMessage (AbortNow t) let_go) x = x
ends_told k (ReceivesCall CallDrop) x = x
ends_told k i x = absurd x

nothing_same : (k l : Client) → last_ended l ≡ last_ended k → l.last_outcome ≡ k.last_outcome → (k.last_outcome ≡ NoneEnded → last_ended k ≡ 0) × (last_ended k ≡ 0 → k.last_outcome ≡ NoneEnded) → (l.last_outcome ≡ NoneEnded → last_ended l ≡ 0) × (last_ended l ≡ 0 → l.last_outcome ≡ NoneEnded)
nothing_same k l e o h = (λ x. e ∙ h.0 (sym o ∙ x), λ x. o ∙ h.1 (sym e ∙ x))

-- the account after an input
pub account_turned : (Sent Sent' : Body → Type 0) (k l : Client) (i : ClientInput) (steps : List ClientStep) → CameAs Sent i → ((b : Body) → Sent b → Sent' b) → ((t : ℕ) (ws : _) → Sent' (Commit t ws) → Sent (Commit t ws) ⊎ Current l t)
    → (k.cache.welcomed ≡ true → l.cache.welcomed ≡ true) → (l.cache.welcomed ≡ true → Sent' Welcome) → Account Sent k → Turned k i steps l → Account Sent' l
account_turned Sent Sent' k l i steps came f g rises wel h (Stays n s c) = record {
  busy = busy;
  told = λ m e. subst (λ (x : ℕ). Sent' (Done x m)) (sym (last_same k l s)) (f _ (h.told m (sym s.outcome ∙ e)));
  said = λ t ws j. elim (g t ws j) [
    | inl y ↦ asked_same k l t (last_same k l s) s.outcome (λ q. (q.0 ∙ sym s.number, s.status ∙ q.1)) (h.said t ws y)
    | inr y ↦ (let b = (busy (λ e. let z : Idle ≡ Committing = sym e ∙ y.1 in absurd cc)).0 in let q = y.0 in omega (arith, b, q), inl y)
  ];
  welcomed = wel;
  nothing = nothing_same k l (last_same k l s) s.outcome h.nothing;
}
  where
    busy : (l.cache.status ≡ Idle → ⊥) → (1 ≤ l.cache.number) × (l.cache.welcomed ≡ true)
    busy u = let b = h.busy (λ e. u (s.status ∙ e)) in (let x = b.0 in let y = s.number in omega (arith, x, y), rises b.1)
account_turned Sent Sent' k l i steps came f g rises wel h (Begins n w a b c d e) = record {
  busy = λ u. (omega (arith, b), rises w);
  told = λ m x. subst (λ (z : ℕ). Sent' (Done z m)) (sym (last_began k l a b c)) (f _ (h.told m (sym d ∙ x)));
  said = λ t ws j. elim (g t ws j) [
    | inl y ↦ asked_same k l t (last_began k l a b c) d (λ q. absurd (let z : Idle ≡ Committing = sym a ∙ q.1 in cc)) (h.said t ws y)
    | inr y ↦ absurd (let z : Open ≡ Committing = sym c ∙ y.1 in cc)
  ];
  welcomed = wel;
  nothing = nothing_same k l (last_began k l a b c) d h.nothing;
}
account_turned Sent Sent' k l i steps came f g rises wel h (Finishes n a b c d e) = record {
  busy = λ u. (let x = was.0 in omega (arith, x, b), rises was.1);
  told = λ m x. subst (λ (z : ℕ). Sent' (Done z m)) (sym (last_finished k l a b c)) (f _ (h.told m (sym d ∙ x)));
  said = λ t ws j. elim (g t ws j) [
    | inl y ↦ asked_same k l t (last_finished k l a b c) d (λ q. absurd (let z : Open ≡ Committing = sym a ∙ q.1 in cc)) (h.said t ws y)
    | inr y ↦ (let x = was.0 in let q = y.0 in omega (arith, x, q, b), inl y)
  ];
  welcomed = wel;
  nothing = nothing_same k l (last_finished k l a b c) d h.nothing;
}
  where
    was : (1 ≤ k.cache.number) × (k.cache.welcomed ≡ true)
    was = h.busy (λ e. let z : Open ≡ Idle = sym a ∙ e in absurd cc)
account_turned Sent Sent' k l i steps came f g rises wel h (EndsAs o x a b c d) = record {
  busy = λ u. absurd (u b);
  told = λ m e. subst (λ (z : ℕ). Sent' (Done z m)) (sym (last_idle l b ∙ a)) (f _ (done_came Sent k i m came (subst (λ (z : LastOutcome). EndsSo k i z) (sym c ∙ e) x)));
  said = λ t ws j. elim (g t ws j) [
    | inl y ↦ asked_ended k l i o t (h.busy (ends_busy k i o x)).0 x a b c (h.said t ws y)
    | inr y ↦ absurd (let z : Idle ≡ Committing = sym b ∙ y.1 in cc)
  ];
  welcomed = wel;
  nothing = (λ e. absurd (ends_told k i (subst (λ (z : LastOutcome). EndsSo k i z) (sym c ∙ e) x)), λ e. absurd (let y = last_idle l b in let z = (h.busy (ends_busy k i o x)).0 in omega (arith, y, z, a, e)));
}

-- who is welcomed stays so
welcome_change : (kw : Bool) (k : Cache) (m : CacheChange) → k.welcomed ≡ true → (cache_after kw k m).welcomed ≡ true
welcome_change kw k m e = grind (arith, e)

pub welcome_stays : (kw : Bool) (k : Client) (steps : List ClientStep) → k.cache.welcomed ≡ true → (client_after kw k steps).cache.welcomed ≡ true
welcome_stays kw k [] e = e
welcome_stays kw k (ChangeCache m ∷ steps) e = welcome_stays kw (after_client_step kw k (ChangeCache m)) steps (welcome_change kw k.cache m e)
welcome_stays kw k (Say b ∷ steps) e = welcome_stays kw k steps e
welcome_stays kw k (SetAsk x ∷ steps) e = welcome_stays kw (after_client_step kw k (SetAsk x)) steps e
welcome_stays kw k (MarkWanted p ∷ steps) e = welcome_stays kw (after_client_step kw k (MarkWanted p)) steps e
welcome_stays kw k (MarkDue p ∷ steps) e = welcome_stays kw (after_client_step kw k (MarkDue p)) steps e
welcome_stays kw k (MarkDueDowngrade p y ∷ steps) e = welcome_stays kw (after_client_step kw k (MarkDueDowngrade p y)) steps e
welcome_stays kw k (EndTransaction l ∷ steps) e = welcome_stays kw (after_client_step kw k (EndTransaction l)) steps e

-- a call that is accepted of a client that isn't welcomed changes nothing
accepted_welcome : (L : Limits) (k : Client) (c : Call) → first_refusal (causes L k c) ≡ None → (client_after L.keep_write k (accept_call L k c).steps).cache.welcomed ≡ true → k.cache.welcomed ≡ true
accepted_welcome L k CallHello f e = e
accepted_welcome L k CallBegin f e = grind arith
accepted_welcome L k (CallRead p) f e = grind arith
accepted_welcome L k (CallWant p) f e = grind arith
accepted_welcome L k (CallWrite p b) f e = grind arith
accepted_welcome L k CallFinish f e = grind arith
accepted_welcome L k CallDrop f e = grind arith
accepted_welcome L k CallAgain f e = subst (λ (l : Client). l.cache.welcomed ≡ true) (says_same L.keep_write k (client_again L k) (only_again L k)) e
accepted_welcome L k (CallPeek p) f e = e

pub call_welcome : (L : Limits) (k : Client) (c : Call) → (client_after L.keep_write k (client_call L k c).steps).cache.welcomed ≡ true → k.cache.welcomed ≡ true
unfolding call_fault client_call
call_welcome L k c e = go (first_refusal (causes L k c)) refl e
  where
    go : (f : Option ClientFault) → first_refusal (causes L k c) ≡ f → (client_after L.keep_write k (accept_or_refuse L k c f).steps).cache.welcomed ≡ true → k.cache.welcomed ≡ true
    go (Some y) f e = e
    go None f e = accepted_welcome L k c f e

-- at a message other than a Welcome
pub message_welcome : (L : Limits) (k : Client) (y : Body) (let_go : Option ℕ) → (client_after L.keep_write k (client_take L k y let_go)).cache.welcomed ≡ true → (k.cache.welcomed ≡ true) ⊎ (y ≡ Welcome)
unfolding client_take
message_welcome L k Welcome let_go e = inr refl
message_welcome L k y let_go e = go k.cache.welcomed refl e
  where
    go : (r : Bool) → k.cache.welcomed ≡ r → (client_after L.keep_write k (if r then take_welcomed L k y let_go else [])).cache.welcomed ≡ true → (k.cache.welcomed ≡ true) ⊎ (y ≡ Welcome)
    go true w e = inl w
    go false w e = inl e

-- the Commits that a client says
pub said_commit : (Q : ℕ → Type 0) (c i d j t : ℕ) (ws : _) (steps : List ClientStep) → CommitsSaid Q steps → IsIn (record { client = d; incarnation = j; body = Commit t ws }) (messages_said c i (bodies_said steps)) → (c ≡ d) × (i ≡ j) × Q t
said_commit Q c i d j t ws [] a k = absurd k
said_commit Q c i d j t ws (Say (Commit x ys) ∷ steps) a k = elim k [
  | inl e ↦ (ap (λ (m : Message). m.client) e, ap (λ (m : Message). m.incarnation) e, subst Q (ap number_of e) a.0)
  | inr l ↦ said_commit Q c i d j t ws steps a.1 l
]
  where
    number_of : Message → ℕ
    number_of m = elim m.body [ Commit y zs ↦ y | _ ↦ 0 ]
said_commit Q c i d j t ws (Say b ∷ steps) a k = elim k [
  | inl e ↦ absurd (let z : b ≡ Commit t ws = ap (λ (m : Message). m.body) e in cc)
  | inr l ↦ said_commit Q c i d j t ws steps a l
]
said_commit Q c i d j t ws (ChangeCache m ∷ steps) a k = said_commit Q c i d j t ws steps a k
said_commit Q c i d j t ws (SetAsk y ∷ steps) a k = said_commit Q c i d j t ws steps a k
said_commit Q c i d j t ws (MarkWanted p ∷ steps) a k = said_commit Q c i d j t ws steps a k
said_commit Q c i d j t ws (MarkDue p ∷ steps) a k = said_commit Q c i d j t ws steps a k
said_commit Q c i d j t ws (MarkDueDowngrade p y ∷ steps) a k = said_commit Q c i d j t ws steps a k
said_commit Q c i d j t ws (EndTransaction l ∷ steps) a k = said_commit Q c i d j t ws steps a k

-- the server says none
pub sent_no_commit : (Came : ℕ → ℕ → Body → Type 0) (s : Server) (ds : List ServerStep) (d j t : ℕ) (ws : _) → ServerStepsMay Came s ds → IsIn (record { client = d; incarnation = j; body = Commit t ws }) (messages_sent ds) → ⊥
sent_no_commit Came s [] d j t ws a k = k
sent_no_commit Came s (Send c i b ∷ ds) d j t ws a k = elim k [
  | inl e ↦ none s.store c (s.session c) i b (ap (λ (m : Message). m.body) e) a.0.1
  | inr l ↦ sent_no_commit Came s ds d j t ws a.1 l
]
  where
    none : (s : Store) (c : ℕ) (u : Session) (i : ℕ) (b : Body) → b ≡ Commit t ws → ServerMaySend s c u i b → ⊥
    none s c u i b e a = subst (λ (x : Body). ServerMaySend s c u i x) e a
sent_no_commit Came s (x ∷ ds) d j t ws a k = sent_no_commit Came (after_server_step s x) ds d j t ws a.1 k

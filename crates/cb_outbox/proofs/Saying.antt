-- Steps that send: what is appended, and one list of steps after another.
use Rattle.std.proofs.Common.{◌≡◌, ◌≢◌, ℕ, ◌<◌, ◌+◌, Bool, true, false, List, [], ◌∷◌, ◌++◌, suc, refl, sym, ap, ◌∙◌, if◌then◌else◌, add-one, length, ◌≤◌, arith}
use Rattle.std.proofs.lemmas.List.{append-nil, append_assoc, length-append}
use Rattle.cb_protocol.specs.Basics.{IsIn}
use Rattle.cb_protocol.specs.Deadlock.{ListedAreEnough, RisingWithin, settle_listed}
use Rattle.cb_protocol.specs.Numbers.{copies_sent}
use Rattle.cb_protocol.specs.Server.{DeadlockTest, Server, ServerStep, Send, server_after, after_server_step}
use Rattle.cb_protocol.specs.Settling.{Decision, Decided, Settled, decision_steps, wait_or_doom, doom_client, decide, settle_page, settle_pages}
use Rattle.cb_protocol.specs.ServerMessages.{and_then}
use Rattle.cb_protocol.specs.Messages.{Granted, Message}
use Rattle.cb_protocol.specs.World.{messages_sent}
use Rattle.cb_outbox.specs.Saying.{Decides, HasRoomFor, OutboxState, Says, goes_on}

pub sent_append : (xs ys : List ServerStep)
    → messages_sent (xs ++ ys) ≡ messages_sent xs ++ messages_sent ys
sent_append [] ys = refl
sent_append (Send c i b ∷ xs) ys =
    ap (λ ms. record { client = c; incarnation = i; body = b } ∷ ms) (sent_append xs ys)
sent_append (_ ∷ xs) ys = sent_append xs ys

pub copies_append : (xs ys : List ServerStep)
    → copies_sent (xs ++ ys) ≡ copies_sent xs + copies_sent ys
copies_append [] ys = omega arith
copies_append (Send c i (Granted p g v b) ∷ xs) ys = let rest = copies_append xs ys in omega (arith, rest)
copies_append (_ ∷ xs) ys = copies_append xs ys

pub after_append : (s : Server) (xs ys : List ServerStep)
    → server_after s (xs ++ ys) ≡ server_after (server_after s xs) ys
after_append s [] ys = refl
after_append s (x ∷ xs) ys = after_append (after_server_step s x) xs ys

-- one list of steps after another
pub says_then : (v w u : Server) (f g : Server → List ServerStep) (a b d : OutboxState)
    → Says v f w a b → Says w g u b d → Says v (λ s. and_then s (f s) g) u a d
says_then v w u f g a b d x y = record {
  becomes = y.becomes ∙ (ap (λ (s : Server). server_after s (g s)) x.becomes
      ∙ sym (after_append v (f v) (g (server_after v (f v)))));
  sends = y.sends ∙ (ap (λ (l : List Message). l ++ messages_sent (g w)) x.sends
      ∙ (append_assoc a.sent (messages_sent (f v)) (messages_sent (g w))
      ∙ ap (λ (l : List Message). a.sent ++ l)
      (ap (λ (s : Server). messages_sent (f v) ++ messages_sent (g s)) x.becomes
      ∙ sym (sent_append (f v) (g (server_after v (f v)))))));
  room = y.room ∙ x.room;
  spare =
      let more : copies_sent (f v ++ g (server_after v (f v))) ≡ copies_sent (f v) + copies_sent (g w) =
      copies_append (f v) (g (server_after v (f v)))
      ∙ ap (λ (s : Server). copies_sent (f v) + copies_sent (g s)) (sym x.becomes) in
      let one = x.spare in
      let two = y.spare in
      omega (arith, more, one, two);
  page_size = y.page_size ∙ x.page_size;
}

-- the same steps by another name
pub says_as : (v u : Server) (f g : Server → List ServerStep) (a b : OutboxState)
    → f v ≡ g v → Says v g u a b → Says v f u a b
says_as v u f g a b e x = record {
  becomes = x.becomes ∙ ap (λ (l : List ServerStep). server_after v l) (sym e);
  sends = x.sends ∙ ap (λ (l : List ServerStep). a.sent ++ messages_sent l) (sym e);
  room = x.room;
  spare = ap (λ (l : List ServerStep). b.spare + copies_sent l) e ∙ x.spare;
  page_size = x.page_size;
}

pub says_nothing : (v : Server) (a : OutboxState) → Says v (λ s. []) v a a
says_nothing v a = record {
  becomes = refl;
  sends = sym (append-nil a.sent);
  room = refl;
  spare = omega arith;
  page_size = refl;
}

pub decides_as : (v u : Server) (f g : Server → Decision) (b : Bool) (old new : OutboxState)
    → f v ≡ g v → Decides v g u b old new → Decides v f u b old new
decides_as v u f g b old new e x = record {
  says = says_as v u (λ s. decision_steps (f s)) (λ s. decision_steps (g s)) old new
      (ap decision_steps e) x.says;
  goes = ap goes_on e ∙ x.goes;
}

pub decided : (v u : Server) (f : Server → List ServerStep) (old new : OutboxState)
    → Says v f u old new → Decides v (λ s. Decided (f s)) u true old new
decided v u f old new x = record { says = x; goes = refl }

pub settled : (v u : Server) (f : Server → List ServerStep) (old new : OutboxState)
    → Says v f u old new → Decides v (λ s. Settled (f s)) u false old new
settled v u f old new x = record { says = x; goes = refl }

wait_steps : (t : Bool) (ds es : List ServerStep)
    → decision_steps (if t then Decided (ds ++ es) else Settled ds)
    ≡ ds ++ decision_steps (if t then Decided es else Settled [])
wait_steps true ds es = refl
wait_steps false ds es = sym (append-nil ds)

wait_goes : (t : Bool) (ds es : List ServerStep)
    → goes_on (if t then Decided (ds ++ es) else Settled ds)
    ≡ goes_on (if t then Decided es else Settled [])
wait_goes true ds es = refl
wait_goes false ds es = refl

-- steps, and then the test
pub then_wait : (cycle : DeadlockTest) (v w u : Server) (ds : Server → List ServerStep) (c : ℕ)
    (more : Bool) (a b d : OutboxState)
    → Says v ds w a b → Decides w (λ s. wait_or_doom cycle s c []) u more b d
    → Decides v (λ s. wait_or_doom cycle s c (ds s)) u more a d
then_wait cycle v w u ds c more a b d x y = record {
  says = says_as v u (λ s. decision_steps (wait_or_doom cycle s c (ds s)))
      (λ s. and_then s (ds s) (λ t. decision_steps (wait_or_doom cycle t c []))) a d
      (wait_steps (cycle (server_after v (ds v)) c) (ds v) (doom_client (server_after v (ds v)) c))
      (says_then v w u ds (λ t. decision_steps (wait_or_doom cycle t c [])) a b d x y.says);
  goes = wait_goes (cycle (server_after v (ds v)) c) (ds v) (doom_client (server_after v (ds v)) c)
      ∙ (ap (λ (s : Server). goes_on (wait_or_doom cycle s c [])) (sym x.becomes) ∙ y.goes);
}

-- settling goes on as the decision says
abbrev after_decision : DeadlockTest → ℕ → Server → ℕ → Decision → List ServerStep
after_decision cycle n s p (Settled ds) = ds
after_decision cycle n s p (Decided ds) = ds ++ settle_page cycle n (server_after s ds) p

stops : (cycle : DeadlockTest) (n : ℕ) (s : Server) (p : ℕ) (d : Decision) → goes_on d ≡ false
    → after_decision cycle n s p d ≡ decision_steps d
stops cycle n s p (Settled ds) e = refl
stops cycle n s p (Decided ds) e = cc

goes_further : (cycle : DeadlockTest) (n : ℕ) (s : Server) (p : ℕ) (d : Decision)
    → goes_on d ≡ true → after_decision cycle n s p d
    ≡ decision_steps d ++ settle_page cycle n (server_after s (decision_steps d)) p
goes_further cycle n s p (Settled ds) e = cc
goes_further cycle n s p (Decided ds) e = refl

-- the page is settled
pub settle_stop : (cycle : DeadlockTest) (v u : Server) (n p : ℕ) (a b : OutboxState)
    → Decides v (λ s. decide cycle s p (s.queue p)) u false a b
    → Says v (λ s. settle_page cycle (n + 1) s p) u a b
settle_stop cycle v u n p a b x = rw add-one (says_as v u (λ s. settle_page cycle (suc n) s p)
    (λ s. decision_steps (decide cycle s p (s.queue p))) a b
    (stops cycle n v p (decide cycle v p (v.queue p)) x.goes) x.says)

-- the next ask is looked at
pub settle_more : (cycle : DeadlockTest) (v w u : Server) (n p : ℕ) (a b d : OutboxState)
    → Decides v (λ s. decide cycle s p (s.queue p)) w true a b
    → Says w (λ s. settle_page cycle n s p) u b d
    → Says v (λ s. settle_page cycle (n + 1) s p) u a d
settle_more cycle v w u n p a b d x y = rw add-one (says_as v u (λ s. settle_page cycle (suc n) s p)
    (λ s. and_then s (decision_steps (decide cycle s p (s.queue p))) (λ t. settle_page cycle n t p))
    a d (goes_further cycle n v p (decide cycle v p (v.queue p)) x.goes)
    (says_then v w u (λ s. decision_steps (decide cycle s p (s.queue p)))
    (λ t. settle_page cycle n t p) a b d x.says y))

-- settling the listed pages, where all with asks are among them, is settling all
pub settles_all : ListedAreEnough → (cycle : DeadlockTest) (v u : Server) (ps : List ℕ)
    (a b : OutboxState) → RisingWithin 0 v.pages ps
    → ((p : ℕ) → p < v.pages → v.queue p ≢ [] → IsIn p ps)
    → Says v (λ s. settle_listed cycle s ps) u a b
    → Says v (λ s. settle_pages cycle s s.pages) u a b
settles_all law cycle v u ps a b r f x =
    says_as v u (λ s. settle_pages cycle s s.pages) (λ s. settle_listed cycle s ps) a b
    (sym (law cycle v v.pages ps r f)) x

-- room for two lists of steps
pub room_first : (xs ys : List ServerStep) (a : OutboxState)
    → HasRoomFor (xs ++ ys) a → HasRoomFor xs a
room_first xs ys a r = record {
  frames =
      let all = ap (λ (l : List Message). length l) (sent_append xs ys) ∙ length-append (messages_sent xs) (messages_sent ys) in
      let room = r.frames in
      omega (arith, all, room);
  copies = let all = copies_append xs ys in let spare = r.copies in omega (arith, all, spare);
}

pub room_after : (v u : Server) (f : Server → List ServerStep) (ys : List ServerStep) (a b : OutboxState)
    → HasRoomFor (f v ++ ys) a → Says v f u a b → HasRoomFor ys b
room_after v u f ys a b r x = record {
  frames =
      let all = ap (λ (l : List Message). length l) (sent_append (f v) ys) ∙ length-append (messages_sent (f v)) (messages_sent ys) in
      let now = ap (λ (l : List Message). length l) x.sends ∙ length-append a.sent (messages_sent (f v)) in
      let room = r.frames in
      let same = x.room in
      omega (arith, all, now, room, same);
  copies =
      let all = copies_append (f v) ys in
      let spare = r.copies in
      let left = x.spare in
      omega (arith, all, spare, left);
}

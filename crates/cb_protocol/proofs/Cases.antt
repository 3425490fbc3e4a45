-- The tables case by case, to cite in place of opening them: `client_call`, `client_take`, `server_take` and `step` are closed to other proofs.
use Rattle.std.proofs.Common.{Bool, List, None, Option, Some, [], arith, false, if◌then◌else◌, length, nat_le, nat_lt, not, refl, true, ℕ, ◌&&◌, ◌++◌, ◌<◌, ◌==◌, ◌∷◌, ◌≡◌, ◌≢◌}
use Rattle.cb_protocol.specs.Answers.{AnsweredOk, ClientFault, Committing, Exhausted, NoClient, NoTransaction, NotHere, NotRead, NotWelcome, NotWritable, PageRange, PoolFull, Refused, TransactionOpen, Waiting, WrongLength}
use Rattle.cb_protocol.specs.Basics.{Bytes, Limits, is_none, max_number}
use Rattle.cb_protocol.specs.Cache.{TakeWelcome, is_committing, is_idle}
use Rattle.cb_protocol.specs.Client.{ChangeCache, Client, ClientStep, EndTransaction, MarkDue, MarkDueDowngrade, MarkWanted, Say, SetAsk, after_client_step, bodies_said, client_after, has_room, is_asking}
use Rattle.cb_protocol.specs.ClientCalls.{Call, CallAgain, CallBegin, CallDrop, CallFinish, CallHello, CallPeek, CallRead, CallWant, CallWrite, accept_call, call_fault, client_call, reply_with}
use Rattle.cb_protocol.specs.ClientMessages.{client_take, take_welcomed}
use Rattle.cb_protocol.specs.Messages.{Body, Hello, Welcome}
use Rattle.cb_protocol.specs.Resend.{server_again}
use Rattle.cb_protocol.specs.Server.{DeadlockTest, ChangeSession, Doom, EnterQueue, ForgetTransaction, LeaveQueue, MarkCalledBack, MarkInUse, MarkDowngradeSent, RemoveAsk, Send, Server, ServerStep, SetFlushed, UnmarkInUse, after_server_step, server_after}
use Rattle.cb_protocol.specs.ServerMessages.{admit_incarnation, server_take, take_current}
use Rattle.cb_protocol.specs.World.{ClientCalls, FlushAll, FlushTo, Restart, ServerAgain, TakePacket, World, answer_only, client_does, flush_up_to, messages_sent, packet_at, restart_client, server_does, step, take_packet}

-- a refused call is answered by its fault, and the client does nothing
pub call_refused : (L : Limits) (k : Client) (c : Call) (f : ClientFault) → call_fault L k c ≡ Some f → client_call L k c ≡ reply_with (Refused f) []
unfolding client_call
call_refused L k c f e = rw e refl

-- a call without a fault is accepted
pub call_accepted : (L : Limits) (k : Client) (c : Call) → call_fault L k c ≡ None → client_call L k c ≡ accept_call L k c
unfolding client_call
call_accepted L k c e = rw e refl

-- the faults of each call, the lowest number first
pub fault_of_hello : (L : Limits) (k : Client) → call_fault L k CallHello ≡ None
unfolding call_fault
fault_of_hello L k = refl

pub fault_of_again : (L : Limits) (k : Client) → call_fault L k CallAgain ≡ None
unfolding call_fault
fault_of_again L k = refl

pub fault_of_peek : (L : Limits) (k : Client) (p : ℕ) → call_fault L k (CallPeek p) ≡ None
unfolding call_fault
fault_of_peek L k p = refl

pub fault_of_begin : (L : Limits) (k : Client)
    → call_fault L k CallBegin ≡ (if not k.cache.welcomed then Some NotWelcome else if not (is_idle k.cache.status) then Some TransactionOpen else if nat_le max_number k.cache.number then Some Exhausted else None)
unfolding call_fault
fault_of_begin L k = refl

pub fault_of_read : (L : Limits) (k : Client) (p : ℕ)
    → call_fault L k (CallRead p) ≡ (if not k.cache.welcomed then Some NotWelcome else if is_idle k.cache.status then Some NoTransaction else if is_committing k.cache.status then Some Committing
    else if is_asking k.ask then Some Waiting else if nat_le L.pages p then Some PageRange else if is_none (k.cache.content p) && not (has_room L k) then Some PoolFull else None)
unfolding call_fault
fault_of_read L k p = refl

pub fault_of_want : (L : Limits) (k : Client) (p : ℕ)
    → call_fault L k (CallWant p) ≡ (if not k.cache.welcomed then Some NotWelcome else if is_idle k.cache.status then Some NoTransaction else if is_committing k.cache.status then Some Committing
    else if is_asking k.ask then Some Waiting else if nat_le L.pages p then Some PageRange else if not (k.cache.locked p) then Some NotRead else if is_none (k.cache.content p) then Some NotHere else None)
unfolding call_fault
fault_of_want L k p = refl

pub fault_of_write : (L : Limits) (k : Client) (p : ℕ) (b : Bytes)
    → call_fault L k (CallWrite p b) ≡ (if not k.cache.welcomed then Some NotWelcome else if is_idle k.cache.status then Some NoTransaction else if is_committing k.cache.status then Some Committing
    else if is_asking k.ask then Some Waiting else if nat_le L.pages p then Some PageRange else if not (k.cache.locked p) then Some NotRead else if is_none (k.cache.content p) then Some NotHere
    else if not (k.cache.may_write p) then Some NotWritable else if not (length b == L.page_size) then Some WrongLength else None)
unfolding call_fault
fault_of_write L k p b = refl

pub fault_of_finish : (L : Limits) (k : Client)
    → call_fault L k CallFinish ≡ (if not k.cache.welcomed then Some NotWelcome else if is_idle k.cache.status then Some NoTransaction else if is_committing k.cache.status then Some Committing
    else if is_asking k.ask then Some Waiting else None)
unfolding call_fault
fault_of_finish L k = refl

pub fault_of_drop : (L : Limits) (k : Client)
    → call_fault L k CallDrop ≡ (if not k.cache.welcomed then Some NotWelcome else if is_idle k.cache.status then Some NoTransaction else if is_committing k.cache.status then Some Committing else None)
unfolding call_fault
fault_of_drop L k = refl

-- what a client does at a message: Welcome welcomes it; before that it ignores all others
pub takes_welcome : (L : Limits) (k : Client) (v : Option ℕ) → client_take L k Welcome v ≡ ChangeCache TakeWelcome ∷ []
unfolding client_take
takes_welcome L k v = refl

pub takes_nothing_unwelcomed : (L : Limits) (k : Client) (b : Body) (v : Option ℕ) → k.cache.welcomed ≡ false → b ≢ Welcome → client_take L k b v ≡ []
unfolding client_take
takes_nothing_unwelcomed L k b v e n = grind arith

pub takes_welcomed : (L : Limits) (k : Client) (b : Body) (v : Option ℕ) → k.cache.welcomed ≡ true → b ≢ Welcome → client_take L k b v ≡ take_welcomed L k b v
unfolding client_take
takes_welcomed L k b v e n = grind arith

-- Hello, by its incarnation
pub serves_new_hello : (cycle : DeadlockTest) (s : Server) (c i : ℕ) → (s.session c).current < i → server_take cycle s c i Hello ≡ admit_incarnation cycle s c i
unfolding server_take
serves_new_hello cycle s c i l = grind arith

pub serves_hello_again : (cycle : DeadlockTest) (s : Server) (c i : ℕ) → i ≡ (s.session c).current → server_take cycle s c i Hello ≡ Send c i Welcome ∷ []
unfolding server_take
serves_hello_again cycle s c i e = grind arith

pub serves_no_old_hello : (cycle : DeadlockTest) (s : Server) (c i : ℕ) → i < (s.session c).current → server_take cycle s c i Hello ≡ []
unfolding server_take
serves_no_old_hello cycle s c i l = grind arith

-- another message counts only at the current incarnation
pub serves_no_other_incarnation : (cycle : DeadlockTest) (s : Server) (c i : ℕ) (b : Body) → b ≢ Hello → i ≢ (s.session c).current → server_take cycle s c i b ≡ []
unfolding server_take
serves_no_other_incarnation cycle s c i b n e = grind arith

pub serves_current : (cycle : DeadlockTest) (s : Server) (c i : ℕ) (b : Body) → b ≢ Hello → i ≡ (s.session c).current → server_take cycle s c i b ≡ take_current cycle s c b
unfolding server_take
serves_current cycle s c i b n e = grind arith

-- steps one list after another
pub client_after_append : (keep_write : Bool) (k : Client) (xs ys : List ClientStep) → client_after keep_write k (xs ++ ys) ≡ client_after keep_write (client_after keep_write k xs) ys
client_after_append keep_write k [] ys = refl
client_after_append keep_write k (x ∷ xs) ys = client_after_append keep_write (after_client_step keep_write k x) xs ys

pub said_append : (xs ys : List ClientStep) → bodies_said (xs ++ ys) ≡ bodies_said xs ++ bodies_said ys
said_append [] ys = refl
said_append (Say b ∷ xs) ys = rw (said_append xs ys) refl
said_append (ChangeCache m ∷ xs) ys = said_append xs ys
said_append (SetAsk a ∷ xs) ys = said_append xs ys
said_append (MarkWanted p ∷ xs) ys = said_append xs ys
said_append (MarkDue p ∷ xs) ys = said_append xs ys
said_append (MarkDueDowngrade p y ∷ xs) ys = said_append xs ys
said_append (EndTransaction l ∷ xs) ys = said_append xs ys

pub server_after_append : (s : Server) (xs ys : List ServerStep) → server_after s (xs ++ ys) ≡ server_after (server_after s xs) ys
server_after_append s [] ys = refl
server_after_append s (x ∷ xs) ys = server_after_append (after_server_step s x) xs ys

pub sent_append : (xs ys : List ServerStep) → messages_sent (xs ++ ys) ≡ messages_sent xs ++ messages_sent ys
sent_append [] ys = refl
sent_append (Send c i b ∷ xs) ys = rw (sent_append xs ys) refl
sent_append (ChangeSession c m ∷ xs) ys = sent_append xs ys
sent_append (EnterQueue p a ∷ xs) ys = sent_append xs ys
sent_append (LeaveQueue p ∷ xs) ys = sent_append xs ys
sent_append (MarkCalledBack p ∷ xs) ys = sent_append xs ys
sent_append (MarkDowngradeSent p t ∷ xs) ys = sent_append xs ys
sent_append (MarkInUse c p ∷ xs) ys = sent_append xs ys
sent_append (UnmarkInUse c p ∷ xs) ys = sent_append xs ys
sent_append (RemoveAsk c ∷ xs) ys = sent_append xs ys
sent_append (Doom c ∷ xs) ys = sent_append xs ys
sent_append (ForgetTransaction c ∷ xs) ys = sent_append xs ys
sent_append (SetFlushed n ∷ xs) ys = sent_append xs ys

-- the events of a world
pub step_call : (L : Limits) (cycle : DeadlockTest) (w : World) (c : ℕ) (x : Call) (v : Option ℕ) → c < L.clients
    → step L cycle w (ClientCalls c x) v ≡ client_does L w (ClientCalls c x) c (client_call L (w.client c) x).word (client_call L (w.client c) x).steps
unfolding step
step_call L cycle w c x v l = grind arith

pub step_call_no_client : (L : Limits) (cycle : DeadlockTest) (w : World) (c : ℕ) (x : Call) (v : Option ℕ) → nat_lt c L.clients ≡ false → step L cycle w (ClientCalls c x) v ≡ answer_only w (ClientCalls c x) NoClient
unfolding step
step_call_no_client L cycle w c x v l = grind arith

pub step_take : (L : Limits) (cycle : DeadlockTest) (w : World) (n : ℕ) (v : Option ℕ) → step L cycle w (TakePacket n) v ≡ take_packet L cycle w (TakePacket n) (packet_at w.packets n) v
unfolding step
step_take L cycle w n v = refl

pub step_restart : (L : Limits) (cycle : DeadlockTest) (w : World) (c : ℕ) (v : Option ℕ) → c < L.clients → step L cycle w (Restart c) v ≡ restart_client w (Restart c) c
unfolding step
step_restart L cycle w c v l = grind arith

pub step_restart_no_client : (L : Limits) (cycle : DeadlockTest) (w : World) (c : ℕ) (v : Option ℕ) → nat_lt c L.clients ≡ false → step L cycle w (Restart c) v ≡ answer_only w (Restart c) NoClient
unfolding step
step_restart_no_client L cycle w c v l = grind arith

pub step_again : (L : Limits) (cycle : DeadlockTest) (w : World) (v : Option ℕ) → step L cycle w ServerAgain v ≡ server_does w ServerAgain AnsweredOk (server_again w.server)
unfolding step
step_again L cycle w v = refl

pub step_flush_all : (L : Limits) (cycle : DeadlockTest) (w : World) (v : Option ℕ) → step L cycle w FlushAll v ≡ flush_up_to w FlushAll w.server.store.last_commit
unfolding step
step_flush_all L cycle w v = refl

pub step_flush_to : (L : Limits) (cycle : DeadlockTest) (w : World) (n : ℕ) (v : Option ℕ) → step L cycle w (FlushTo n) v ≡ flush_up_to w (FlushTo n) n
unfolding step
step_flush_to L cycle w n v = refl

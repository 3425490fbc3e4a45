-- The commits that a world tells: an event only adds to those of the server, so what was told stays, and what it tells is serial.
use Rattle.std.proofs.Common.{◌≡◌, ◌≤◌, ◌+◌, ◌∙◌, ℕ, Bool, true, false, List, [], ◌∷◌, ◌++◌, length, map, drop, refl, ap, sym, subst, if◌then◌else◌, nat_lt, Option, Some, None, append_assoc, arith}
use Rattle.std.specs.Prelude.{reverse}
use mathlib.Core.List.{reverse-cons}
use Rattle.std.proofs.lemmas.List.{reverse-append, reverse-reverse, map-append, length-map, length-append, drop-map}
use Rattle.std.proofs.Math.Seq.{drop-append_seam}
use Rattle.cb_commit.specs.declared.commit.Commit.{Commit}
use Rattle.cb_server_state.specs.Commits.{applied_commit}
use Rattle.cb_server_state.specs.States.{newest_first}
use Rattle.cb_cache.specs.CacheState.{limits_of}
use Rattle.cb_schedule.specs.NetMoves.{NetBecomes}
use Rattle.cb_schedule.specs.NetState.{NetState, limits_in}
use Rattle.cb_transcript.specs.ProtocolEvents.{transcript_of, word_of}
use Rattle.cb_transcript.specs.Transcripts.{IsSerialOnOpening, committed_name, name_of}
use Rattle.cb_transcript.specs.declared.answer.Answer.{Answer}
use Rattle.cb_transcript.specs.declared.transcript.TransactionName.{TransactionName}
use Rattle.cb_protocol.specs.AnyMessages.{committed_names}
use Rattle.cb_protocol.specs.Basics.{Limits}
use Rattle.cb_protocol.specs.Flush.{can_flush, server_flush}
use Rattle.cb_protocol.specs.Headline.{Promise}
use Rattle.cb_protocol.specs.Messages.{Message, to_server}
use Rattle.cb_protocol.specs.Resend.{server_again}
use Rattle.cb_protocol.specs.Serial.{IsSerial, committed_operations}
use Rattle.cb_protocol.specs.Serial as serial
use Rattle.cb_protocol.specs.Server.{AppliedCommit, Server, ServerStep, after_server_step, commits_after, server_after}
use Rattle.cb_protocol.specs.Server.{ChangeSession, Send, EnterQueue, LeaveQueue, MarkCalledBack, MarkDowngradeSent, MarkInUse, UnmarkInUse, RemoveAsk, Doom, ForgetTransaction, SetFlushed}
use Rattle.cb_protocol.specs.ServerMessages.{is_exhausted, server_take}
use Rattle.cb_protocol.specs.Session.{SessionChange, Admit, BeginTransaction, DropTransaction, GrantRow, PermitWrite, RemoveRow, EndPermission, ApplyCommit}
use Rattle.cb_protocol.specs.Transcript.{transcript_operations}
use Rattle.cb_protocol.specs.WaitsFor.{on_cycle}
use Rattle.cb_protocol.specs.World.{Event, World, StepResult, step, packet_at, ClientCalls, TakePacket, Restart, ServerAgain, FlushAll, FlushTo, take_packet, flush_up_to, answer_with}
use Rattle.cb_server.specs.ServerValue.{server_of}
use Rattle.cb_schedule.specs.WorldState.{IsTold, Represents, Tells, WorldState, opened, told}

-- the later list is the earlier one with more before it
abbrev Grows : List AppliedCommit → List AppliedCommit → Type 0
Grows old new = (more : List AppliedCommit) × (new ≡ more ++ old)

change_grows : (cs : List AppliedCommit) (c i n : ℕ) (m : SessionChange) → Grows cs (commits_after cs c i n m)
change_grows cs c i n (Admit j) = ([], refl)
change_grows cs c i n (BeginTransaction t) = ([], refl)
change_grows cs c i n (DropTransaction t) = ([], refl)
change_grows cs c i n (GrantRow p g) = ([], refl)
change_grows cs c i n (PermitWrite p g) = ([], refl)
change_grows cs c i n (RemoveRow p g) = ([], refl)
change_grows cs c i n (EndPermission p g t) = ([], refl)
change_grows cs c i n (ApplyCommit t ws) = (record { client = c; incarnation = i; txn = t; number = n + 1; writes = ws } ∷ [], refl)

step_grows : (s : Server) (d : ServerStep) → Grows s.commits (after_server_step s d).commits
step_grows s (ChangeSession c m) = change_grows s.commits c (s.session c).current s.store.last_commit m
step_grows s (Send c i b) = ([], refl)
step_grows s (EnterQueue p a) = ([], refl)
step_grows s (LeaveQueue p) = ([], refl)
step_grows s (MarkCalledBack p) = ([], refl)
step_grows s (MarkDowngradeSent p t) = ([], refl)
step_grows s (MarkInUse c p) = ([], refl)
step_grows s (UnmarkInUse c p) = ([], refl)
step_grows s (RemoveAsk c) = ([], refl)
step_grows s (Doom c) = ([], refl)
step_grows s (ForgetTransaction c) = ([], refl)
step_grows s (SetFlushed n) = ([], refl)

steps_grow : (s : Server) (ds : List ServerStep) → Grows s.commits (server_after s ds).commits
steps_grow s [] = ([], refl)
steps_grow s (d ∷ ds) =
    let one = step_grows s d in
    let more = steps_grow (after_server_step s d) ds in
    (more.0 ++ one.0, more.1 ∙ ap (λ (cs : List AppliedCommit). more.0 ++ cs) one.1 ∙ sym (append_assoc more.0 one.0 s.commits))

-- so in what an event makes of a world
abbrev GrowsIn : World → StepResult → Type 0
GrowsIn w r = Grows w.server.commits r.world.server.commits

if_both : {A : Type 0} (P : A → Type 0) (b : Bool) (x y : A) → P x → P y → P (if b then x else y)
if_both P true x y p q = p
if_both P false x y p q = q

flush_grows : (w : World) (e : Event) (n : ℕ) → GrowsIn w (flush_up_to w e n)
flush_grows w e n = if_both (GrowsIn w) (can_flush w.server n) _ _ (steps_grow w.server (server_flush w.server n)) ([], refl)

take_grows : (L : Limits) (w : World) (e : Event) (m : Option Message) (g : Option ℕ) → GrowsIn w (take_packet L on_cycle w e m g)
take_grows L w e None g = ([], refl)
take_grows L w e (Some m) g =
    if_both (GrowsIn w) (to_server m.body) _ _
    (if_both (GrowsIn w) (is_exhausted w.server m.client m.incarnation m.body) _ _ ([], refl) (steps_grow w.server (server_take on_cycle w.server m.client m.incarnation m.body)))
    (if_both (GrowsIn w) _ _ _ ([], refl) ([], refl))

event_grows : (L : Limits) (w : World) (e : Event) (g : Option ℕ) → GrowsIn w (step L on_cycle w e g)
unfolding step
event_grows L w (ClientCalls c x) g = if_both (GrowsIn w) (nat_lt c L.clients) _ _ ([], refl) ([], refl)
event_grows L w (TakePacket n) g = take_grows L w (TakePacket n) (packet_at w.packets n) g
event_grows L w (Restart c) g = if_both (GrowsIn w) (nat_lt c L.clients) _ _ (if_both (GrowsIn w) _ _ _ ([], refl) ([], refl)) ([], refl)
event_grows L w ServerAgain g = steps_grow w.server (server_again w.server)
event_grows L w FlushAll g = flush_grows w FlushAll w.server.store.last_commit
event_grows L w (FlushTo n) g = flush_grows w (FlushTo n) n

-- the names of a server's commits, as they are told
abbrev pub names_in : List Commit → List serial.TransactionName
names_in cs = map name_of (map committed_name cs)

names_reversed : (cs : List AppliedCommit) → committed_names (reverse cs) ≡ reverse (committed_names cs)
names_reversed [] = refl
names_reversed (c ∷ cs) = rw (reverse-cons, reverse-cons, map-append) (ap (λ (ns : List serial.TransactionName). ns ++ committed_names (c ∷ [])) (names_reversed cs))

names_applied : (cs : List Commit) → committed_names (map applied_commit cs) ≡ names_in cs
names_applied [] = refl
names_applied (c ∷ cs) = ap (λ (ns : List serial.TransactionName). record { client = c.client; incarnation = c.incarnation; txn = c.txn } ∷ ns) (names_applied cs)

pub names_listed : (cs : List Commit) → committed_names (newest_first cs) ≡ reverse (names_in cs)
names_listed cs = names_reversed (map applied_commit cs) ∙ ap reverse (names_applied cs)

-- What is to be told after an event: the server's commits begin with those told.
pub record Follows (net : NetState) (names : List TransactionName) (cs : List Commit) : Type 0 where
  pub later : List serial.TransactionName
  pub all : names_in cs ≡ map name_of names ++ later

pub follows : (n m : NetState) (e : Event) (a : Answer) (names : List TransactionName) (cs : List Commit) → IsTold n names → NetBecomes n e a m → newest_first cs ≡ (server_of m.server).commits → Follows m names cs
follows n m e a names cs told b listed =
    let w = told.0 in
    let by = b.by_event w told.1 in
    let grown = event_grows (limits_of (limits_in n)) w e by.0 in
    let after : World = (answer_with w e (word_of a.word) by.1 by.2).world in
    let same : (step (limits_of (limits_in n)) on_cycle w e by.0).world.server.commits ≡ (server_of m.server).commits = ap (λ (r : StepResult). r.world.server.commits) by.4 ∙ ap (λ (s : Server). s.commits) by.6.server in
    let more : List serial.TransactionName = committed_names grown.0 in
    let all : reverse (names_in cs) ≡ more ++ reverse (map name_of names) =
    sym (names_listed cs) ∙ ap committed_names (listed ∙ sym same ∙ grown.1) ∙ map-append _ grown.0 w.server.commits ∙ ap (λ (ns : List serial.TransactionName). more ++ ns) (sym told.2) in
    record {
      later = reverse more;
      all = sym (reverse-reverse (names_in cs)) ∙ ap reverse all ∙ reverse-append more (reverse (map name_of names)) ∙ ap (λ (ns : List serial.TransactionName). ns ++ reverse more) (reverse-reverse (map name_of names));
    }

-- there are as many of them at least
pub enough : (m : NetState) (names : List TransactionName) (cs : List Commit) → Follows m names cs → length names ≤ length cs
enough m names cs f =
    let counted : length cs ≡ length names + length f.later =
    sym (length-map cs committed_name) ∙ sym (length-map (map committed_name cs) name_of) ∙ ap length f.all ∙ length-append (map name_of names) f.later ∙ ap (λ (n : ℕ). n + length f.later) (length-map names name_of) in
    omega (arith, counted)

-- with those behind them told, all are
pub tells : (m : NetState) (names : List TransactionName) (cs : List Commit) → newest_first cs ≡ (server_of m.server).commits → Follows m names cs → Tells m names (names ++ map committed_name (drop (length names) cs))
tells m names cs listed f =
    let rest = map committed_name (drop (length names) cs) in
    let later : map name_of rest ≡ f.later =
    ap (map name_of) (sym (drop-map committed_name (length names) cs)) ∙ sym (drop-map name_of (length names) (map committed_name cs)) ∙ ap (drop (length names)) f.all
    ∙ ap (λ (k : ℕ). drop k (map name_of names ++ f.later)) (sym (length-map names name_of)) ∙ drop-append_seam (map name_of names) f.later in
    let whole : map name_of (names ++ rest) ≡ names_in cs = map-append name_of names rest ∙ ap (λ (ns : List serial.TransactionName). map name_of names ++ ns) later ∙ sym f.all in
    record {
      later = rest;
      more = refl;
      all = ap reverse whole ∙ sym (names_listed cs) ∙ ap committed_names listed;
    }

-- What a world tells is serial, as the protocol promises of the world that it is.
pub told_is_serial : (v : WorldState) (w : World) → Represents v w → Promise (opened v) w → IsSerialOnOpening (told v)
told_is_serial v w r p =
    subst (λ (ns : List serial.TransactionName). IsSerial (opened v).bytes (committed_operations ns (transcript_operations (transcript_of v.transcript)))) (sym r.commits)
    (subst (λ es. IsSerial (opened v).bytes (committed_operations (committed_names w.server.commits) (transcript_operations es))) r.transcript p.serial.legal)

-- a transaction's name from the protocol's name of it
abbrev name_back : serial.TransactionName → TransactionName
name_back n = record { client = n.client; incarnation = n.incarnation; txn = n.txn }

names_back : (ns : List TransactionName) → map name_back (map name_of ns) ≡ ns
names_back [] = refl
names_back (n ∷ ns) = ap (λ (ms : List TransactionName). n ∷ ms) (names_back ns)

-- While a world runs, the server's commits are those that it tells.
pub listed_are_told : (v : WorldState) (w : World) (cs : List Commit) → Represents v w → newest_first cs ≡ (server_of v.net.server).commits → map committed_name cs ≡ v.commits
listed_are_told v w cs r listed =
    let reversed : reverse (map name_of v.commits) ≡ reverse (names_in cs) =
    r.commits ∙ ap (λ (s : Server). committed_names s.commits) r.net.server ∙ ap committed_names (sym listed) ∙ names_listed cs in
    let same : map name_of v.commits ≡ names_in cs = sym (reverse-reverse (map name_of v.commits)) ∙ ap reverse reversed ∙ reverse-reverse (names_in cs) in
    sym (names_back (map committed_name cs)) ∙ ap (map name_back) (sym same) ∙ names_back v.commits

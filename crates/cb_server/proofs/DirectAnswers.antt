-- The direct answers, kind by kind, as the table has them.
use Rattle.std.proofs.Common.{◌≡◌, ℕ, ◌-◌, ◌<◌, Bool, true, false, ◌&&◌, ◌==◌, if◌then◌else◌, List, [], ◌∷◌, ◌++◌, refl, sym, ap, ◌∙◌, subst, arith}
use Rattle.cb_callbacks.specs.Callbacks.{CallbacksState}
use Rattle.cb_server_state.specs.States.{Does, Stays, server_of}
use Rattle.cb_outbox.specs.Saying.{OutboxState}
use Rattle.cb_protocol.specs.Messages.{AbortNow, Body, Downgraded, Drop, GiveBack, Granted, InUse}
use Rattle.cb_protocol.specs.Numbers.{copies_sent}
use Rattle.cb_protocol.specs.Server.{ChangeSession, ForgetTransaction, MarkInUse, Send, Server, ServerStep, UnmarkInUse, has_not_ended, has_row, is_write_holder}
use Rattle.cb_protocol.specs.ServerMessages.{direct_answer, if_live}
use Rattle.cb_protocol.specs.Session.{DropTransaction, EndPermission, RemoveRow, has_live_txn}
use Rattle.cb_protocol.specs.Settling.{send_granted, send_to}
use Rattle.cb_protocol.specs.WaitsFor.{on_cycle}
use Rattle.cb_callbacks.specs.Numbers.{IsLiveOne}
use Rattle.cb_server.specs.Answering.{Begins, IsCurrent, Makes, Stands, answer_to, server_in}
use Rattle.cb_server.specs.declared.engine.Engine.{Engine}
use Rattle.cb_server.specs.declared.engine.answers.Begun.{Begun}
use Rattle.cb_server.specs.declared.engine.answers.Begun.TheVariants as begun
use Rattle.cb_server.proofs.Making.{alone, answers, changes_make, makes_as, makes_nothing, stays_same}

-- GiveBack
pub gives_back : (old new : Engine) (c p g : ℕ) → has_row (server_in old) c p g ≡ true
    → Does old.callbacks.state (UnmarkInUse c p ∷ ChangeSession c (RemoveRow p g) ∷ []) new.callbacks.state → new.outbox ≡ old.outbox
    → Makes old (answer_to on_cycle c (GiveBack p g)) new
gives_back old new c p g e changes o =
    makes_as old new (answer_to on_cycle c (GiveBack p g)) (λ s. UnmarkInUse c p ∷ ChangeSession c (RemoveRow p g) ∷ [])
    (alone on_cycle c (GiveBack p g) (server_in old) refl ∙ ap (λ b. if b then UnmarkInUse c p ∷ ChangeSession c (RemoveRow p g) ∷ [] else []) e)
    (changes_make old new _ changes o refl refl)

pub gives_nothing_back : (old : Engine) (c p g : ℕ) → has_row (server_in old) c p g ≡ false → Makes old (answer_to on_cycle c (GiveBack p g)) old
gives_nothing_back old c p g e =
    makes_as old old (answer_to on_cycle c (GiveBack p g)) (λ s. [])
    (alone on_cycle c (GiveBack p g) (server_in old) refl ∙ ap (λ b. if b then UnmarkInUse c p ∷ ChangeSession c (RemoveRow p g) ∷ [] else []) e)
    (makes_nothing old)

-- Downgraded
abbrev pub gives_up : Server → (c p g t : ℕ) → Bool
gives_up s c p g t = s.store.keep_write && has_row s c p g && is_write_holder s c p && (s.store.tag p == t)

pub goes_down : (old new : Engine) (c p g t : ℕ) → gives_up (server_in old) c p g t ≡ true
    → Does old.callbacks.state (ChangeSession c (EndPermission p g t) ∷ []) new.callbacks.state → new.outbox ≡ old.outbox
    → Makes old (answer_to on_cycle c (Downgraded p g t)) new
goes_down old new c p g t e changes o =
    makes_as old new (answer_to on_cycle c (Downgraded p g t)) (λ s. ChangeSession c (EndPermission p g t) ∷ [])
    (alone on_cycle c (Downgraded p g t) (server_in old) refl ∙ ap (λ b. if b then ChangeSession c (EndPermission p g t) ∷ [] else []) e)
    (changes_make old new _ changes o refl refl)

pub goes_nowhere : (old : Engine) (c p g t : ℕ) → gives_up (server_in old) c p g t ≡ false → Makes old (answer_to on_cycle c (Downgraded p g t)) old
goes_nowhere old c p g t e =
    makes_as old old (answer_to on_cycle c (Downgraded p g t)) (λ s. [])
    (alone on_cycle c (Downgraded p g t) (server_in old) refl ∙ ap (λ b. if b then ChangeSession c (EndPermission p g t) ∷ [] else []) e)
    (makes_nothing old)

-- how it stands, by whether it has ended
pub lives_or_not : (b : Begun) (s : Server) (c t : ℕ) → Stands b s c t → has_not_ended s c t ≡ true → (t ≡ (s.session c).txn) × (has_live_txn (s.session c) ≡ true)
lives_or_not begun.Live s c t st e = (st.is, st.lives)
lives_or_not begun.Doomed s c t st e = (st.is, st.lives)
lives_or_not begun.Ended s c t st e = absurd cc

-- InUse
pub marks : (old mid new : Engine) (c t p g : ℕ) → Begins old c t mid → has_not_ended (server_in mid) c t ≡ true → has_row (server_in mid) c p g ≡ true
    → Does mid.callbacks.state (MarkInUse c p ∷ []) new.callbacks.state → new.outbox ≡ mid.outbox
    → Makes old (answer_to on_cycle c (InUse t p g)) new
marks old mid new c t p g b e r changes o =
    answers old mid new c t (InUse t p g) refl b
    (makes_as mid new (λ s. direct_answer on_cycle s c (InUse t p g)) (λ s. MarkInUse c p ∷ []) (rw (e, r) refl) (changes_make mid new _ changes o refl refl))

pub marks_nothing : (old mid : Engine) (c t p g : ℕ) → Begins old c t mid → (has_not_ended (server_in mid) c t && has_row (server_in mid) c p g) ≡ false
    → Makes old (answer_to on_cycle c (InUse t p g)) mid
marks_nothing old mid c t p g b e =
    answers old mid mid c t (InUse t p g) refl b
    (makes_as mid mid (λ s. direct_answer on_cycle s c (InUse t p g)) (λ s. []) (ap (λ x. if x then MarkInUse c p ∷ [] else []) e) (makes_nothing mid))

-- Drop
pub drops : (old mid new : Engine) (c t : ℕ) → Begins old c t mid → has_not_ended (server_in mid) c t ≡ true → t ≡ ((server_in mid).session c).txn
    → Does mid.callbacks.state (ForgetTransaction c ∷ ChangeSession c (DropTransaction ((server_in mid).session c).txn) ∷ []) new.callbacks.state → new.outbox ≡ mid.outbox
    → Makes old (answer_to on_cycle c (Drop t)) new
drops old mid new c t b e is changes o =
    answers old mid new c t (Drop t) refl b
    (makes_as mid new (λ s. direct_answer on_cycle s c (Drop t)) (λ s. ForgetTransaction c ∷ ChangeSession c (DropTransaction t) ∷ [])
    (ap (λ x. if x then ForgetTransaction c ∷ ChangeSession c (DropTransaction t) ∷ [] else []) e)
    (changes_make mid new (ForgetTransaction c ∷ ChangeSession c (DropTransaction t) ∷ [])
    (subst (λ (x : ℕ). Does mid.callbacks.state (ForgetTransaction c ∷ ChangeSession c (DropTransaction x) ∷ []) new.callbacks.state) (sym is) changes) o refl refl))

pub drops_nothing : (old mid : Engine) (c t : ℕ) → Begins old c t mid → has_not_ended (server_in mid) c t ≡ false → Makes old (answer_to on_cycle c (Drop t)) mid
drops_nothing old mid c t b e =
    answers old mid mid c t (Drop t) refl b
    (makes_as mid mid (λ s. direct_answer on_cycle s c (Drop t)) (λ s. [])
    (ap (λ x. if x then ForgetTransaction c ∷ ChangeSession c (DropTransaction t) ∷ [] else []) e) (makes_nothing mid))

-- one message without a copy
pub says_one : (old new : Engine) (c i : ℕ) (b : Body) → IsCurrent old c i → copies_sent (Send c i b ∷ []) ≡ 0 → new.callbacks ≡ old.callbacks
    → new.outbox ≡ record old.outbox { sent = old.outbox.sent ++ record { client = c; incarnation = i; body = b } ∷ [] }
    → Makes old (λ s. send_to s c b ∷ []) new
says_one old new c i b is k same o =
    makes_as old new (λ s. send_to s c b ∷ []) (λ s. Send c i b ∷ []) (ap (λ (n : ℕ). Send c n b ∷ []) (sym is)) (record {
      says = record {
        becomes = ap (λ (x : CallbacksState). server_of x.state) same;
        sends = ap (λ (x : OutboxState). x.sent) o;
        room = ap (λ (x : OutboxState). x.room) o;
        spare = let e = ap (λ (x : OutboxState). x.spare) o in omega (arith, e, k);
        page_size = ap (λ (x : OutboxState). x.page_size) o;
      };
      stays = subst (λ (x : CallbacksState). Stays old.callbacks.state x.state) (sym same) (stays_same old.callbacks.state);
    })

-- a copy of a page, as the store has it
pub grants_one : (old new : Engine) (c i p g version : ℕ) (bytes : List ℕ) → IsCurrent old c i → version ≡ (server_in old).store.version p → bytes ≡ (server_in old).store.bytes p
    → 0 < old.outbox.spare → new.callbacks ≡ old.callbacks
    → new.outbox ≡ record old.outbox { sent = old.outbox.sent ++ record { client = c; incarnation = i; body = Granted p g version bytes } ∷ []; spare = old.outbox.spare - 1 }
    → Makes old (λ s. send_granted s c p g ∷ []) new
grants_one old new c i p g version bytes is v b some same o =
    makes_as old new (λ s. send_granted s c p g ∷ []) (λ s. Send c i (Granted p g version bytes) ∷ [])
    (sym (ap (λ (n : ℕ). Send c n (Granted p g version bytes) ∷ []) is ∙ (ap (λ (n : ℕ). Send c ((server_in old).session c).current (Granted p g n bytes) ∷ []) v
    ∙ ap (λ (l : List ℕ). Send c ((server_in old).session c).current (Granted p g ((server_in old).store.version p) l) ∷ []) b))) (record {
      says = record {
        becomes = ap (λ (x : CallbacksState). server_of x.state) same;
        sends = ap (λ (x : OutboxState). x.sent) o;
        room = ap (λ (x : OutboxState). x.room) o;
        spare = let e = ap (λ (x : OutboxState). x.spare) o in omega (arith, e, some);
        page_size = ap (λ (x : OutboxState). x.page_size) o;
      };
      stays = subst (λ (x : CallbacksState). Stays old.callbacks.state x.state) (sym same) (stays_same old.callbacks.state);
    })

-- an answer by whether the transaction lives
pub live_answer : (s : Server) (c t : ℕ) (ds : List ServerStep) → IsLiveOne s c t false → if_live s c t ds ≡ ds
live_answer s c t ds l = rw (l.not_ended, l.doomed) refl

pub doomed_answer : (s : Server) (c t : ℕ) (ds : List ServerStep) → IsLiveOne s c t true → if_live s c t ds ≡ send_to s c (AbortNow t) ∷ []
doomed_answer s c t ds l = rw (l.not_ended, l.doomed) refl

pub ended_answer : (s : Server) (c t : ℕ) (ds : List ServerStep) → has_not_ended s c t ≡ false → if_live s c t ds ≡ []
ended_answer s c t ds e = rw e refl

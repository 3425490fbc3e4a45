-- Frames that a life hears, and what its server knows by them.
use Rattle.std.proofs.Common.{◌≡◌, ◌∙◌, ◌<◌, ◌≤◌, ◌&&◌, nat_le, nat_lt, ℕ, Bool, true, false, true≢false, if◌then◌else◌, List, [], ◌∷◌, arith, refl, subst, sym}
use Rattle.std.proofs.lemmas.Bool.Decides.{nat_tests}
use Rattle.cb_frame.specs.Kinds.{kind_of_body}
use Rattle.cb_frame.specs.declared.frame.Body.{Body}
use Rattle.cb_frame.specs.declared.frame.Body.TheVariants as body
use Rattle.cb_frame.specs.declared.frame.Frame.{Frame}
use Rattle.cb_frame.specs.declared.frame.ShortBody.{ShortBody}
use Rattle.cb_frame.specs.declared.frame.ShortBody.TheVariants as short
use Rattle.cb_outbox.specs.Messages.{body_of}
use Rattle.cb_protocol.specs.AnyMessages.{SendsAgain}
use Rattle.cb_protocol.specs.Messages as protocol
use Rattle.cb_protocol.specs.Server.{Server}
use Rattle.cb_server.proofs.Knowing.{knows_after}
use Rattle.cb_server.specs.Knowing.{GreetsBelow, KnowsBelow}
use Rattle.cb_server.specs.ServerValue.{ServerValue, server_of}
use Rattle.cb_server.specs.Taking.{input_of}
use Rattle.cb_shelf.specs.LifeRows.{LifeState}
use Rattle.cb_shelf.specs.Living.{life_end, raise_end}
use Rattle.cb_serve.proofs.Inputs.{answers_nothing}
use Rattle.cb_serve.specs.Answering.{Answers, heard}
use Rattle.cb_serve.specs.Streams.{greets_from, is_hello}

-- what a frame that is let go, and one that isn't, calls the server with
pub unheard : (old : ServerValue) (end : ℕ) (f : Frame) → greets_from end f ≡ true → Answers old (heard end f) [] old
unheard old end f e = subst (λ (b : Bool). Answers old (if b then [] else input_of f ∷ []) [] old) (sym e) (answers_nothing old)

pub is_heard : (old new : ServerValue) (end : ℕ) (f : Frame) (more : List ℕ) → greets_from end f ≡ false → Answers old (input_of f ∷ []) more new → Answers old (heard end f) more new
is_heard old new end f more e answers = subst (λ (b : Bool). Answers old (if b then [] else input_of f ∷ []) more new) (sym e) answers

-- who says a Hello sends a frame of that kind
hello_by : (b : ShortBody) → body_of (body.Short b) ≡ protocol.Hello → is_hello (kind_of_body (body.Short b)) ≡ true
hello_by short.Hello e = refl
hello_by (short.AskRead txn page) e = absurd (cc)
hello_by (short.AskWrite txn page grant) e = absurd (cc)
hello_by (short.GiveBack page grant) e = absurd (cc)
hello_by (short.InUse txn page grant) e = absurd (cc)
hello_by (short.Drop txn) e = absurd (cc)
hello_by short.Welcome e = absurd (cc)
hello_by (short.MayWrite txn page grant) e = absurd (cc)
hello_by (short.Callback page grant) e = absurd (cc)
hello_by (short.Done txn number) e = absurd (cc)
hello_by (short.AbortNow txn) e = absurd (cc)
hello_by (short.Downgraded page grant txn) e = absurd (cc)
hello_by (short.Downgrade page grant txn) e = absurd (cc)

hello_kind : (b : Body) → body_of b ≡ protocol.Hello → is_hello (kind_of_body b) ≡ true
hello_kind (body.Short b) e = hello_by b e
hello_kind (body.Commit txn writes) e = absurd (cc)
hello_kind (body.Granted page grant version bytes) e = absurd (cc)

not_from : (a b : Bool) → (a && b) ≡ false → b ≡ true → a ≡ false
not_from true b e f = absurd (true≢false (sym f ∙ e))
not_from false b e f = refl

-- a frame that is heard greets below the end
greets_below : (end : ℕ) (f : Frame) → greets_from end f ≡ false → GreetsBelow (input_of f) end
greets_below end f e c i same =
    let number : f.incarnation ≡ i = cc in
    let says : body_of f.body ≡ protocol.Hello = cc in
    let before : nat_le end f.incarnation ≡ false = not_from (nat_le end f.incarnation) (is_hello (kind_of_body f.body)) e (hello_kind f.body says) in
    grind (arith, nat_tests)

-- so nobody from there on becomes known by it
pub knows_frame : (old new : ServerValue) (end : ℕ) (f : Frame) (more : List ℕ) → greets_from end f ≡ false → Answers old (input_of f ∷ []) more new
    → KnowsBelow (server_of old) end → KnowsBelow (server_of new) end
knows_frame old new end f more e answers known =
    subst (λ (s : Server). KnowsBelow s end) (sym answers.becomes) (knows_after (server_of old) (input_of f) end known (greets_below end f e))

pub knows_again : (old new : ServerValue) (end : ℕ) (more : List ℕ) → Answers old (SendsAgain ∷ []) more new → KnowsBelow (server_of old) end → KnowsBelow (server_of new) end
knows_again old new end more answers known =
    subst (λ (s : Server). KnowsBelow s end) (sym answers.becomes) (knows_after (server_of old) SendsAgain end known (λ c i e. absurd (cc)))

-- who is below the end of a life, and has no room, can be given some
pub room_left : (life : LifeState) (i : ℕ) → life.below ≤ i → i < life_end life → i < raise_end
room_left life i beyond before = go (nat_lt life.below raise_end) before
  where
    go : (b : Bool) → i < (if b then raise_end else life.below) → i < raise_end
    go true l = l
    go false l = absurd (omega (arith, l, beyond))

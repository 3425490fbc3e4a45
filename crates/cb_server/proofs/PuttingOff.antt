-- A commit that is put off until its pages are there.
use Rattle.std.proofs.Common.{◌≡◌, ℕ, false, true, List, Result, Ok, Err, IfOk, refl, sym, subst}
use Rattle.cb_callbacks.specs.Numbers as numbers
use Rattle.cb_links.specs.declared.sessions.Standing.{Standing}
use Rattle.cb_protocol.specs.Messages.{Body, Commit, PageWrite}
use Rattle.cb_protocol.specs.Server.{Server, ServerStep}
use Rattle.cb_protocol.specs.ServerMessages.{server_take, take_current}
use Rattle.cb_protocol.specs.WaitsFor.{on_cycle}
use Rattle.cb_server.specs.Answering.{CanAnswer, IsCurrent, IsLeft, IsPutOff, IsStanding, LacksNumber, Makes, Meets, Serves, applies, server_in}
use Rattle.cb_server.specs.Taking.{may_want_memory}
use Rattle.cb_server.specs.declared.engine.Engine.{Engine}
use Rattle.cb_server.specs.declared.engine.Headway.{Headway}
use Rattle.cb_server.specs.declared.engine.Headway.TheVariants as headway
use Rattle.cb_server.proofs.Beginning.{stands_left}
use Rattle.cb_server.proofs.Greeting.{current_may_want, current_taken}
use Rattle.cb_server.proofs.Making.{serves, serves_as}

-- room was made for it, and a number is left
pub puts_off : (old mid : Engine) (c i t : ℕ) (x : Standing) (ws : List PageWrite) → IsLeft old mid → mid.callbacks ≡ old.callbacks → IsCurrent old c i
    → CanAnswer mid (Commit t ws) → IsStanding old c t x → LacksNumber old c (Commit t ws) false → applies (server_in old) c t ws ≡ true
    → IsPutOff old c i (Commit t ws) x mid
puts_off old mid c i t x ws left same current room stands number allowed = record {
  waits = record {
    current = subst (λ (s : Server). i ≡ (s.session c).current) (sym left.server) current;
    stands = stands_left old mid c t x left.server stands;
    room = room;
    number = subst (λ (s : Server). numbers.LacksNumber s c (Commit t ws) false) (sym left.server) number;
    allowed = subst (λ (s : Server). applies s c t ws ≡ true) (sym left.server) allowed;
  };
  left = left;
  callbacks = same;
}

-- by another form of the steps
pub meets_as : {F : Type 0} (r : Result Headway F) (old new : Engine) (f g : Server → List ServerStep) (c i : ℕ) (b : Body) → f (server_in old) ≡ g (server_in old)
    → IfOk r (λ m. Meets old g c i b m new) → IfOk r (λ m. Meets old f c i b m new)
meets_as (Ok headway.Taken) old new f g c i b e serves = serves_as old new f g e serves
meets_as (Ok (headway.Applies x)) old new f g c i b e put = put
meets_as (Err x) old new f g c i b e holds = tt

-- of the incarnation that was current
pub current_before : (old mid : Engine) (c i : ℕ) (b : Body) (x : Standing) → IsPutOff old c i b x mid → IsCurrent old c i
current_before old mid c i (Commit t writes) x put = subst (λ (s : Server). i ≡ (s.session c).current) put.left.server put.waits.current
current_before old mid c i _ x put = absurd put.waits

-- once it is applied it is taken
pub applied : (old mid new : Engine) (c i : ℕ) (b : Body) (x : Standing) → IsPutOff old c i b x mid → Makes mid (λ s. take_current on_cycle s c b) new
    → Serves old (λ s. server_take on_cycle s c i b) new
applied old mid new c i (Commit t writes) x put makes =
    serves_as old new (λ s. server_take on_cycle s c i (Commit t writes)) (λ s. take_current on_cycle s c (Commit t writes))
    (current_taken (server_in old) c i (Commit t writes) refl (current_before old mid c i (Commit t writes) x put))
    (serves old mid new (λ s. take_current on_cycle s c (Commit t writes)) put.left makes)
applied old mid new c i _ x put makes = absurd put.waits

-- memory may be wanted for it
pub wants : (old mid : Engine) (c i : ℕ) (b : Body) (x : Standing) → IsPutOff old c i b x mid → may_want_memory (server_in old) c i b ≡ true
wants old mid c i (Commit t writes) x put = current_may_want (server_in old) c i (Commit t writes) refl (current_before old mid c i (Commit t writes) x put) refl
wants old mid c i _ x put = absurd put.waits

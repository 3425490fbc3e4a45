-- Where a client makes no room.
use Rattle.std.proofs.Common.{ℕ, zero, suc, ◌≡◌, ◌≢◌, ◌<◌, ◌⊎◌, inl, inr, Bool, true, false, List, [], ◌∷◌, ◌++◌, Option, Some, None, length, option_to_list, refl, sym, ◌∙◌, ap, arith}
use Rattle.std.specs.Option.{option_map}
use Rattle.cb_frame.specs.declared.frame.Frame.{Frame}
use Rattle.cb_outbox.specs.Messages.{body_of}
use Rattle.cb_protocol.proofs.Cases.{said_append}
use Rattle.cb_protocol.specs.Client.{bodies_said}
use Rattle.cb_protocol.specs.ClientCalls.{Call, client_again, commit_again, say_ask, say_drop}
use Rattle.cb_protocol.specs.Messages.{Body, Message}
use Rattle.cb_client_core.specs.ClientState.{ClientState, client_of}
use Rattle.cb_client_core.specs.Room.{brings_in, room_at}
use Rattle.cb_client_core.specs.declared.stage.Stage.TheVariants as stages
use Rattle.cb_client.specs.ByTable.{IsRefused, limits_at, messages_from, refusal}
use Rattle.cb_client.specs.declared.client_fault.ClientFault.{ClientFault}
use Rattle.cb_client.specs.declared.client_fault.ClientFault.TheVariants as faults
use Rattle.cb_client.specs.FramesTaken.{brings_page, is_for, room_to_take}

-- a call that the table refuses doesn't lack memory
pub not_memory : (v : ClientState) (call : Call) (f : ClientFault) → IsRefused v call f → f ≢ faults.Memory
not_memory v call f r e = let z : None ≡ Some r.reason = sym (ap refusal e) ∙ r.named in absurd cc

-- a frame at which memory may be refused is for the client
pub needs_room : (v : ClientState) (frame : Frame) → (room_to_take v frame ≡ 0 → brings_page v frame ≡ false → ⊥)
    → (is_for v frame ≡ true) × ((0 < room_at v (body_of frame.body)) ⊎ (brings_in v (body_of frame.body) ≡ true))
needs_room v frame n = by (is_for v frame) refl
  where
    either : (m : ℕ) (b : Bool) → (m ≡ 0 → b ≡ false → ⊥) → (0 < m) ⊎ (b ≡ true)
    either zero true f = inr refl
    either zero false f = absurd (f refl refl)
    either (suc m) b f = inl (omega arith)

    by : (b : Bool) → is_for v frame ≡ b → (is_for v frame ≡ true) × ((0 < room_at v (body_of frame.body)) ⊎ (brings_in v (body_of frame.body) ≡ true))
    by true e = (e, either (room_at v (body_of frame.body)) (brings_in v (body_of frame.body)) (λ z w. n (rw e z) (rw e w)))
    by false e = absurd (n (rw e refl) (rw e refl))

empty_parts : {A : Type 0} (xs ys : List A) → xs ++ ys ≡ [] → (xs ≡ []) × (ys ≡ [])
empty_parts [] ys e = (refl, e)
empty_parts (x ∷ xs) ys e = absurd cc

-- a client that isn't welcomed greets again
pub greets : (v : ClientState) → v.welcomed ≡ false → bodies_said (client_again (limits_at v) (client_of v [])) ≡ [] → ⊥
greets v e none = let said = rw e at none in cc

-- where nothing is said again, no part of it is
pub no_part : (v : ClientState) → v.welcomed ≡ true → bodies_said (client_again (limits_at v) (client_of v [])) ≡ []
    → (bodies_said (say_drop (client_of v []) (client_of v []).last_outcome) ≡ [])
    × ((bodies_said (say_ask (client_of v []) (client_of v []).ask) ≡ []) × (bodies_said (commit_again (limits_at v) (client_of v [])) ≡ []))
no_part v e none =
    let drops = say_drop (client_of v []) (client_of v []).last_outcome in
    let asked = say_ask (client_of v []) (client_of v []).ask in
    let commits = commit_again (limits_at v) (client_of v []) in
    let all : bodies_said (drops ++ (asked ++ commits)) ≡ [] = rw e at none in
    let first = empty_parts (bodies_said drops) (bodies_said (asked ++ commits)) (sym (said_append drops (asked ++ commits)) ∙ all) in
    (first.0, empty_parts (bodies_said asked) (bodies_said commits) (sym (said_append asked commits) ∙ first.1))

-- a client that is committing says its commit again
pub commits : (v : ClientState) → v.stage ≡ stages.Committing → bodies_said (commit_again (limits_at v) (client_of v [])) ≡ [] → ⊥
commits v e none = let said = rw e at none in cc

-- of no messages no frame is counted
pub none_said : {A : Type 0} (f : A → Message) (v : ClientState) (bodies : List Body) (said : Option A) → bodies ≡ [] → messages_from v bodies ≡ option_to_list (option_map f said) → length (option_to_list said) ≡ 0
none_said f v bodies None e m = refl
none_said f v bodies (Some frame) e m = let none : [] ≡ f frame ∷ [] = ap (messages_from v) (sym e) ∙ m in absurd cc

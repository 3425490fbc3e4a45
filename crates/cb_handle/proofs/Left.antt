-- A client that went away is greeted for.
use Rattle.std.proofs.Common.{◌≡◌, ℕ, List, subst}
use Rattle.cb_frame.specs.declared.frame.Body.TheVariants.{Short}
use Rattle.cb_frame.specs.declared.frame.Frame.{Frame}
use Rattle.cb_frame.specs.declared.frame.ShortBody.TheVariants as short
use Rattle.cb_handle.specs.Servers.{Does, Leaves, ServerValue, next_incarnation}
use Rattle.cb_protocol.specs.AnyMessages.{MessageComes}
use Rattle.cb_protocol.specs.Messages.{Hello, Message}
use Rattle.cb_server.specs.Taking.{Takes}

-- the Hello of an incarnation
abbrev pub hello : (client incarnation : ℕ) → Frame
hello client incarnation = record { client = client; incarnation = incarnation; body = Short short.Hello }

-- by the Hello of its next incarnation
pub left_by : (old new : ServerValue) (client named incarnation : ℕ) (messages : List Message) → named ≡ client → incarnation ≡ next_incarnation old client
    → Takes old (hello named incarnation) messages new → Leaves old client messages new
left_by old new client named incarnation messages same next takes =
    subst (λ (k : ℕ). Does old (MessageComes client k Hello) messages new) next
    (subst (λ (k : ℕ). Does old (MessageComes k incarnation Hello) messages new) same takes.does)

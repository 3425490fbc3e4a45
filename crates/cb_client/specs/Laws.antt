-- What holds of every client, whatever went before, by the contracts of its calls and messages.
use Rattle.std.specs.Prelude.{◌≡◌, ℕ, true, false, List, []}
use Rattle.cb_protocol.specs.Client.{Client}
use Rattle.cb_protocol.specs.ClientAlone.{AnswersCallback, AnswersDowngrade, GivesBackOnce}
use Rattle.cb_protocol.specs.Messages.{Body, Callback, Downgrade, Message}
use Rattle.cb_protocol.specs.Serial.{Operation}
use Rattle.cb_client_core.specs.ClientState.{ClientState, IsClient, client_of}
use Rattle.cb_client.specs.ByTable.{Takes, limits_at, messages_from}

-- These messages say this, and the protocol's client before and after is so related by it,
-- whatever operations its transaction did.
pub record SaysSo (Relates : Client → Client → List Body → Type 0) (old new : ClientState)
    (messages : List Message) (operations : List Operation) : Type 0 where
  pub said : List Body
  pub left : List Operation  -- what becomes of the operations
  pub sends : messages_from old said ≡ messages
  pub relates : Relates (client_of old operations) (client_of new left) said

-- each Callback is answered by one message, as the protocol's law says
abbrev pub CallbacksAreAnswered : Type 0
CallbacksAreAnswered = (old new : ClientState) (page grant : ℕ) (messages : List Message)
    → old.welcomed ≡ true → Takes old (Callback page grant) messages new
    → (operations : List Operation)
    → SaysSo (λ before after said. AnswersCallback before after said page grant) old new messages
    operations

-- so is each Downgrade, where write permission is kept; else nothing is said and done
pub record AnswersByKeeping (old : ClientState) (page grant tag : ℕ) (before after : Client)
    (said : List Body) : Type 0 where
  pub ignored : old.copies.limits.keep_write ≡ false → (said ≡ []) × (after ≡ before)
  pub answered : old.copies.limits.keep_write ≡ true
      → AnswersDowngrade before after said page grant tag

abbrev pub DowngradesAreAnswered : Type 0
DowngradesAreAnswered = (old new : ClientState) (page grant tag : ℕ) (messages : List Message)
    → old.welcomed ≡ true → Takes old (Downgrade page grant tag) messages new
    → (operations : List Operation)
    → SaysSo (AnswersByKeeping old page grant tag) old new messages operations

-- of every client: what it answered InUse it gives back once, as its transaction ends
abbrev pub InUseIsGivenBack : Type 0
InUseIsGivenBack = (client : ClientState) → IsClient client
    → (operations : List Operation)
    × GivesBackOnce (limits_at client) (client_of client operations)

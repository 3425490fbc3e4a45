-- The protocol's laws of a client alone hold of this one.
use Rattle.std.proofs.Common.{◌≡◌, ℕ, true, List, subst}
use Rattle.cb_protocol.proofs.DuePages.{callback_answered_at_once, downgrade_answered_at_once}
use Rattle.cb_protocol.proofs.TransactionEnds.{in_use_given_back_once}
use Rattle.cb_protocol.specs.Client.{Client, bodies_said}
use Rattle.cb_protocol.specs.ClientAlone.{AnswersCallback, GivesBackOnce, ReceivesMessage, after_input}
use Rattle.cb_protocol.specs.ClientMessages.{client_take}
use Rattle.cb_protocol.specs.Messages.{Body, Callback, Downgrade, Message}
use Rattle.cb_protocol.specs.Ranges.{InputFits}
use Rattle.cb_protocol.specs.Serial.{Operation}
use Rattle.cb_client_core.specs.ClientState.{ClientState, IsClient, client_of}
use Rattle.cb_client.specs.ByTable.{Takes, limits_at}
use Rattle.cb_client.specs.Laws.{AnswersByKeeping, SaysSo}

-- what the table's client becomes, this one becomes
says_so : (Relates : Client → Client → List Body → Type 0) (v w : ClientState) (message : Body) (messages : List Message) (t : Takes v message messages w) (ops : List Operation)
    → Relates (client_of v ops) (after_input (limits_at v) (client_of v ops) (ReceivesMessage message t.let_go)) (bodies_said (client_take (limits_at v) (client_of v ops) message t.let_go))
    → SaysSo Relates v w messages ops
says_so Relates v w message messages t ops r =
    let said = bodies_said (client_take (limits_at v) (client_of v ops) message t.let_go) in
    record {
      said = said;
      left = t.history ops;
      sends = t.makes.said ops;
      relates = subst (λ (k : Client). Relates (client_of v ops) k said) (t.makes.after ops) r;
    }

pub answers_callback : (v w : ClientState) (page grant : ℕ) (messages : List Message) → v.welcomed ≡ true → Takes v (Callback page grant) messages w → (ops : List Operation)
    → SaysSo (λ before after said. AnswersCallback before after said page grant) v w messages ops
answers_callback v w page grant messages welcomed t ops =
    says_so (λ before after said. AnswersCallback before after said page grant) v w (Callback page grant) messages t ops
    (callback_answered_at_once (limits_at v) (client_of v ops) page grant t.let_go welcomed)

pub answers_downgrade : (v w : ClientState) (page grant tag : ℕ) (messages : List Message) → v.welcomed ≡ true → Takes v (Downgrade page grant tag) messages w → (ops : List Operation)
    → SaysSo (AnswersByKeeping v page grant tag) v w messages ops
answers_downgrade v w page grant tag messages welcomed t ops =
    let law = downgrade_answered_at_once (limits_at v) (client_of v ops) page grant tag t.let_go welcomed in
    says_so (AnswersByKeeping v page grant tag) v w (Downgrade page grant tag) messages t ops (record { ignored = law.0; answered = law.1 })

pub gives_back : (v : ClientState) → IsClient v → (ops : List Operation) × GivesBackOnce (limits_at v) (client_of v ops)
gives_back v is = (is.reached.operations, in_use_given_back_once (limits_at v) (InputFits (limits_at v)) (client_of v is.reached.operations) is.reached.arises)

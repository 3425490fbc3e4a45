-- What the client's asks leave to be handed in.
use Rattle.std.proofs.Common.{◌≡◌, inl, inr, ℕ, List, [], ◌∷◌, Option, Some, None, Ok, refl, sym, ◌∙◌, ap, subst, option_to_list}
use Rattle.std.specs.Option.{option_map}
use Rattle.cb_client.specs.ByTable.{Calls, as_before, messages_from}
use Rattle.cb_client.specs.CallAnswers.{AnswersRead, Wants, after_read, read_ask, short_message}
use Rattle.cb_client.specs.declared.answers.ReadAnswer.TheVariants as read
use Rattle.cb_client.specs.declared.answers.WantAnswer.TheVariants as want
use Rattle.cb_client_core.specs.ClientState.{ClientState, client_of}
use Rattle.cb_frame.specs.declared.frame.Frame.{Frame}
use Rattle.cb_frame.specs.declared.frame.ShortFrame.{ShortFrame}
use Rattle.cb_outbox.specs.Messages.{messages_of}
use Rattle.cb_protocol.specs.Answers as table
use Rattle.cb_protocol.specs.Client.{bodies_said}
use Rattle.cb_protocol.specs.ClientCalls.{CallWant, say_ask}
use Rattle.cb_protocol.specs.Serial.{Operation}
use Rattle.cb_worker.proofs.Reading.{asks_out}
use Rattle.cb_worker.specs.Asking.{AsksFor, AsksToWrite, frame_of}
use Rattle.cb_worker.specs.Workers.{WorkerState}

-- what the client says of its ask
abbrev SaysAsk : ClientState → Option ShortFrame → Type 0
SaysAsk v said = (operations : List Operation)
    → messages_from v (bodies_said (say_ask (client_of v operations) (client_of v operations).ask)) ≡ option_to_list (option_map short_message said)

-- of a page that it has just asked for
says_read : (v next : ClientState) (page : ℕ) (said : Option ShortFrame) → AnswersRead v page (Ok read.Asked) → next ≡ after_read v page → SaysAsk next said
    → read_ask v page ∷ [] ≡ option_to_list (option_map short_message said)
says_read v next page said a e says =
    subst (λ (c : ClientState). messages_from c (bodies_said (say_ask (client_of c []) (client_of c []).ask)) ≡ option_to_list (option_map short_message said)) (e ∙ asks_out v page a) (says [])

pub says_it : (v next : ClientState) (page : ℕ) → AnswersRead v page (Ok read.Asked) → next ≡ after_read v page → SaysAsk next None → ⊥
says_it v next page a e says = absurd (let z = says_read v next page None a e says in cc)

pub asks_for : (old new : WorkerState) (page : ℕ) (ask : ShortFrame) → AnswersRead old.client page (Ok read.Asked) → new.client ≡ after_read old.client page → SaysAsk new.client (Some ask)
    → new.said ≡ frame_of ask ∷ [] → AsksFor old page new
asks_for old new page ask a e says n = record {
  asked = e ∙ asks_out old.client page a;
  said = ap (λ (l : List Frame). messages_of l) n ∙ sym (says_read old.client new.client page (Some ask) a e says);
}

-- it may write already
pub may_already : (old new : WorkerState) (page : ℕ) → Wants old.client page (Ok want.Permitted) new.client → new.said ≡ [] → AsksToWrite old page new
may_already old new page w e = record {
  word = table.Permitted;
  answered = inl refl;
  calls = subst (λ (l : List Frame). Calls old.client (CallWant page) table.Permitted (messages_of l) as_before new.client) (sym e) w;
}

-- or it asks for that
pub asks_to_write : (old new : WorkerState) (page : ℕ) (ask : ShortFrame) → Wants old.client page (Ok (want.Asked ask)) new.client → new.said ≡ frame_of ask ∷ [] → AsksToWrite old page new
asks_to_write old new page ask w n = record {
  word = table.Asked;
  answered = inr refl;
  calls = subst (λ (l : List Frame). Calls old.client (CallWant page) table.Asked (messages_of l) as_before new.client) (sym n) w;
}

-- What the client's asks leave to be handed in.
use Rattle.std.specs.Prelude.{◌≡◌, ◌⊎◌, ℕ, [], ◌∷◌}
use Rattle.cb_client.specs.ByTable.{Calls, as_before}
use Rattle.cb_client.specs.CallAnswers.{page_asked, read_ask}
use Rattle.cb_frame.specs.declared.frame.Body.TheVariants.{Short}
use Rattle.cb_frame.specs.declared.frame.Frame.{Frame}
use Rattle.cb_frame.specs.declared.frame.ShortFrame.{ShortFrame}
use Rattle.cb_outbox.specs.Messages.{messages_of}
use Rattle.cb_protocol.specs.Answers as table
use Rattle.cb_protocol.specs.ClientCalls.{CallWant}
use Rattle.cb_worker.specs.Workers.{WorkerState}

-- the frame by which it asks
abbrev pub frame_of : ShortFrame → Frame
frame_of ask =
    record { client = ask.client; incarnation = ask.incarnation; body = Short ask.body }

-- The client has asked for the page, and its ask is kept alone.
pub record AsksFor (old : WorkerState) (page : ℕ) (new : WorkerState) : Type 0 where
  pub asked : new.client ≡ page_asked old.client page
  pub said : messages_of new.said ≡ read_ask old.client page ∷ []

-- The client wants to write the page: it may already, or what it says to ask for that is kept.
pub record AsksToWrite (old : WorkerState) (page : ℕ) (new : WorkerState) : Type 0 where
  pub word : table.AnswerWord
  pub answered : (word ≡ table.Permitted) ⊎ (word ≡ table.Asked)
  pub calls : Calls old.client (CallWant page) word (messages_of new.said) as_before new.client

-- What a client answers and does at each call: first the causes of a refusal, then the calls that
-- are accepted.
use Rattle.std.specs.Prelude.{ℕ, nat_le, length, Bool, not, ◌&&◌, if◌then◌else◌, ◌==◌, List, []}
use Rattle.std.specs.Prelude.{◌∷◌, ◌++◌, Option, Some, None, zero, suc}
use Rattle.cb_protocol.specs.Answers.{AnswerWord, AnsweredBytes, AnsweredOk, Asked, ClientFault}
use Rattle.cb_protocol.specs.Answers.{Committing, Exhausted, NoTransaction, NotHere, NotRead}
use Rattle.cb_protocol.specs.Answers.{NotWelcome, NotWritable, Nothing, PageRange, Permitted}
use Rattle.cb_protocol.specs.Answers.{PoolFull, Refused, TransactionOpen, Waiting, WrongLength}
use Rattle.cb_protocol.specs.Basics.{Bytes, Limits, is_none, max_number}
use Rattle.cb_protocol.specs.Cache.{Begin, Finish, Read, WriteBytes, is_committing, is_idle}
use Rattle.cb_protocol.specs.Client.{Aborted, Ask, ChangeCache, Client, ClientStep, Dropped}
use Rattle.cb_protocol.specs.Client.{LastOutcome, MarkWanted, NoAsk, ReadAsk, Say, SetAsk, WriteAsk}
use Rattle.cb_protocol.specs.Client.{has_room, is_asking}
use Rattle.cb_protocol.specs.ClientEnd.{drop_transaction}
use Rattle.cb_protocol.specs.Messages.{AskRead, AskWrite, Commit, Drop, Hello, PageWrite}

-- the calls of a client
pub data Call : Type 0 where
  CallHello : Call  -- greet the server
  CallBegin : Call
  CallRead : (page : ℕ) → Call
  CallWant : (page : ℕ) → Call  -- ask to write the page
  CallWrite : (page : ℕ) → (bytes : Bytes) → Call
  CallFinish : Call  -- commit
  CallDrop : Call
  CallAgain : Call  -- send again what may be lost
  CallPeek : (page : ℕ) → Call  -- the bytes of the copy, outside any transaction

-- the cause of a refusal, and whether it holds
pub record Cause : Type 0 where
  pub holds : Bool
  pub fault : ClientFault

-- that fault, where the test holds
abbrev pub cause_of : Bool → ClientFault → Cause
cause_of test fault = record { holds = test; fault = fault }

-- the first fault whose cause holds
abbrev pub first_refusal : List Cause → Option ClientFault
first_refusal [] = None
first_refusal (cause ∷ causes) = if cause.holds then Some cause.fault else first_refusal causes

-- of a call that needs an open transaction
abbrev pub open_causes : Client → List Cause
open_causes client =
    cause_of (not client.cache.welcomed) NotWelcome
    ∷ cause_of (is_idle client.cache.status) NoTransaction
    ∷ cause_of (is_committing client.cache.status) Committing ∷ []

-- of one that needs an open transaction that waits for nothing, and a page that there is
abbrev pub page_causes : Limits → Client → (page : ℕ) → List Cause
page_causes limits client page =
    open_causes client
    ++ cause_of (is_asking client.ask) Waiting ∷ cause_of (nat_le limits.pages page) PageRange ∷ []

-- of one that needs a page that the transaction has read, with its bytes in the pool
abbrev pub read_causes : Client → (page : ℕ) → List Cause
read_causes client page =
    cause_of (not (client.cache.locked page)) NotRead
    ∷ cause_of (is_none (client.cache.content page)) NotHere ∷ []

-- the causes of a refusal of each call, by rising number; a call without a line is never refused
abbrev pub causes : Limits → Client → Call → List Cause
causes limits client CallBegin =
    cause_of (not client.cache.welcomed) NotWelcome
    ∷ cause_of (not (is_idle client.cache.status)) TransactionOpen
    ∷ cause_of (nat_le max_number client.cache.number) Exhausted ∷ []
causes limits client (CallRead page) =
    page_causes limits client page
    ++ cause_of (is_none (client.cache.content page) && not (has_room limits client)) PoolFull ∷ []
causes limits client (CallWant page) =
    page_causes limits client page ++ read_causes client page
causes limits client (CallWrite page bytes) =
    page_causes limits client page ++ read_causes client page
    ++ cause_of (not (client.cache.may_write page)) NotWritable
    ∷ cause_of (not (length bytes == limits.page_size)) WrongLength ∷ []
causes limits client CallFinish =
    open_causes client ++ cause_of (is_asking client.ask) Waiting ∷ []
causes limits client CallDrop = open_causes client
causes limits client _ = []

-- what the commit says of a page: its bytes and grant, if it was written
abbrev pub written_page : Client → (page : ℕ) → Option ℕ → Option Bytes → List PageWrite
written_page client page (Some grant) (Some bytes) =
    if client.cache.wrote page then record { page = page; grant = grant; bytes = bytes } ∷ []
    else []
written_page client page _ _ = []

-- of the pages before `end`, rising
abbrev pub written_pages : Client → (end : ℕ) → List PageWrite
written_pages client zero = []
written_pages client (suc page) =
    written_pages client page
    ++ written_page client page (client.cache.held page) (client.cache.content page)

-- the Commit: every page written, rising
abbrev pub say_commit : Limits → Client → List ClientStep
say_commit limits client =
    Say (Commit client.cache.number (written_pages client limits.pages)) ∷ []

-- asks to write, by the grant held
abbrev pub say_ask_write : Client → (page : ℕ) → Option ℕ → List ClientStep
say_ask_write client page None = []
say_ask_write client page (Some grant) = Say (AskWrite client.cache.number page grant) ∷ []

-- the Drop of the last transaction, if that one was dropped or aborted
abbrev pub say_drop : Client → LastOutcome → List ClientStep
say_drop client Dropped = Say (Drop client.cache.dropped) ∷ []
say_drop client Aborted = Say (Drop client.cache.dropped) ∷ []
say_drop client _ = []

-- the ask that is out
abbrev pub say_ask : Client → Ask → List ClientStep
say_ask client NoAsk = []
say_ask client (ReadAsk page) = Say (AskRead client.cache.number page) ∷ []
say_ask client (WriteAsk page) = say_ask_write client page (client.cache.held page)

-- the Commit of the transaction that is committing
abbrev pub commit_again : Limits → Client → List ClientStep
commit_again limits client =
    if is_committing client.cache.status then say_commit limits client else []

-- What may be lost is sent again: Hello until the Welcome came; then the Drop, the ask, the Commit,
-- as far as each is still open.
abbrev pub client_again : Limits → Client → List ClientStep
client_again limits client =
    if client.cache.welcomed
    then say_drop client client.last_outcome
    ++ (say_ask client client.ask ++ commit_again limits client)
    else Say Hello ∷ []

-- what a call is answered, and the steps that the client makes
pub record Reply : Type 0 where
  pub word : AnswerWord
  pub steps : List ClientStep

-- that answer, by these steps
abbrev pub reply_with : AnswerWord → List ClientStep → Reply
reply_with word steps = record { word = word; steps = steps }

-- the bytes, or none
abbrev pub peek_word : Option Bytes → AnswerWord
peek_word None = Nothing
peek_word (Some bytes) = AnsweredBytes bytes

-- a read: the bytes in the pool, and the page is locked; else an ask goes out
abbrev pub read_page : Client → (page : ℕ) → (content : Option Bytes) → Reply
read_page client page (Some bytes) =
    reply_with (AnsweredBytes bytes) (ChangeCache (Read page bytes) ∷ [])
read_page client page None =
    reply_with Asked (SetAsk (ReadAsk page) ∷ Say (AskRead client.cache.number page) ∷ [])

-- a write is wanted: it is permitted already; else an ask goes out
abbrev pub want_page : Client → (page : ℕ) → Reply
want_page client page =
    if client.cache.may_write page then reply_with Permitted (MarkWanted page ∷ [])
    else reply_with Asked (
    MarkWanted page ∷ SetAsk (WriteAsk page) ∷ say_ask_write client page (client.cache.held page)
    )

-- the calls that are not refused
abbrev pub accept_call : Limits → Client → Call → Reply
accept_call limits client CallHello = reply_with AnsweredOk (Say Hello ∷ [])
accept_call limits client CallBegin = reply_with AnsweredOk (ChangeCache Begin ∷ [])
accept_call limits client (CallRead page) = read_page client page (client.cache.content page)
accept_call limits client (CallWant page) = want_page client page
accept_call limits client (CallWrite page bytes) =
    reply_with AnsweredOk (ChangeCache (WriteBytes page bytes) ∷ [])
accept_call limits client CallFinish =
    reply_with AnsweredOk (ChangeCache Finish ∷ say_commit limits client)
accept_call limits client CallDrop =
    reply_with AnsweredOk (drop_transaction limits client Dropped)
accept_call limits client CallAgain = reply_with AnsweredOk (client_again limits client)
accept_call limits client (CallPeek page) = reply_with (peek_word (client.cache.content page)) []

-- the fault that a call is refused with, if it is
unfoldable pub call_fault : Limits → Client → Call → Option ClientFault
call_fault limits client call = first_refusal (causes limits client call)

-- refused: nothing changes
abbrev pub accept_or_refuse : Limits → Client → Call → Option ClientFault → Reply
accept_or_refuse limits client call (Some fault) = reply_with (Refused fault) []
accept_or_refuse limits client call None = accept_call limits client call

-- What a client answers and does at a call. Proofs open it by the case lemmas of proofs/Cases.
unfoldable pub client_call : Limits → Client → Call → Reply
client_call limits client call =
    accept_or_refuse limits client call (call_fault limits client call)

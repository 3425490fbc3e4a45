-- What an event is answered, and why a call of a client is refused.
use Rattle.std.specs.Prelude.{ℕ}
use Rattle.cb_protocol.specs.Basics.{Bytes}

-- Why a call is refused, by rising number, from 1: where several causes stand the lowest is
-- answered.
pub data ClientFault : Type 0 where
  NotWelcome : ClientFault  -- the server's Welcome has not come
  NoTransaction : ClientFault
  TransactionOpen : ClientFault  -- also while it commits
  Committing : ClientFault  -- the transaction's Commit is out
  Waiting : ClientFault  -- an ask is out
  PageRange : ClientFault  -- there is no such page
  NotRead : ClientFault  -- the transaction has not read the page
  NotHere : ClientFault  -- the page's grant is bare
  NotWritable : ClientFault  -- no write permission
  WrongLength : ClientFault  -- the bytes are not of a page's size
  PoolFull : ClientFault  -- every page in the pool is fixed
  Exhausted : ClientFault  -- no number is left

-- the word of an answer; ServerExhausted: the server has no number left for a message
pub data AnswerWord : Type 0 where
  AnsweredOk : AnswerWord
  AnsweredBytes : Bytes → AnswerWord
  Asked : AnswerWord
  Permitted : AnswerWord
  Nothing : AnswerWord
  Flushed : (number : ℕ) → AnswerWord
  Taken : AnswerWord
  NoPacket : AnswerWord
  Refused : ClientFault → AnswerWord
  ServerExhausted : AnswerWord
  NoClient : AnswerWord

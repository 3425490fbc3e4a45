-- What is proved where.
-- Counting: what the answer to a message costs.
-- Making: steps of the engine, one after another, and what one change of its tables is.
-- Beginning: what a transaction that begins leaves of the engine.
-- DirectAnswers: the direct answers, kind by kind, as the table has them.
-- Rooms: room for settling, once a message is answered.
-- FreePages: an ask to read of a free page, where nobody waits.
-- Arising: a server arises by frames that fit, and what it says fits.
-- Greeting: hello, by its incarnation, and every other message.
-- PuttingOff: a commit that is put off until its pages are there.
-- Committing: whether a commit is applied, and what is done.
-- Flushing: what can be flushed, in the words of the commits and of the protocol.
-- Serving: the server between two calls, and after each.
-- Resuming: a server of a new life.
-- Onward: what a message other than Hello leaves of its own client's incarnation and transaction.
-- Knowing: which incarnations a server knows.
-- LawsKept: what the protocol says of servers that arose, of each server.
-- RowsSaid: the versions of rows, by what a server's calls answered.
pub mod Counting
pub mod Making
pub mod Beginning
pub mod DirectAnswers
pub mod Rooms
pub mod FreePages
pub mod Arising
pub mod Greeting
pub mod PuttingOff
pub mod Committing
pub mod Flushing
pub mod Serving
pub mod LawsKept
pub mod RowsSaid
pub mod Resuming
pub mod Onward
pub mod Knowing

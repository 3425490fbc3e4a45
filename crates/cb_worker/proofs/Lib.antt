-- What is proved where.
-- Reading: what a worker's read of a page rests on.
-- Keeping: what a transaction uses stays while it goes on.
-- Going: an open transaction goes on by messages, or is aborted by one.
-- Using: so while a worker serves.
-- Written: what a transaction wrote is what its commit says.
-- Chain: from the read of a page to its commit.
-- Kept: the frames that are kept to be handed in.
-- Saying: how a transaction's commit is said, and said again.
-- Turning: what a turn leaves.
-- Knowing: a hand that a station knows stays known, and one that it doesn't know stays unknown.
-- Standing: what the client's words of its transaction mean.
-- Staying: a worker stays the one that it is.
-- Refusing: why a worker's calls are refused.
-- Asking: what the client's asks leave to be handed in.
-- Steps: what a call that waits is answered, once a step has an answer.
-- Serving: turns, one after another.
-- Dropping: how a transaction is dropped, and that it is said.
-- Telling: all who are to be told are told.
-- Entering: why a client doesn't join, and of what hand a worker is.
-- Admitting: a client that enters was let in.
-- Leaving: a client left, or that was refused.
pub mod Reading
pub mod Keeping
pub mod Going
pub mod Using
pub mod Written
pub mod Chain
pub mod Kept
pub mod Saying
pub mod Turning
pub mod Knowing
pub mod Standing
pub mod Staying
pub mod Refusing
pub mod Asking
pub mod Steps
pub mod Serving
pub mod Dropping
pub mod Telling
pub mod Entering
pub mod Admitting
pub mod Leaving

-- What is proved where.
-- Refusals: the first fault of a call's causes, test by test.
-- CallSteps: what the protocol's table says of each call.
-- Calling: what the table says of reading, wanting and writing a page.
-- Writing: what the protocol's table says of a commit.
-- FramesFit: every message that a client says fits the limits, and so does its frame.
-- CommitFits: so does the commit of a transaction, also while the client waits.
-- Answering: the protocol's laws of a client alone hold of this one.
-- SayingAgain: what may be lost is said again by the table.
-- Ending: what the protocol's table says of a drop.
-- Room: where a client makes no room.
pub use Rattle.cb_client_core.proofs.Reaching
pub mod Refusals
pub mod CallSteps
pub mod Calling
pub mod Writing
pub mod FramesFit
pub mod CommitFits
pub mod Answering
pub mod SayingAgain
pub mod Ending
pub mod Room

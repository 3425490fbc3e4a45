-- What is proved where.
-- Followed: which transaction each client is in, event by event.
-- Listed: which operations of a transcript are listed, and in what order.
-- Pages: pages within limits, and equal bytes.
-- Replays: what a replay shows of each page, and what a whole one says.
-- SerialChecks: what the serial check answers.
mod LivesLemmas
mod PiecesLemmas
mod TextLemmas
pub mod Followed
pub mod Listed
pub mod Pages
pub mod Replays
pub mod SerialChecks

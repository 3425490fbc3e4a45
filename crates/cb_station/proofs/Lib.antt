-- What is proved where.
-- Reached: what the protocol says of servers that arose, of a station's server.
-- Keeping: what is stored of a hand stays as the server has it, by each step and each change.
-- Following: a hand and what is stored of it, through several changes.
-- PagesRead: what a commit reads and writes, page by page.
-- Receiving: what a grant whose row stands makes of the hand.
-- Remembering: as many entries of the history are forgotten as commits.
-- Stations: what holds of every station holds after each call.
-- Calls: what holds of every station holds after each call, by what the call did.
-- Bringing: what a collected copy brings.
-- Writing: what holds of pages that clients wrote goes along the server's steps.
-- Returning: what is given back has no row any more.
-- Written: what a client wrote it still holds, by what is stored.
-- Holding: what a client wrote it still holds, after each call.
-- Admitting: what a commit that is refused is answered.
-- Telling: a station stays one whoever is told, and whatever threads tell each other.
-- Committed: what a commit that was taken, and noted, leaves.
-- Reporting: what a station has on disk once a batch is reported.
pub mod Reached
pub mod Keeping
pub mod Following
pub mod PagesRead
pub mod Receiving
pub mod Remembering
pub mod Stations
pub mod Bringing
pub mod Writing
pub mod Returning
pub mod Written
pub mod Holding
pub mod Calls
pub mod Admitting
pub mod Telling
pub mod Committed
pub mod Reporting

-- What is proved where.
-- Alike: two servers that are alike point by point are the same.
-- Rows: the rows of a page, client by client, and the directory rule.
-- Steps: what each change of the parts is to the protocol's server.
-- Committed: commits and flushes, in the words of the commits' crate and of the protocol.
-- Applying, Later: a commit that is applied; a later transaction that begins and commits at once.
-- Changes: what is said with a change.
-- Rooms, Walks: room for some of the steps; a walk that leaves out those to whom nothing is sent.
-- Calling, Again: callbacks to those with a copy; what is sent again.
-- Lost: whether steps send a message at all.
-- Spending: by which word an ask that left was spent.
pub mod Alike
pub mod Rows
pub mod Steps
pub mod Committed
pub mod Applying
pub mod Later
pub mod Changes
pub mod Rooms
pub mod Walks
pub mod Calling
pub mod Again
pub mod Lost
pub mod Spending

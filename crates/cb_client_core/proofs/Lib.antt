-- What is proved where.
-- Keeping: what holds of every client still holds where little changes.
-- Reaching: a new client, and that a client is still reached after a call or a message.
-- RoomLeft: the pool has room as before once a copy goes.
-- Taking: what the protocol's table says of each message.
-- Granting: what the protocol's table says of a grant that comes.
-- Ending: what the protocol's table says of a transaction's end.
-- Frames: the frames that a client ignores.
-- Writing: what a commit says of the pages that the transaction wrote.
-- Room: the room that a client makes at a message.
pub mod Keeping
pub mod Reaching
pub mod RoomLeft
pub mod Taking
pub mod Granting
pub mod Ending
pub mod Frames
pub mod Writing
pub mod Room

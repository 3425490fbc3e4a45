-- What is proved where.
-- Agreeing: hands that agree with a server.
-- Packing: what is held of pages stays packed, and a change of it is one of the page alone.
-- SamePages: sets of pages that are the same.
-- Noting: the history follows the server.
-- Own: what a message leaves of its own client.
-- OwnHand: a hand goes on agreeing while its own client's messages change the server.
pub mod Agreeing
pub mod Packing
pub mod SamePages
pub mod Noting
pub mod Own
pub mod OwnHand

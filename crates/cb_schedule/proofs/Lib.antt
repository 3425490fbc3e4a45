-- What is proved where.
-- Replying: what a client replies, by the table of calls.
-- Sends: what is sent stays the spelling of frames.
-- ClientWorlds: the clients of a world as one of them changes.
-- Packing: frames that are sent, and the messages that they carry.
-- Nets: what each kind of event makes of the net.
-- Worlds: a world of the protocol, event by event.
-- Playing: a play so far, and one event more.
-- Telling: the commits that a world tells.
-- Drawing: events drawn so far, and one more.
-- DiskStores: a store with a server's first commits written over it.
-- FittingCommits: what a server's commits write fits its limits.
-- NextLives: whether a floor is new, and what there is to know as a life ends.
-- OverLives: a world over all lives of its server, event by event.
-- PlayingLives: a play over all lives so far, and one event more.
--
-- The world over all lives in code
--
-- What `Lives` tells is one list of names over all lives, the first `former` of which are of former
-- ones. So the world of the present life (`present`, `OverLives`) tells the names behind these, and
-- its events are those of `World`: `within_becomes` takes `net_becomes` as it is, and joins the
-- names again (`splits`, `joins`).
--
-- A restart takes the server's first commits over the store with which its life began
-- (`store_on_disk`, `next_life`). That they fit that store, the server has by how it arose: each
-- was asked for by a Commit that fits (`commits_fit`, `FittingCommits`, by `steps_add` of
-- `cb_laws`). Their bytes and versions are the protocol's (`bytes_left`, `versions_left`,
-- `DiskStores`), and those up to a number are the first ones, since they are numbered one by one
-- (`first_up_to`). So the store is the protocol's `store_on_disk` (`disk_opening`), the server is
-- `server_of_life` by `resume`, and the names that stay are those of the commits that count
-- (`restart_becomes`). What a server admitted is told by `greatest_known`; a client that there
-- isn't has incarnation 0 (`known_below`, `NextLives`). `reached_on` then is `goes_on` of
-- `LivesGoOn`, and all that holds is `lives_headline` and `told_the_truth` (`all_holds`).
--
-- Refused edits: `restart_keeps_the_rows` by `restart_server` of `Net`, which is to hand over the
-- server; `lost_commit_kept` by `tell_life` (`ok`: so many of the names stay);
-- `restart_at_the_old_floor` by `is_new_floor` (`IsNewFloorOf`).
pub mod Replying
pub mod Sends
pub mod ClientWorlds
pub mod Packing
pub mod Nets
pub mod Worlds
pub mod Playing
pub mod Telling
pub mod Drawing
pub mod DiskStores
pub mod FittingCommits
pub mod NextLives
pub mod OverLives
pub mod PlayingLives

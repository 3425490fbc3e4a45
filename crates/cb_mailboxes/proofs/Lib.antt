-- What is proved where.
-- Posting: what is to be sent stays so while late frames are put into their mailboxes.
-- Dispatching: a dispatcher before and after its calls.
-- Mail: what lies in the mailboxes was said by the server, whatever is called.
-- Keeping: what always holds of a dispatcher is kept by its calls.
pub mod Posting
pub mod Dispatching
pub mod Mail
pub mod Keeping

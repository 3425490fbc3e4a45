-- What is proved where.
-- Counted: the flags and the count of the pages of which something is due.
-- Handing: what is due is handed out page by page.
pub mod Counted
pub mod Handing

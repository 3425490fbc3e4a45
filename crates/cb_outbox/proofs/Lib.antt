-- What is proved where.
-- Saying: steps that send.
pub mod Saying

-- What is proved where.
-- Of: a state of some limits stays so.
pub mod Of

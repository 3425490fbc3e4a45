-- What is proved where.
-- Stepping: steps in a transaction, and what follows from several in a row.
-- Asking: questions, and what several of them tell, one after another.
-- Telling: what questions about the tables tell, one after another.
-- Settling: transactions that are committed, and a look before one.
-- Questions: each text that asks is a question, whatever tables there are.
-- Answering: what rows are read as, and the tables by what was read.
-- Following: the tables follow the commits.
pub mod Stepping
pub mod Asking
pub mod Telling
pub mod Settling
pub mod Questions
pub mod Answering
pub mod Following

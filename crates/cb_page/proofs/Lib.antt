-- What is proved where.
-- Words: bits of words as flags of pages.
-- Summary: the summary of words.
-- Ranges: the tests of ranges and of rising numbers say what the ranges and the rising say.
-- ClientBits: bits of a number as members of a set of clients.
-- Lookups: look-ups in tables of equal lines.
-- Counting: a count of the entries that a test holds of, once an entry changes.
pub mod Words
pub mod Summary
pub mod Ranges
pub mod ClientBits
pub mod Lookups
pub mod Counting

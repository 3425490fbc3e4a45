-- What is proved where.
-- Growing: bars after one event more.
-- Sightings: what is seen of clients, page by page.
-- Drawing: a chart after one event more.
-- Printing: what is printed for one more of a list.
pub mod Growing
pub mod Sightings
pub mod Drawing
pub mod Printing

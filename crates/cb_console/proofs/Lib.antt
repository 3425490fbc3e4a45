-- What is proved where.
-- Lines: the lines of a list, one more at the end.
-- Checked: what the serial check says is printed, and it says no of no play.
-- PrintedDraws: what is printed of a draw is a run of it.
-- EventLines: what the line of an event means.
-- Playing: what is told of two texts, by what became of the schedule.
-- ConfigLemmas: what is wrong with a table, part by part.
-- RunLemmas: what a fault of the settings makes of a run.
pub mod Lines
pub mod Checked
pub mod PrintedDraws
pub mod EventLines
pub mod Playing
pub mod ConfigLemmas
pub mod RunLemmas

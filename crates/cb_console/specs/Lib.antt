pub mod Output
pub mod DrawnText
pub mod EventMeaning
pub mod DrawRuns
pub mod Runs
pub mod Escaped
pub mod RunSettings
pub mod Settings

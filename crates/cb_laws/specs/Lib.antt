pub mod LifeLaws
pub mod LivesEvents
pub mod Outcomes
pub mod NewRows
pub mod RowVersions
pub mod WrittenPages

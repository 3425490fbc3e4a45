pub use Rattle.cb_twoq.specs.Pages
pub use Rattle.cb_twoq.specs.Law
pub mod PoolState
pub mod CopiesState
pub mod Agree
pub mod Refusals
pub mod Lending
pub mod FaultTexts

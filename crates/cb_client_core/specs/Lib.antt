pub use Rattle.cb_outbox.specs.Messages
pub mod ClientState
pub mod Parts
pub mod ByTable
pub mod GrantCases
pub mod Room
pub mod Receiving

pub mod ServerValue
pub mod Taking
pub mod Answering
pub mod Said
pub mod ServerLaws
pub mod FaultTexts
pub mod Knowing

pub mod Mailboxes
pub mod Dispatching
pub mod Mail

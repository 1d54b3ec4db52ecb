pub mod Runs
pub mod Room
pub mod Forms
pub mod Silent
pub mod First
pub mod Fed
-- Of the promises themselves.
pub mod OneReply

pub mod Runs
pub mod Digits
pub mod Fields
pub mod Accepted
-- Of the promises themselves.
pub mod OneReply

-- Of the promises themselves.
pub mod OneReply

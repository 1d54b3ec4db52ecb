pub mod Grown
pub mod Meaning
pub mod Lengths
pub mod Laws
pub mod Turns
pub mod Stream
-- Of the promises themselves.
pub mod OneReply

pub mod Clipped
pub mod Heard
pub mod Remembers
pub mod Follows
pub mod OneReply

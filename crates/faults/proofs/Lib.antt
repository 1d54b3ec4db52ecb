-- What the proofs of the crates above cite.
pub mod Bits
pub mod Joined
-- Of the promises themselves.
pub mod OneReply

-- What the proofs of the crates above cite.
pub mod Ways
pub mod Spin
-- Of the promises themselves.
pub mod OneReply
